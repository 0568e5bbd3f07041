-- A log is atomic by report CS-R8704 exactly if its reads have places: a choice of writes that makes it so is a placement.
use Prim.Native.Nat.{ℕ, zero, ◌≤◌, ◌<◌}
use native.Mathlib.Omega.{arith}
use native.Mathlib.Decide.{ℕ_discrete, dec_lt}
use mathlib.Core.Path.{◌≡◌, ap}
use mathlib.Core.Logic.{◌⊎◌, inl, inr, ◌≢◌}
use Rattle.history.specs.History.{History, Read, Precedes}
use Rattle.history.specs.ReadsFrom.{AnyWrite, Action}
use Rattle.history.specs.Regular.{Precedence, Concurrent, LastBefore, Atomic}
use Rattle.history.proofs.Placement.{Laws, Placement}

module _ (h : History) (L : Laws h) where
  -- An action does not end before it begins, and begins within the log.
  pub spans : (a : ℕ) → Action h a → (a ≤ h.end a) × (a < h.len)
  spans a (inl w) = elim (dec_lt 0 a) [
    | yes c ↦ omega (arith, L.write_end a w c, L.write a w)
    | no c ↦ omega (arith, L.write a w)
  ]
  spans a (inr r) = omega (arith, L.read_end a r.is, r.ended)

  -- No read begins at row 0.
  pub read_real : (r : ℕ) → Read h h.len r → zero < r
  read_real r x = elim (dec_lt 0 r) [ yes p ↦ p | no p ↦ let e : r ≡ 0 = omega arith in absurd (omega (arith, L.start, rw e at x.is)) ]

  -- A write precedes every later one.
  writes_in_turn : (v w : ℕ) → AnyWrite h v → AnyWrite h w → v ≤ w → (v ≡ w) ⊎ Precedes h v w
  writes_in_turn v w e f a = elim (ℕ_discrete v w) [ yes q ↦ inl q | no n ↦ inr (L.alone v w e f (omega arith)) ]

  total : (v w : ℕ) → AnyWrite h v → AnyWrite h w → (v ≡ w) ⊎ Precedes h v w ⊎ Precedes h w v
  total v w e f = elim (dec_lt v w) [
    | yes a ↦ inr (inl (L.alone v w e f a))
    | no a ↦ elim (writes_in_turn w v f e (omega arith)) [ inl q ↦ inl (omega arith) | inr p ↦ inr (inr p) ]
  ]

  pub strict : Precedence h
  strict = record {
    irreflexive = λ a x p. omega (arith, spans a x);
    transitive = λ a b c y p q. omega (arith, spans b y);
    total = total;
    start = L.start;
    start_before = λ a x p. omega (arith, L.start_end);
    unended_last = λ w a x e y p. omega (arith, spans a y);
  }

  module _ (f : ℕ → ℕ) (A : Atomic h f) where
    abbrev written : (r : ℕ) → Read h h.len r → AnyWrite h (f r)
    written = A.regular.from.written

    early : (r : ℕ) → Read h h.len r → Concurrent h (f r) r ⊎ LastBefore h (f r) r → f r < h.end r
    early r x (inl c) = omega (arith, c.not_after, apart)
      where
        apart : f r ≢ h.end r
        apart e = omega (arith, ap h.kind e, written r x, L.read_done r x.is x.ended)
    early r x (inr b) = omega (arith, b.before, spans (f r) (inl (written r x)), L.read_end r x.is)

    late : (w r : ℕ) → AnyWrite h w → Read h h.len r → Precedes h w r → Concurrent h (f r) r ⊎ LastBefore h (f r) r → w ≤ f r
    late w r e x a (inl c) = elim (dec_lt (f r) w) [
      | yes d ↦ absurd (c.not_before (omega (arith, L.alone (f r) w (written r x) e d, spans w (inl e))))
      | no d ↦ omega arith
    ]
    late w r e x a (inr b) = elim (b.last w e a) [ inl q ↦ omega arith | inr p ↦ omega (arith, spans w (inl e)) ]

    mono : (r s : ℕ) → Read h h.len r → Read h h.len s → Precedes h r s → f r ≤ f s
    mono r s x y a = elim (dec_lt (f s) (f r)) [
      | yes d ↦
          absurd (A.no_inversion r s x y (record { reads = a; writes = omega (arith, L.alone (f s) (f r) (written s y) (written r x) d) }))
      | no d ↦ omega arith
    ]

    pub atomic_placed : Placement h h.len f
    atomic_placed = record {
      source = written;
      suits = A.regular.from.suits;
      early = λ r x. early r x (A.regular.near r x);
      late = λ w r e x a. late w r e x a (A.regular.near r x);
      mono = mono;
    }

  module _ (p : ℕ → ℕ) (P : Placement h h.len p) where
    near : (r : ℕ) → Read h h.len r → Concurrent h (p r) r ⊎ LastBefore h (p r) r
    near r x = elim (dec_lt (h.end (p r)) r) [
      | yes a ↦ inr (record { before = a; last = λ v e b. writes_in_turn v (p r) e (P.source r x) (P.late v r e x b) })
      | no a ↦ inl (record { not_before = a; not_after = λ b. omega (arith, P.early r x) })
    ]

    pub placed_atomic : Atomic h p
    placed_atomic = record {
      regular = record { from = record { written = P.source; suits = P.suits }; near = near };
      no_inversion = λ r s x y i. omega (arith, P.mono r s x y i.reads, i.writes, spans (p s) (inl (P.source s y)));
    }
