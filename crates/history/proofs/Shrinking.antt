-- A log is atomic by report CS-R8628 exactly if its reads have places: a shrinking gives a placement, an order with every write a shrinking.
use Prim.Native.Nat.{ℕ, zero, ◌+◌, ◌*◌, ◌≤◌, ◌<◌, min}
use native.Mathlib.Nat.{mul-le-mul_right}
use native.Mathlib.Omega.{arith}
use native.Mathlib.Decide.{ℕ_discrete, dec_lt}
use mathlib.Core.Path.{◌≡◌, refl, sym, ap, ◌∙◌}
use mathlib.Core.Logic.{◌⊎◌, inl, inr, ◌≢◌}
use mathlib.Core.List.{List}
use lib.Dec.{eqb}
use lib.ListN.{get_or}
use borrow.Author.Tests.{ne_eqb}
use Rattle.words.specs.Choice.{pick}
use Rattle.history.specs.History.{History, Read, Precedes}
use Rattle.history.specs.Linearization.{Stands, position_in, stands_behind, Linearization, FullOrder}
use Rattle.history.specs.Instants.{unit, Instants}
use Rattle.history.specs.ReadsFrom.{AnyWrite, Action}
use Rattle.history.specs.Shrinking.{Shrinking, Serial, Consistent, AtomicRun}
use Rattle.history.proofs.Placement.{Laws, Placement}
use Rattle.history.proofs.LastWrite.{position_at, last_write_is, last_write_ge}
use Rattle.history.proofs.FromOrder.{rise, placed}
use Rattle.history.proofs.Regular.{spans, read_real}
use Rattle.history.proofs.Instants.{instant_of, order_instants}

module _ (h : History) (L : Laws h) (S : AtomicRun h) where
  -- What precedes another action finishes before it starts.
  finishes_first : (a b : ℕ) → Action h a → Action h b → Precedes h a b → S.new_finish a < S.new_start b
  finishes_first a b x y p = elim (dec_lt (S.new_finish a) (S.new_start b)) [
    | yes c ↦ c
    | no c ↦ absurd (S.serial.start_apart a b x y (λ e. omega (arith, spans h L a x)) (begins_first, omega arith))
  ]
    where
      le : h.end a < b → h.end a ≤ b
      le c = omega arith

      begins_first : S.new_start a ≤ S.new_start b
      begins_first =
          omega (
            arith,
            S.shrinking.forward a x,
            S.shrinking.before_end a x,
            mul-le-mul_right S.unit (le p),
            S.shrinking.after_begin b y,
          )

  early : (r : ℕ) → Read h h.len r → S.π r < h.end r
  early r x = elim (dec_lt (S.π r) (h.end r)) [
    | yes a ↦ a
    | no a ↦
        absurd (omega (
          arith,
          S.consistent.following r x,
          S.shrinking.after_begin (S.π r) (inl (S.reads.written r x)),
          S.shrinking.forward (S.π r) (inl (S.reads.written r x)),
          S.shrinking.forward r (inr x),
          S.shrinking.before_end r (inr x),
          mul-le-mul_right S.unit (ge a),
        ))
  ]
    where
      ge : ¬ (S.π r < h.end r) → h.end r ≤ S.π r
      ge n = omega arith

  -- A write that finishes before a read starts is no later than the one that it reads.
  late : (v r : ℕ) → AnyWrite h v → Read h h.len r → S.new_finish v < S.new_start r → v ≤ S.π r
  late v r e x a = elim (dec_lt (S.π r) v) [
    | yes c ↦
        let w = S.reads.written r x in
        let t = finishes_first (S.π r) v (inl w) (inl e) (L.alone (S.π r) v w e c) in
        absurd (S.consistent.none_between r v x e (omega (arith, t), omega (arith, a)))
    | no c ↦ omega arith
  ]

  pub run_placed : Placement h h.len S.π
  run_placed = record {
    source = S.reads.written;
    suits = S.reads.suits;
    early = early;
    late = λ w r e x a. late w r e x (finishes_first w r (inl e) (inr x) a);
    mono = λ r s x y a.
        late (S.π r) s (S.reads.written r x) y
        (omega (arith, S.consistent.following r x, S.shrinking.forward r (inr x), finishes_first r s (inr x) (inr y) a));
  }

module _ (h : History) (L : Laws h) (l : List ℕ) (F : FullOrder h l) where
  abbrev O : Linearization h h.len l
  O = F.order

  I : Instants h l (instant_of l)
  I = order_instants h L h.len l O

  -- the start's instant, and that of an operation's place in l
  time_of : ℕ → ℕ
  time_of a = pick (eqb a 0) 0 (instant_of l (position_in l a))

  time_start : time_of 0 ≡ 0
  unfolding time_of
  time_start = refl

  -- a stands in l
  record Listed (a : ℕ) : Type 0 where
    real : zero < a
    there : Stands l (position_in l a) a
    time : time_of a ≡ instant_of l (position_in l a)

  listed : (a : ℕ) → zero < a → (i : ℕ) → Stands l i a → Listed a
  unfolding time_of
  listed a p i s = record { real = p; there = position_at l i a s; time = rw (ne_eqb a 0 (λ e. omega arith)) }

  of_read : (r : ℕ) → Read h h.len r → Listed r
  of_read r x = let t = O.reads r x in listed r (read_real h L r x) t.0 t.1

  of_write : (w : ℕ) → AnyWrite h w → (w ≡ 0) ⊎ Listed w
  of_write w x = elim (dec_lt 0 w) [
    | yes p ↦ let t = F.all_writes w (record { is = x; real = p }) in inr (listed w p t.0 t.1)
    | no p ↦ inl (omega arith)
  ]

  -- An action is the start or stands in l.
  of : (a : ℕ) → Action h a → (a ≡ 0) ⊎ Listed a
  of a (inl w) = of_write a w
  of a (inr r) = inr (of_read a r)

  later_than_begin : (a : ℕ) → (a ≡ 0) ⊎ Listed a → a * unit l ≤ time_of a
  later_than_begin a (inl e) = rw (e, time_start) (omega arith)
  later_than_begin a (inr x) = omega (arith, x.time, I.after (position_in l a) a x.there)

  after_start : (a : ℕ) → Listed a → time_of 0 < time_of a
  after_start a x = omega (arith, time_start, x.time, I.after (position_in l a) a x.there)

  -- What stands earlier in l has the earlier time.
  rises : (a b : ℕ) → Listed a → Listed b → position_in l a < position_in l b → time_of a < time_of b
  rises a b x y c = omega (arith, x.time, y.time, I.rising (position_in l a) (position_in l b) c y.there.within)

  -- No two have one place.
  ordered : (a b : ℕ) → Listed a → Listed b → a ≢ b → (position_in l a < position_in l b) ⊎ (position_in l b < position_in l a)
  ordered a b x y n = elim (dec_lt (position_in l a) (position_in l b)) [
    | yes c ↦ inl c
    | no c ↦ elim (dec_lt (position_in l b) (position_in l a)) [ yes d ↦ inr d | no d ↦ absurd (n (same (omega arith))) ]
  ]
    where
      same : position_in l a ≡ position_in l b → a ≡ b
      same e = sym x.there.there ∙ ap (λ i. get_or l i 0) e ∙ y.there.there

  apart : (a b : ℕ) → (a ≡ 0) ⊎ Listed a → (b ≡ 0) ⊎ Listed b → a ≢ b → time_of a ≢ time_of b
  apart a b (inl e) (inl f) n = λ _. n (omega arith)
  apart a b (inl e) (inr y) n = λ g. omega (arith, ap time_of e, after_start b y)
  apart a b (inr x) (inl f) n = λ g. omega (arith, ap time_of f, after_start a x)
  apart a b (inr x) (inr y) n = λ g. elim (ordered a b x y n) [
    | inl c ↦ omega (arith, rises a b x y c)
    | inr c ↦ omega (arith, rises b a y x c)
  ]

  P : Placement h h.len (stands_behind h l)
  P = placed h L h.len l O

  -- the write that a read stands behind
  abbrev from : ℕ → ℕ
  from r = stands_behind h l r

  -- It stands before the read, or is the start.
  behind : (r : ℕ) → Read h h.len r → (from r ≡ 0) ⊎ (Listed (from r) × (position_in l (from r) < position_in l r))
  unfolding stands_behind
  behind r x = elim (dec_lt 0 (from r)) [
    | yes p ↦ elim (last_write_is h l (position_in l r) (omega (arith, (of_read r x).there.within))) [
      | inl e ↦ inl e
      | inr t ↦
          let y = listed (from r) p t.0 t.2 in
          inr (y, omega (arith, O.once (position_in l (from r)) t.0 (from r) y.there t.2))
    ]
    | no p ↦ inl (omega arith)
  ]

  following : (r : ℕ) → Read h h.len r → time_of (from r) < time_of r
  following r x = elim (behind r x) [
    | inl e ↦ omega (arith, ap time_of e, after_start r (of_read r x))
    | inr y ↦ rises (from r) r y.0 (of_read r x) y.1
  ]

  -- A write before the read is not later than the one that it stands behind.
  not_later : (r v : ℕ) → Read h h.len r → AnyWrite h v → Listed v → time_of v < time_of r → v ≤ from r
  unfolding stands_behind
  not_later r v x e y a = elim (dec_lt (position_in l v) (position_in l r)) [
    | yes c ↦
        last_write_ge h l (rise h L h.len l O) (position_in l r) (position_in l v) v (omega (arith, (of_read r x).there.within)) c y.there e
    | no c ↦ elim (ordered v r y (of_read r x) (λ q. omega (arith, ap time_of q))) [
      | inl d ↦ absurd (c d)
      | inr d ↦ absurd (omega (arith, rises r v (of_read r x) y d))
    ]
  ]

  none_between : (r v : ℕ) → Read h h.len r → AnyWrite h v → ¬ ((time_of (from r) < time_of v) × (time_of v < time_of r))
  none_between r v x e (a, b) = elim (of_write v e) [
    | inl z ↦ omega (arith, ap time_of z, time_start)
    | inr y ↦ let c = not_later r v x e y b in elim (behind r x) [
      | inl z ↦ omega (arith, y.real)
      | inr t ↦ elim (ℕ_discrete v (from r)) [
        | yes q ↦ omega (arith, ap time_of q)
        | no q ↦
            omega (
              arith,
              rises v (from r) y t.0
                  (O.respects _ _ v (from r) y.there t.0.there (L.alone v (from r) e (P.source r x) (omega arith))),
            )
      ]
    ]
  ]

  -- Twice as fine, an instant has room for a start and a finish; the start reading's has both at 0.
  start_of : ℕ → ℕ
  start_of a = time_of a + time_of a

  finish_of : ℕ → ℕ
  finish_of a = start_of a + min a 1

  shrinks : Shrinking h (unit l + unit l) start_of finish_of
  unfolding start_of finish_of
  shrinks = record {
    after_begin = λ a x. omega (arith, later_than_begin a (of a x));
    forward = λ a x. omega arith;
    before_end = λ a x. sooner a (of a x);
    one_to_one = λ a x p e. omega arith;
  }
    where
      sooner : (a : ℕ) → (a ≡ 0) ⊎ Listed a → finish_of a ≤ h.end a * (unit l + unit l)
      sooner a (inl e) = rw (e, time_start) (omega arith)
      sooner a (inr x) = omega (arith, x.time, I.before (position_in l a) a x.there)

  is_serial : Serial h start_of finish_of
  unfolding start_of finish_of
  is_serial = record {
    start_apart = λ a b x y n w. apart a b (of a x) (of b y) n (omega (arith, w.0, w.1));
    finish_apart = λ a b x y n w. apart a b (of a x) (of b y) n (omega (arith, w.0, w.1));
  }

  is_consistent : Consistent h start_of finish_of from
  unfolding start_of finish_of
  is_consistent = record {
    following = λ r x. omega (arith, following r x);
    none_between = λ r v x e w. none_between r v x e (omega (arith, w.0), omega (arith, w.1));
  }

  pub shrunk : AtomicRun h
  shrunk = record {
    π = from;
    reads = record { written = P.source; suits = P.suits };
    unit = unit l + unit l;
    new_start = start_of;
    new_finish = finish_of;
    shrinking = shrinks;
    serial = is_serial;
    consistent = is_consistent;
  }
