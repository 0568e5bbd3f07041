-- The judge's order is the one that the document describes, and there is no other.
use Prim.Native.Nat.{ℕ, suc, ◌≤◌, ◌<◌, ◌*◌}
use native.Mathlib.Omega.{arith}
use native.Mathlib.Decide.{dec_lt}
use mathlib.Core.Path.{◌≡◌, ◌∙◌, sym, ap}
use mathlib.Core.Logic.{◌⊎◌, inl, inr, ◌≢◌}
use mathlib.Core.List.{List}
use Rattle.history.specs.History.{History, Read, Write}
use Rattle.history.proofs.Placement.{Laws, Placement}
use Rattle.history.specs.Linearization.{Stands, position_in, last_write, stands_behind, Linearization}
use Rattle.history.proofs.LastWrite.{position_at, last_write_is, last_write_ge}
use Rattle.history.specs.Sweep.{place}
use Rattle.history.proofs.Least.{sound, least, complete}
use Rattle.history.specs.Listing.{build}
use Rattle.history.proofs.Built.{key, key_write, key_read, key_bound, lex, lex', behind_has, build_rising, ordered, only, has_read, has_write, last_place, key_by, build_needed}
use Rattle.history.proofs.FromOrder.{placed, rise, mono}
use Rattle.history.proofs.Unique.{rising_same, rising_of}
use Rattle.history.specs.Earliest.{Earliest}

module _ (h : History) (L : Laws h) (l : List ℕ) (C : Earliest h l) where
  abbrev m : ℕ
  m = h.len

  O : Linearization h m l
  O = C.order

  P : Placement h m (place h)
  P = sound h L m (complete h L m (stands_behind h l) (placed h L m l O))

  B : Linearization h m (build h m (place h) m)
  B = ordered h L m (place h) P

  -- A read's place in l is the sweep's.
  placed_at : (i r : ℕ) → Stands l i r → Read h m r → last_write h l i ≡ place h r
  unfolding stands_behind
  placed_at i r s x =
      let t = has_read h L m (place h) P r x in
      let u = last_place h L m (place h) P t.0 r t.1 x in
      let e : i ≡ position_in l r = O.once i (position_in l r) r s (position_at l i r s) in
      omega (arith, C.earliest i r s x (build h m (place h) m) B t.0 t.1, ap (last_write h l) e, least h L m (stands_behind h l) (placed h L m l O) r x)

  -- A write behind place i is later than the last_write one before it.
  before : (i j y : ℕ) → Stands l j y → Write h y → i < j
      → (last_write h l i ≡ 0) ⊎ ((k : ℕ) × (k < i) × Stands l k (last_write h l i) × (h.kind (last_write h l i) ≡ 1)) → last_write h l i < y
  before i j y t v a (inl e) = omega (arith, v.real)
  before i j y t v a (inr u) =
      let c : last_write h l i ≢ y = λ e. absurd (omega (arith, O.once u.0 j y (rw (← e) u.2) t)) in
      omega (arith, rise h L m l O u.0 j (last_write h l i) y u.2 t u.3 v.is (omega arith))

  keys : (i j x y : ℕ) → Stands l i x → Stands l j y → i < j → key h (place h) x < key h (place h) y
  keys i j x y s t a = go (O.only i x s) (O.only j y t)
    where
      go : Write h x ⊎ Read h m x → Write h y ⊎ Read h m y → key h (place h) x < key h (place h) y
      go (inl u) (inl v) =
          let c : x ≢ y = λ e. absurd (omega (arith, O.once i j y (rw (← e) s) t)) in
          rw (key_write h (place h) x u.is, key_write h (place h) y v.is)
          (omega (arith, lex' (suc m) x y 0 0 (omega (arith, rise h L m l O i j x y s t u.is v.is a)) (omega arith)))
      go (inl u) (inr v) =
          rw (key_write h (place h) x u.is, key_read h (place h) y v.is)
          (omega (
            arith,
            lex (suc m) x (place h y) 0 (suc (h.end y))
                (omega (arith, placed_at j y t v, last_write_ge h l (rise h L m l O) j i x (omega arith) a s u.is)) (omega arith),
          ))
      go (inr u) (inl v) =
          rw (key_read h (place h) x u.is, key_write h (place h) y v.is)
          (omega (arith, lex' (suc m) (place h x) y (suc (h.end x)) 0 (omega (arith, placed_at i x s u, before i j y t v a (last_write_is h l i (omega arith)))) (omega (arith, u.ended))))
      go (inr u) (inr v) =
          let c : place h x ≤ place h y = omega (arith, placed_at i x s u, placed_at j y t v, mono h L m l O i j a t.within) in
          rw (key_read h (place h) x u.is, key_read h (place h) y v.is)
          (elim (dec_lt (place h x) (place h y)) [
            | yes d ↦ lex' (suc m) (place h x) (place h y) (suc (h.end x)) (suc (h.end y)) d (omega (arith, u.ended))
            | no d ↦ lex (suc m) (place h x) (place h y) (suc (h.end x)) (suc (h.end y)) c
                (omega (arith, C.by_end i j x y s t u v (omega (arith, placed_at i x s u, placed_at j y t v)) a))
          ])

  bounds : (i x : ℕ) → Stands l i x → (0 ≤ key h (place h) x) × (key h (place h) x < m * suc m)
  bounds i x s = (omega arith, key_bound h L m (place h) P x (O.only i x s))

  -- The same operations are listed.
  there : (i x : ℕ) → Stands l i x → (j : ℕ) × Stands (build h m (place h) m) j x
  there i x s = go (O.only i x s)
    where
      go : Write h x ⊎ Read h m x → (j : ℕ) × Stands (build h m (place h) m) j x
      go (inr u) = has_read h L m (place h) P x u
      go (inl u) = elim (dec_lt (h.end x) m) [
        | yes a ↦ has_write h L m (place h) P x u (inl a)
        | no a ↦
            let n = C.needed i x s u (omega arith) in
            let e : place h n.1 ≡ x = sym (placed_at n.0 n.1 n.2 n.3) ∙ n.4 in
            let b = behind_has h L m (place h) x m n.1 n.3 e n.3.ended in
            has_write h L m (place h) P x u (inr (omega (arith, b.1)))
      ]

  back : (i x : ℕ) → Stands (build h m (place h) m) i x → (j : ℕ) × Stands l j x
  back i x s = go (only h L m (place h) P i x s)
    where
      go : Write h x ⊎ Read h m x → (j : ℕ) × Stands l j x
      go (inr u) = O.reads x u
      go (inl u) = held u (build_needed h L m (place h) m i x s u)
        where
          held : Write h x → (h.end x < m) ⊎ ((r : ℕ) × Read h m r × (place h r ≡ x)) → (j : ℕ) × Stands l j x
          held u (inl a) = O.writes x u a
          held u (inr t) =
              let w = O.reads t.0 t.1 in
              let e : last_write h l w.0 ≡ x = placed_at w.0 t.0 w.1 t.1 ∙ t.2 in
              at u e (last_write_is h l w.0 (omega (arith, w.1)))
            where
              at : {k : ℕ} → Write h x → last_write h l k ≡ x
                  → (last_write h l k ≡ 0) ⊎ ((j : ℕ) × (j < k) × Stands l j (last_write h l k) × (h.kind (last_write h l k) ≡ 1)) → (j : ℕ) × Stands l j x
              at u e (inl z) = absurd (omega (arith, u.real))
              at u e (inr z) = (z.0, rw (← e) z.2)

  pub unique : l ≡ build h m (place h) m
  unique =
      rising_same (key h (place h)) l (build h m (place h) m) 0 (m * suc m)
      (rising_of (key h (place h)) l 0 (m * suc m) (omega arith) bounds keys)
      (build_rising h L m (place h) m) there back

-- And it is one, where there is any order.
module _ (h : History) (L : Laws h) (P : Placement h h.len (place h)) where
  abbrev b : List ℕ
  b = build h h.len (place h) h.len

  at_place : (i r : ℕ) → Stands b i r → Read h h.len r → last_write h b i ≡ place h r
  at_place = last_place h L h.len (place h) P

  pub listing_earliest : Earliest h b
  listing_earliest = record {
    order = ordered h L h.len (place h) P;
    earliest = λ i r s x l' O j t. first i r s x l' O j t;
    by_end = λ i j r s t u x y e a.
        let k = key_by h L h.len (place h) P i j r s t u a in
        let q : place h r ≡ place h s = sym (at_place i r t x) ∙ e ∙ at_place j s u y in
        omega (arith, key_read h (place h) r x.is, key_read h (place h) s y.is, ap (λ z. z * suc h.len) q);
    needed = λ i w s x a. some i w s x a (build_needed h L h.len (place h) h.len i w s x);
  }
    where
      first : (i r : ℕ) → Stands b i r → Read h h.len r → (l' : List ℕ) → Linearization h h.len l' → (j : ℕ) → Stands l' j r → last_write h b i ≤ last_write h l' j
      first i r s x l' O j t =
          let e : j ≡ position_in l' r = O.once j (position_in l' r) r t (position_at l' j r t) in
          omega (arith, at_place i r s x, ap (last_write h l') e, least_in l' O r x)
        where
          least_in : (l' : List ℕ) → Linearization h h.len l' → (r : ℕ) → Read h h.len r → place h r ≤ last_write h l' (position_in l' r)
          least_in l' O r x = unfold stands_behind in least h L h.len (stands_behind h l') (placed h L h.len l' O) r x

      some : (i w : ℕ) → Stands b i w → Write h w → h.len ≤ h.end w → (h.end w < h.len) ⊎ ((r : ℕ) × Read h h.len r × (place h r ≡ w))
          → (j r : ℕ) × Stands b j r × Read h h.len r × (last_write h b j ≡ w)
      some i w s x a (inl c) = absurd (omega arith)
      some i w s x a (inr t) =
          let u = has_read h L h.len (place h) P t.0 t.1 in
          (u.0, t.0, u.1, t.1, at_place u.0 t.0 u.1 t.1 ∙ t.2)
