-- Insertion into a list that is sorted by what its entries stand for.
use Prim.Native.Nat.{ℕ, suc, zero, ◌≤◌, ◌<◌, ◌+◌, ◌-◌}
use native.Mathlib.Omega.{arith}
use native.Mathlib.Decide.{ℕ_discrete, dec_lt}
use mathlib.Core.Path.{◌≡◌, refl, ◌∙◌, sym, ap}
use mathlib.Core.Logic.{◌⊎◌, inl, inr}
use mathlib.Core.List.{List, ◌∷◌, ◌++◌}
use lib.Dec.{leb, leb→le, nleb→lt}
use lib.ListN.{length, get_or, take, drop, get_or-append}
use lib.Seq.{length-take-le, get_or-take, get_or-drop, get_or_at, get_or-append-add}
use Rattle.words.proofs.Laws.Choice.{pick_T}
use Rattle.history.specs.Linearization.{Stands}
use Rattle.judging.specs.Keys.{slot, put_at, limit_of, inserted}
use Rattle.judging.proofs.Places.{slot_le, length_inserted}

slot_above : (limit : ℕ) (l : List ℕ) (n t : ℕ) → slot limit l n ≤ t → t < n → limit < get_or l t 0
unfolding slot
slot_above limit l zero t = λ a b. absurd (omega arith)
slot_above limit l (suc i) t =
    pick_T (λ z. z ≤ t → t < suc i → limit < get_or l t 0) (leb (get_or l i 0) limit)
    (λ _ a b. absurd (omega arith))
    (λ n a b. elim (ℕ_discrete t i) [ yes e ↦ rw e (nleb→lt _ _ n) | no m ↦ slot_above limit l i t a (omega arith) ])

slot_below : (limit : ℕ) (l : List ℕ) (n : ℕ) → 0 < slot limit l n → get_or l (slot limit l n - 1) 0 ≤ limit
unfolding slot
slot_below limit l zero = λ a. absurd (omega arith)
slot_below limit l (suc i) =
    pick_T (λ z. 0 < z → get_or l (z - 1) 0 ≤ limit) (leb (get_or l i 0) limit)
    (λ t a. let e : suc i - 1 ≡ i = omega arith in rw e (leb→le _ _ t))
    (λ _ a. slot_below limit l i a)

module _ (j key : ℕ) (l : List ℕ) (b : j ≤ length l) where
  front : length (take j l) ≡ j
  front = length-take-le j l b

  put_lo : (i : ℕ) → i < j → get_or (put_at j key l) i 0 ≡ get_or l i 0
  unfolding put_at
  put_lo i a = get_or-append (take j l) (key ∷ drop j l) 0 i (omega (arith, front)) ∙ get_or-take j l i 0 a

  put_at_lem : get_or (put_at j key l) j 0 ≡ key
  unfolding put_at
  put_at_lem = get_or_at (take j l) key (drop j l) 0 j front

  put_hi : (i : ℕ) → j < i → get_or (put_at j key l) i 0 ≡ get_or l (i - 1) 0
  unfolding put_at
  put_hi i a =
      let e : i ≡ length (take j l) + suc (i - suc j) = omega (arith, front) in
      let f : j + (i - suc j) ≡ i - 1 = omega arith in
      ap (λ (k : ℕ). get_or (take j l ++ (key ∷ drop j l)) k 0) e ∙ get_or-append-add (take j l) (key ∷ drop j l) (suc (i - suc j)) 0
      ∙ get_or-drop j l (i - suc j) 0 ∙ ap (λ (k : ℕ). get_or l k 0) f

-- Sorted by f.
abbrev pub Sorted : (ℕ → ℕ) → List ℕ → Type 0
Sorted f l = (a b : ℕ) → a < b → b < length l → f (get_or l a 0) < f (get_or l b 0)

-- The limit of key tells on which side of it an entry x goes.
abbrev pub Sides : (ℕ → ℕ) → ℕ → ℕ → Type 0
Sides f key x = (x ≤ limit_of key → f x < f key) × (limit_of key < x → f key < f x)

module _ (key : ℕ) (l : List ℕ) where
  j : ℕ
  j = slot (limit_of key) l (length l)

  j_le : j ≤ length l
  unfolding j
  j_le = slot_le (limit_of key) l (length l)

  is_put : inserted key l ≡ put_at j key l
  unfolding inserted j
  is_put = refl

  over : (b : ℕ) → j ≤ b → b < length l → limit_of key < get_or l b 0
  unfolding j
  over b c d = slot_above (limit_of key) l (length l) b c d

  last : 0 < j → get_or l (j - 1) 0 ≤ limit_of key
  unfolding j
  last a = slot_below (limit_of key) l (length l) a

  module _ (f : ℕ → ℕ) (s : Sorted f l) (sides : (i : ℕ) → i < length l → Sides f key (get_or l i 0)) where
    under : (a : ℕ) → a < j → f (get_or l a 0) < f key
    under a c =
        let z = (sides (j - 1) (omega (arith, j_le))).0 (last (omega arith)) in
        elim (ℕ_discrete a (j - 1)) [
          | yes q ↦ rw q z
          | no n ↦ omega (arith, s a (j - 1) (omega arith) (omega (arith, j_le)))
        ]

    past : (b : ℕ) → j ≤ b → b < length l → f key < f (get_or l b 0)
    past b c d = (sides b d).1 (over b c d)

    pub inserted_sorted : Sorted f (inserted key l)
    inserted_sorted a b c d =
        rw is_put (go a b c (omega (arith, length_inserted key l)) (dec_lt b j) (dec_lt j b) (dec_lt a j) (dec_lt j a))
      where
        go : (a b : ℕ) → a < b → b < suc (length l) → Dec (b < j) → Dec (j < b) → Dec (a < j) → Dec (j < a) → f (get_or (put_at j key l) a 0) < f (get_or (put_at j key l) b 0)
        go a b c d (yes x) _ _ _ = rw (put_lo j key l j_le a (omega arith), put_lo j key l j_le b x) (s a b c (omega (arith, j_le)))
        go a b c d (no x) (no y) (yes z) _ =
            let e : b ≡ j = omega arith in
            rw (e, put_lo j key l j_le a z, put_at_lem j key l j_le) (under a z)
        go a b c d (no x) (no y) (no z) _ = absurd (omega arith)
        go a b c d (no x) (yes y) (yes z) _ =
            rw (put_lo j key l j_le a z, put_hi j key l j_le b y) (omega (arith, under a z, past (b - 1) (omega arith) (omega arith)))
        go a b c d (no x) (yes y) (no z) (yes u) =
            rw (put_hi j key l j_le a u, put_hi j key l j_le b y) (s (a - 1) (b - 1) (omega arith) (omega arith))
        go a b c d (no x) (yes y) (no z) (no u) =
            let e : a ≡ j = omega arith in
            rw (e, put_at_lem j key l j_le, put_hi j key l j_le b y) (past (b - 1) (omega arith) (omega arith))

  pub inserted_new : (i : ℕ) × Stands (inserted key l) i key
  inserted_new = (j, record { within = omega (arith, j_le, length_inserted key l); there = rw is_put (put_at_lem j key l j_le) })

  pub inserted_has : (i x : ℕ) → Stands l i x → (k : ℕ) × Stands (inserted key l) k x
  inserted_has i x s = elim (dec_lt i j) [
    | yes a ↦ (i, record { within = omega (arith, length_inserted key l); there = rw is_put (put_lo j key l j_le i a ∙ s.there) })
    | no a ↦ (
      suc i,
      record {
        within = omega (arith, length_inserted key l);
        there = let e : suc i - 1 ≡ i = omega arith in rw (is_put, put_hi j key l j_le (suc i) (omega arith), e) s.there;
      },
    )
  ]

  pub inserted_only : (i x : ℕ) → Stands (inserted key l) i x → (x ≡ key) ⊎ ((k : ℕ) × Stands l k x)
  inserted_only i x s =
      let t : get_or (put_at j key l) i 0 ≡ x = rw is_put at s.there in
      elim (dec_lt i j) [
        | yes a ↦ inr (i, record { within = omega (arith, j_le); there = sym (put_lo j key l j_le i a) ∙ t })
        | no a ↦ elim (dec_lt j i) [
          | yes b ↦ inr (i - 1, record { within = omega (arith, length_inserted key l); there = sym (put_hi j key l j_le i b) ∙ t })
          | no b ↦ let e : i ≡ j = omega arith in inl (sym t ∙ ap (λ (k : ℕ). get_or (put_at j key l) k 0) e ∙ put_at_lem j key l j_le)
        ]
      ]
