-- There is one order as the document wants it.
use Prim.Native.Nat.{ℕ, suc, zero, ◌≤◌, ◌<◌}
use native.Mathlib.Omega.{arith}
use mathlib.Core.Path.{◌≡◌, refl, sym, ap}
use mathlib.Core.Logic.{◌⊎◌, inl, inr}
use mathlib.Core.List.{List, [], ◌∷◌}
use Rattle.history.specs.Linearization.{Stands}
use Rattle.history.proofs.Rising.{Rising, rising_lt, rising_from}

-- An entry with a larger key than the first stands behind it.
in_tail : (f : ℕ → ℕ) (y : ℕ) (l : List ℕ) (j z : ℕ) → Stands (y ∷ l) j z → f y < f z → (k : ℕ) × Stands l k z
in_tail f y l zero z s a = absurd (omega (arith, ap f s.there))
in_tail f y l (suc j) z s a = (j, record { within = omega arith; there = s.there })

-- The first entry has the smallest key.
at_head : (f : ℕ → ℕ) (y : ℕ) (l : List ℕ) (lo hi j z : ℕ) → Rising f lo (y ∷ l) hi → Stands (y ∷ l) j z → (y ≡ z) ⊎ (f y < f z)
at_head f y l lo hi zero z r s = inl s.there
at_head f y l lo hi (suc j) z r s =
    inr (rising_lt f (y ∷ l) lo hi 0 (suc j) y z r (record { within = omega arith; there = refl }) s (omega arith))

down : (y : ℕ) (l : List ℕ) (i x : ℕ) → Stands l i x → Stands (y ∷ l) (suc i) x
down y l i x s = record { within = omega arith; there = s.there }

heads : (f : ℕ → ℕ) (x y : ℕ) → (y ≡ x) ⊎ (f y < f x) → (x ≡ y) ⊎ (f x < f y) → x ≡ y
heads f x y (inl e) _ = sym e
heads f x y (inr a) (inl e) = e
heads f x y (inr a) (inr b) = absurd (omega arith)

-- Lists that rise by one key and have the same entries are equal.
pub rising_same : (f : ℕ → ℕ) (l l' : List ℕ) (lo hi : ℕ) → Rising f lo l hi → Rising f lo l' hi
    → ((i x : ℕ) → Stands l i x → (j : ℕ) × Stands l' j x) → ((i x : ℕ) → Stands l' i x → (j : ℕ) × Stands l j x) → l ≡ l'
rising_same f [] [] lo hi r r' s s' = refl
rising_same f [] (y ∷ l') lo hi r r' s s' = let t = s' 0 y (record { within = omega arith; there = refl }) in absurd (omega (arith, t.1))
rising_same f (x ∷ l) [] lo hi r r' s s' = let t = s 0 x (record { within = omega arith; there = refl }) in absurd (omega (arith, t.1))
rising_same f (x ∷ l) (y ∷ l') lo hi r r' s s' =
    let t = s 0 x (record { within = omega arith; there = refl }) in
    let t' = s' 0 y (record { within = omega arith; there = refl }) in
    let e : x ≡ y = heads f x y (at_head f y l' lo hi t.0 x r' t.1) (at_head f x l lo hi t'.0 y r t'.1) in
    let q : l ≡ l' = rising_same f l l' (suc (f x)) hi r.1 (rw e r'.1)
    (λ i z u. let v = s (suc i) z (down x l i z u) in
    in_tail f y l' v.0 z v.1 (omega (arith, ap f e, rising_from f l (suc (f x)) hi i z r.1 u)))
    (λ i z u. let v = s' (suc i) z (down y l' i z u) in
    in_tail f x l v.0 z v.1 (omega (arith, ap f e, rising_from f l' (suc (f y)) hi i z r'.1 u))) in
    cc

-- Pairwise, it rises.
pub rising_of : (f : ℕ → ℕ) (l : List ℕ) (lo hi : ℕ) → lo ≤ hi → ((i x : ℕ) → Stands l i x → (lo ≤ f x) × (f x < hi))
    → ((i j x y : ℕ) → Stands l i x → Stands l j y → i < j → f x < f y) → Rising f lo l hi
rising_of f [] lo hi a b c = a
rising_of f (x ∷ l) lo hi a b c =
    let h : Stands (x ∷ l) 0 x = record { within = omega arith; there = refl } in (
      (b 0 x h).0,
      rising_of f l (suc (f x)) hi (b 0 x h).1
          (λ i z s. (c 0 (suc i) x z h (down x l i z s) (omega arith), (b (suc i) z (down x l i z s)).1))
          (λ i j y z s t d. c (suc i) (suc j) y z (down x l i y s) (down x l j z t) (omega arith)),
    )
