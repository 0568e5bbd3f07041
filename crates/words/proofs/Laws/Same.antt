-- The test for the same list.
use Prim.Native.Nat.{ℕ}
use mathlib.Core.Path.{◌≡◌, refl}
use mathlib.Core.List.{List, [], ◌∷◌}
use lib.Dec.{T, eqb, eqb→eq, eqb_refl}
use Rattle.words.specs.Same.{same}
use Rattle.words.proofs.Laws.Choice.{and_T, T-left, T-right}

pub same→ : (l m : List ℕ) → T (same l m) → l ≡ m
unfolding same
same→ [] [] t = refl
same→ [] (y ∷ m) t = absurd t
same→ (x ∷ l) [] t = absurd t
same→ (x ∷ l) (y ∷ m) t = rw (eqb→eq x y (T-left (eqb x y) _ t), same→ l m (T-right (eqb x y) _ t))

pub →same : (l m : List ℕ) → l ≡ m → T (same l m)
unfolding same
→same l m e = rw e (go m)
  where
    go : (m : List ℕ) → T (same m m)
    go [] = tt
    go (x ∷ m) = and_T (eqb x x) _ (eqb_refl x) (go m)
