-- What a test says of the first k elements of a list, as the iterators ask it and as question 4 counts.
use Prim.Native.Nat.{ℕ, zero, suc, ◌+◌, ◌≤◌}
use mathlib.Core.Path.{◌≡◌, refl, sym, subst, ap, ◌∙◌}
use mathlib.Core.Bool.{Bool, true, false}
use mathlib.Core.List.{List}
use native.Mathlib.Omega.{arith}
use native.Mathlib.Numerals.{add-one}
use lib.ListN.{length, take, get_or}
use Rattle.std.specs.List.{list_all, count_by}
use Rattle.std.proofs.lemmas.List.Folds.{list_all_more}
use Rattle.std.proofs.lemmas.List.Sums.{count_by_more_yes, count_by_more_no}
use Rattle.words.specs.Counting.{one, all, count}
use Rattle.words.proofs.Laws.Counting.{all_more, count_more, all_none, count_none}

module _ {X : Type 0} (p : X → Bool) (xs : List X) (d : X) where
  abbrev at : ℕ → Bool
  at i = p (get_or xs i d)

  pub all_of_first : (k : ℕ) → k ≤ length xs → list_all p (take k xs) ≡ all k at
  all_of_first zero h = sym (all_none at)
  all_of_first (suc k) h =
      subst (λ (m : ℕ). list_all p (take m xs) ≡ all m at) (add-one k)
      (list_all_more p xs k d (omega arith) ∙ rw (all_of_first k (omega arith)) (sym (all_more k at)))

  pub count_of_first : (k : ℕ) → k ≤ length xs → count_by p (take k xs) ≡ count k at
  count_of_first zero h = sym (count_none at)
  count_of_first (suc k) h = subst (λ (m : ℕ). count_by p (take m xs) ≡ count m at) (add-one k) (by (count_of_first k (omega arith)) (at k) refl)
    where
      by : count_by p (take k xs) ≡ count k at → (b : Bool) → at k ≡ b → count_by p (take (k + 1) xs) ≡ count (k + 1) at
      by so_far true e = omega (arith, so_far, count_by_more_yes p xs k d (omega arith) e, count_more k at, ap one e)
      by so_far false e = omega (arith, so_far, count_by_more_no p xs k d (omega arith) e, count_more k at, ap one e)
