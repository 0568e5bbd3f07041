-- "as many as the ways to pick a of a+b turns"
use Prim.Native.Nat.{ℕ, suc, zero, ◌+◌, ◌-◌, ◌≤◌, ◌<◌}
use native.Mathlib.Omega.{arith}
use native.Mathlib.Decide.{dec_lt}
use mathlib.Core.Path.{◌≡◌, refl, ap, ◌∙◌}
use mathlib.Core.Bool.{Bool, true, ◌&&◌}
use mathlib.Core.List.{◌∷◌, map}
use lib.Dec.{leb}
use lib.ListN.{length, length-append, length-map}
use borrow.Author.Tests.{leb-true}
use Rattle.words.proofs.Laws.Choice.{left, right}
use Rattle.schedules.specs.Schedules.{w, r, after_writer, after_reader}
use Rattle.schedules.specs.Meaning.{choose}
use Rattle.schedules.proofs.Each.{same_after}

-- there is no way to pick more than there are, and one to pick none
too_many : (m k : ℕ) → choose m (suc (k + m)) ≡ 0
unfolding choose
too_many zero k = refl
too_many (suc m) k =
    let e : k + suc m ≡ suc (k + m) = omega arith in
    let f : suc (k + suc m) ≡ suc (suc k + m) = omega arith in
    omega (arith, ap (choose m) e ∙ too_many m k, ap (choose m) f ∙ too_many m (suc k))

none_picked : (m : ℕ) → choose m 0 ≡ 1
unfolding choose
none_picked zero = refl
none_picked (suc m) = refl

pub how_many : (k a b : ℕ) → k ≡ a + b → length (after_writer k a b) ≡ choose k a
unfolding after_writer choose
how_many zero zero b e = refl
how_many zero (suc a) b e = absurd (omega arith)
how_many (suc k) zero zero e = absurd (omega arith)
how_many (suc k) (suc a) zero e =
    let f : a ≡ 0 + k = omega arith in
    omega (arith, length-map (after_writer k a zero) (w ∷◌), how_many k a zero (omega arith), ap (λ (m : ℕ). choose k (suc m)) f ∙ too_many k 0)
how_many (suc k) zero (suc b) e =
    length-map (after_reader k zero b) (r ∷◌) ∙ ap length (same_after k zero b) ∙ how_many k zero b (omega arith) ∙ none_picked k
how_many (suc k) (suc a) (suc b) e =
    omega (
      arith,
      length-append (map (w ∷◌) (after_writer k a (suc b))) (map (r ∷◌) (after_reader k (suc a) b)),
      length-map (after_writer k a (suc b)) (w ∷◌),
      length-map (after_reader k (suc a) b) (r ∷◌),
      ap length (same_after k (suc a) b),
      how_many k a (suc b) (omega arith),
      how_many k (suc a) b (omega arith),
    )

-- Of sixteen turns or fewer there are at most 12,870 schedules.
grows : (m a : ℕ) → choose m a ≤ choose (suc m) a
unfolding choose
grows m zero = omega (arith, none_picked m)
grows m (suc a) = omega arith

grows_to : (j m a : ℕ) → choose m a ≤ choose (j + m) a
grows_to zero m a = let e : 0 + m ≡ m = omega arith in rw e (omega arith)
grows_to (suc j) m a = let e : suc j + m ≡ suc (j + m) = omega arith in rw e (omega (arith, grows_to j m a, grows (j + m) a))

-- whether P holds of all below k
all_below : ℕ → (ℕ → Bool) → Bool
all_below zero P = true
all_below (suc k) P = P k && all_below k P

below : (P : ℕ → Bool) (k : ℕ) → all_below k P ≡ true → (i : ℕ) → i < k → P i ≡ true
unfolding all_below
below P zero e i h = absurd (omega arith)
below P (suc k) e i h =
    elim (dec_lt i k) [
      | yes l ↦ below P k (right (P k) (all_below k P) e) i l
      | no l ↦ let f : i ≡ k = omega arith in ap P f ∙ left (P k) (all_below k P) e
    ]

of_sixteen : all_below 17 (λ a. leb (choose 16 a) 12870) ≡ true
unfolding all_below choose
of_sixteen = refl

pub few : (a b : ℕ) → a + b ≤ 16 → choose (a + b) a ≤ 12870
few a b h =
    let e : 16 - (a + b) + (a + b) ≡ 16 = omega arith in
    let f = leb-true (choose 16 a) 12870 (below (λ a. leb (choose 16 a) 12870) 17 of_sixteen a (omega arith)) in
    omega (arith, grows_to (16 - (a + b)) (a + b) a, ap (λ (m : ℕ). choose m a) e)
