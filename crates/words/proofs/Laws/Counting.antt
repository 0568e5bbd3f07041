-- Laws of counting by a test.
use Prim.Native.Nat.{ℕ, zero, suc, ◌+◌, ◌≤◌, ◌<◌}
use mathlib.Core.Path.{◌≡◌, refl, sym, ap}
use mathlib.Core.Logic.{◌≢◌}
use mathlib.Core.Bool.{Bool, true, false, ◌&&◌}
use native.Mathlib.Omega.{arith}
use native.Mathlib.Decide.{ℕ_discrete}
use native.Mathlib.Numerals.{add-one}
use Rattle.words.proofs.Laws.Choice.{left, right, both}
use Rattle.words.specs.Counting.{one, all, count}

pub all_at : (k : ℕ) (f : ℕ → Bool) (i : ℕ) → all k f ≡ true → i < k → f i ≡ true
unfolding all
all_at zero f i e h = absurd (omega arith)
all_at (suc k) f i e h = elim (ℕ_discrete i k) [ yes g ↦ rw g (right (all k f) (f k) e) | no g ↦ all_at k f i (left (all k f) (f k) e) (omega arith) ]

pub all_make : (k : ℕ) (f : ℕ → Bool) → ((i : ℕ) → i < k → f i ≡ true) → all k f ≡ true
unfolding all
all_make zero f h = refl
all_make (suc k) f h = both _ _ (all_make k f (λ i g. h i (omega arith))) (h k (omega arith))

pub count_same : (k : ℕ) (f g : ℕ → Bool) → ((i : ℕ) → i < k → f i ≡ g i) → count k f ≡ count k g
unfolding count
count_same zero f g h = refl
count_same (suc k) f g h = rw (count_same k f g (λ i l. h i (omega arith)), h k (omega arith))

-- Two that differ at i alone.
pub count_one : (k : ℕ) (f g : ℕ → Bool) (i : ℕ) → i < k → ((j : ℕ) → j ≢ i → f j ≡ g j) → count k f + one (g i) ≡ count k g + one (f i)
unfolding count
count_one zero f g i l h = absurd (omega arith)
count_one (suc k) f g i l h = elim (ℕ_discrete i k) [
  | yes e ↦ rw e (omega (arith, count_same k f g (λ j m. h j (λ q. omega arith))))
  | no e ↦ omega (arith, count_one k f g i (omega arith) h, ap one (h k (λ q. e (sym q))))
]

-- One that it holds of is counted.
pub count_some : (k : ℕ) (f : ℕ → Bool) (i : ℕ) → i < k → one (f i) ≤ count k f
unfolding count
count_some zero f i h = absurd (omega arith)
count_some (suc k) f i h = elim (ℕ_discrete i k) [ yes g ↦ omega (arith, ap (λ (j : ℕ). one (f j)) g) | no g ↦ omega (arith, count_some k f i (omega arith)) ]

pub all_more : (i : ℕ) (f : ℕ → Bool) → all (i + 1) f ≡ (all i f && f i)
unfolding all
all_more i f = rw add-one

pub count_more : (i : ℕ) (f : ℕ → Bool) → count (i + 1) f ≡ count i f + one (f i)
unfolding count
count_more i f = rw add-one

pub all_none : (f : ℕ → Bool) → all 0 f ≡ true
unfolding all
all_none f = refl

pub count_none : (f : ℕ → Bool) → count 0 f ≡ 0
unfolding count
count_none f = refl

pub one_low : (b : Bool) → one b ≤ 1
one_low true = omega arith
one_low false = omega arith

pub count_low : (k : ℕ) (f : ℕ → Bool) → count k f ≤ k
unfolding count
count_low zero f = omega arith
count_low (suc k) f = omega (arith, count_low k f, one_low (f k))

pub count_nowhere : (k : ℕ) (f : ℕ → Bool) → ((i : ℕ) → i < k → f i ≡ false) → count k f ≡ 0
unfolding count
count_nowhere zero f h = refl
count_nowhere (suc k) f h = rw (count_nowhere k f (λ i g. h i (omega arith)), h k (omega arith))
