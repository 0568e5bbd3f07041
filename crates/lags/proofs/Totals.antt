-- "Today's sheet adds row by row; ours will add per reader and then over readers, and the totals must agree."
use Prim.Native.Nat.{ℕ, suc, zero, ◌≤◌, ◌<◌, ◌+◌, ◌*◌}
use native.Mathlib.Omega.{arith}
use native.Mathlib.Numerals.{add-one}
use native.Mathlib.Decide.{ℕ_discrete}
use mathlib.Core.Path.{◌≡◌, refl, sym, ap, ◌∙◌}
use mathlib.Core.Bool.{Bool, true, false}
use mathlib.Core.List.{List}
use lib.Dec.{T, eqb}
use lib.ListN.{length}
use borrow.Author.Tests.{eq-eqb, ne_eqb}
use Rattle.words.specs.Choice.{pick}
use Rattle.history.specs.Rows.{kind_at, processor_at}
use Rattle.history.specs.WellFormed.{well_formed}
use Rattle.history.proofs.WellFormed.{row}
use Rattle.judging.specs.Meaning.{Formed}
use Rattle.judging.proofs.FoldLaws.{up_to_one, up_to_suc, rows_ind}
use Rattle.lags.specs.Sheet.{reads_of, lags_of, over_readers, lines_in, line_at, row_by_row}
use Rattle.lags.specs.declared.Line.{Line}
use Rattle.lags.proofs.Arrays.{line_in}
use Rattle.lags.proofs.Summed.{added, sum_to, sum_start, sum_suc}

over_add : (f g : ℕ → ℕ) (n : ℕ) → over_readers (λ i. f i + g i) n ≡ over_readers f n + over_readers g n
unfolding over_readers
over_add f g zero = refl
over_add f g (suc n) = omega (arith, over_add f g n)

pub over_same : (f g : ℕ → ℕ) (n : ℕ) → ((i : ℕ) → 1 ≤ i → i ≤ n → f i ≡ g i) → over_readers f n ≡ over_readers g n
unfolding over_readers
over_same f g zero e = refl
over_same f g (suc n) e = omega (arith, over_same f g n (λ i a b. e i a (omega arith)), e (suc n) (omega arith) (omega arith))

pub over_le : (f : ℕ → ℕ) (c n : ℕ) → ((i : ℕ) → f i ≤ c) → over_readers f n ≤ n * c
unfolding over_readers
over_le f c zero e = omega arith
over_le f c (suc n) e = omega (arith, over_le f c n e, e (suc n))

over_none : (n : ℕ) → over_readers (λ _. 0) n ≡ 0
unfolding over_readers
over_none zero = refl
over_none (suc n) = omega (arith, over_none n)

-- x for one reader alone
over_one : (p x n : ℕ) → 1 ≤ p → p ≤ n → over_readers (λ i. pick (eqb p i) x 0) n ≡ x
unfolding over_readers
over_one p x zero a b = absurd (omega arith)
over_one p x (suc n) a b = elim (ℕ_discrete p (suc n)) [
  | yes e ↦ rw (eq-eqb p (suc n) e) (omega (arith, over_same (λ i. pick (eqb p i) x 0) (λ _. 0) n (λ i c d. rw (ne_eqb p i (λ z. omega arith))), over_none n))
  | no e ↦ rw (ne_eqb p (suc n) e) (omega (arith, over_one p x n a (omega arith)))
]

module _ (log : List ℕ) (f : ℕ → ℕ) where
  row_one : row_by_row log f 1 ≡ 0
  unfolding row_by_row
  row_one = up_to_one _ _

  row_suc : (k : ℕ) → 0 < k → row_by_row log f (k + 1) ≡ row_by_row log f k + added log f k
  unfolding row_by_row added
  row_suc k a = up_to_suc _ _ k a

  module _ (w : T (well_formed log)) where
    -- a row that adds something is a reader's
    one_reader : (k : ℕ) → 0 < k → k < length log
        → over_readers (λ i. pick (eqb (processor_at log k) i) (added log f k) 0) (processor_at log 0) ≡ added log f k
    unfolding added
    one_reader k a b = elim (ℕ_discrete (kind_at log k) 4) [
      | yes e ↦ let R = (row log w k a b).reader (omega arith) in over_one (processor_at log k) _ (processor_at log 0) R.0 R.1
      | no e ↦ rw (ne_eqb (kind_at log k) 4 e) (over_same _ (λ _. 0) (processor_at log 0) (λ i _ _. none (eqb (processor_at log k) i)) ∙ over_none (processor_at log 0))
    ]
      where
        none : (t : Bool) → ◌≡◌ {A = ℕ} (pick t 0 0) 0
        none true = refl
        none false = refl

    pub totals_agree : (k : ℕ) → 0 < k → k ≤ length log → over_readers (λ i. sum_to log f i k) (processor_at log 0) ≡ row_by_row log f k
    totals_agree = rows_ind (λ k. over_readers (λ i. sum_to log f i k) (processor_at log 0) ≡ row_by_row log f k) (length log)
        (over_same _ (λ _. 0) (processor_at log 0) (λ i _ _. sum_start log f i w) ∙ over_none (processor_at log 0) ∙ sym row_one)
        (λ k a b e.
        let g : ℕ → ℕ = λ i. pick (eqb (processor_at log k) i) (added log f k) 0 in
        omega (
          arith,
          over_same (λ i. sum_to log f i (k + 1)) (λ i. sum_to log f i k + g i) (processor_at log 0) (λ i _ _. sum_suc log f i k),
          over_add (λ i. sum_to log f i k) g (processor_at log 0),
          one_reader k a b,
          row_suc k a,
        ))

-- The totals of the lines' arrays.
module _ (log : List ℕ) (F : Formed log) where
  pub readers_few : processor_at log 0 ≤ 16
  unfolding processor_at
  readers_few = F.formed.starts.readers.high

  -- The readers are among the processors.
  module _ (l : List ℕ) where
    line_is : (i : ℕ) → i ≤ processor_at log 0 → line_at (lines_in log l) i ≡ record { reads = reads_of log i; lags = lags_of log l i }
    line_is i a = line_in log l i (omega (arith, readers_few))

    pub over_reads : over_readers (λ i. (line_at (lines_in log l) i).reads) (processor_at log 0) ≡ over_readers (reads_of log) (processor_at log 0)
    over_reads = over_same _ _ (processor_at log 0) (λ i _ a. ap (λ (x : Line). x.reads) (line_is i a))

    pub over_lags : over_readers (λ i. (line_at (lines_in log l) i).lags) (processor_at log 0) ≡ over_readers (lags_of log l) (processor_at log 0)
    over_lags = over_same _ _ (processor_at log 0) (λ i _ a. ap (λ (x : Line). x.lags) (line_is i a))

-- For the loop that adds them.
pub over_zero : (f : ℕ → ℕ) → over_readers f 0 ≡ 0
unfolding over_readers
over_zero f = refl

pub over_suc : (f : ℕ → ℕ) (i : ℕ) → over_readers f (i + 1) ≡ over_readers f i + f (i + 1)
unfolding over_readers
over_suc f i = rw (add-one i)
