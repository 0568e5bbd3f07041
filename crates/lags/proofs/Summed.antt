-- What a row adds to a reader's reads, and to a sum over them.
use Prim.Native.Nat.{ℕ, ◌+◌}
use native.Mathlib.Omega.{arith}
use native.Mathlib.Numerals.{add-one}
use native.Mathlib.Decide.{ℕ_discrete}
use mathlib.Core.Path.{◌≡◌, refl, ap, ◌∙◌}
use mathlib.Core.Bool.{Bool, true, false}
use mathlib.Core.List.{List, [], ◌∷◌, ◌++◌, map}
use lib.Dec.{T, eqb, eqb→eq}
use lib.ListN.{length, get_or}
use borrow.Author.Tests.{eq-eqb, ne_eqb}
use Rattle.words.specs.Choice.{pick}
use Rattle.words.proofs.Laws.Choice.{T-left}
use Rattle.history.specs.Rows.{kind_bits, kind_of, kind_at, processor_at}
use Rattle.history.specs.WellFormed.{open_at, head_ok, well_formed}
use Rattle.judging.proofs.Steps.{head_of}
use Rattle.lags.specs.Sheet.{picked, ends_read_of, reads_to, sum}

sum_append : (f : ℕ → ℕ) (l m : List ℕ) → sum (map f (l ++ m)) ≡ sum (map f l) + sum (map f m)
unfolding sum
sum_append f [] m = omega arith
sum_append f (x ∷ l) m = omega (arith, sum_append f l m)

pub sum_ones : (l : List ℕ) → sum (map (λ _. 1) l) ≡ length l
unfolding sum
sum_ones [] = refl
sum_ones (x ∷ l) = omega (arith, sum_ones l)

-- what row k adds, where f is added for each read
unfoldable pub added : List ℕ → (ℕ → ℕ) → ℕ → ℕ
added log f k = pick (eqb (kind_at log k) 4) (f (open_at log (processor_at log k) k)) 0

-- f added for each of reader i's reads that ended before row k
unfoldable pub sum_to : List ℕ → (ℕ → ℕ) → ℕ → ℕ → ℕ
sum_to log f i k = sum (map f (reads_to log i k))

module _ (log : List ℕ) where
  reads_suc : (i k : ℕ) → reads_to log i (k + 1) ≡ reads_to log i k ++ pick (ends_read_of log i k) (open_at log i k ∷ []) []
  unfolding reads_to picked
  reads_suc i k = rw (add-one k)

  -- row 0 ends no read
  pub head_kind : T (well_formed log) → kind_at log 0 ≡ 5
  unfolding head_ok kind_at kind_of
  head_kind w = rw (eqb→eq (kind_bits (get_or log 0 0)) 5 (T-left (eqb (kind_bits (get_or log 0 0)) 5) _ (head_of log w)))

  module _ (f : ℕ → ℕ) where
    pub sum_zero : (i : ℕ) → sum_to log f i 0 ≡ 0
    unfolding sum_to reads_to picked sum
    sum_zero i = refl

    sum_part : (i k : ℕ) → sum (map f (pick (ends_read_of log i k) (open_at log i k ∷ []) [])) ≡ pick (eqb (processor_at log k) i) (added log f k) 0
    unfolding sum added
    sum_part i k = elim (ℕ_discrete (processor_at log k) i) [
      | yes e ↦ elim (ℕ_discrete (kind_at log k) 4) [
        | yes c ↦ rw (eq-eqb (processor_at log k) i e, eq-eqb (kind_at log k) 4 c, e) (omega arith)
        | no c ↦ rw (eq-eqb (processor_at log k) i e, ne_eqb (kind_at log k) 4 c)
      ]
      | no e ↦ elim (ℕ_discrete (kind_at log k) 4) [
        | yes c ↦ rw (ne_eqb (processor_at log k) i e, eq-eqb (kind_at log k) 4 c)
        | no c ↦ rw (ne_eqb (processor_at log k) i e, ne_eqb (kind_at log k) 4 c)
      ]
    ]

    pub sum_suc : (i k : ℕ) → sum_to log f i (k + 1) ≡ sum_to log f i k + pick (eqb (processor_at log k) i) (added log f k) 0
    unfolding sum_to
    sum_suc i k = ap (λ (l : List ℕ). sum (map f l)) (reads_suc i k) ∙ sum_append f (reads_to log i k) _ ∙ rw (sum_part i k)

    pub sum_start : (i : ℕ) → T (well_formed log) → sum_to log f i 1 ≡ 0
    unfolding added
    sum_start i w = sum_suc i 0 ∙ rw (sum_zero i, ne_eqb (kind_at log 0) 4 (λ e. omega (arith, head_kind w))) (none (eqb (processor_at log 0) i))
      where
        none : (t : Bool) → 0 + pick t 0 0 ≡ 0
        none true = omega arith
        none false = omega arith
