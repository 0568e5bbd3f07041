-- The number of a log as bytes.
use Prim.Native.Nat.{ℕ, ◌≤◌, ◌/◌, ◌%◌}
use native.Mathlib.Omega.{arith}
use native.Mathlib.Decide.{dec_lt}
use mathlib.Core.Path.{◌≡◌, sym, ap, ◌∙◌}
use mathlib.Core.List.{List, [], ◌++◌}
use lib.Dec.{eqb}
use lib.ListN.{length, take, drop, length-append, length-take}
use lib.Seq.{take_at}
use Rattle.words.specs.Choice.{pick}
use Rattle.words.proofs.Laws.Choice.{eq_ind}
use Rattle.logbytes.specs.Bytes.{rows_of, rows_in}
use Rattle.logbytes.proofs.Laws.{read_length, rows_odd, rows_many, rows_whole}
use Rattle.judging.specs.Answer.{number_of, bytes_number}
use Rattle.judging.specs.Meaning.{RightLength}
use Rattle.judging.proofs.Asked.{no9}
use Rattle.judging.proofs.Meaning.{number_is}

pub rows_length : (b : List ℕ) → length (rows_of b) ≡ length b / 8
unfolding rows_of
rows_length b = read_length (length b / 8) b

-- What is said of rows, where x is said if their number is wrong: bytes that are no log's can be taken for no rows.
pub rows_read : {A : Type 0} (f : List ℕ → A) (x : A) → ((log : List ℕ) → ¬ RightLength log → f log ≡ x)
    → (b : List ℕ) → f (rows_in b 4096) ≡ pick (eqb (length b % 8) 0) (f (rows_of b)) x
rows_read f x nine b = eq_ind (λ y. f (rows_in b 4096) ≡ y) (length b % 8) 0 _ _
    (λ e. elim (dec_lt 4096 (length b / 8)) [
      | yes h ↦ ap f (rows_many b 4096 e h) ∙ none ∙ sym (nine (rows_of b) (λ s. omega (arith, rows_length b, s.few)))
      | no h ↦ ap f (rows_whole b 4096 e (omega arith))
    ])
    (λ n. ap f (rows_odd b 4096 n) ∙ none)
  where
    none : f [] ≡ x
    none = nine [] (λ s. omega (arith, s.some))

-- So it is with their number.
pub rows_number : (b : List ℕ) → number_of (rows_in b 4096) ≡ bytes_number b
unfolding bytes_number number_of
rows_number b = rows_read number_of 9 (λ log a. number_is log _ (no9 a)) b

-- What was read stands at the front of the places e.
module _ (b d : List ℕ) {e : List ℕ} {r : ℕ} (a : (r ≡ length (rows_in b (length d))) × (e ≡ rows_in b (length d) ++ drop r d)) where
  pub rows_front : take r e ≡ rows_in b (length d)
  rows_front = rw a.1 (take_at (rows_in b (length d)) (drop r d) r (sym a.0))

  pub rows_inside : r ≤ length e
  rows_inside = omega (arith, a.0, ap length a.1, length-append (rows_in b (length d)) (drop r d))

  pub rows_count : r ≡ length (take r e)
  rows_count = omega (arith, rows_inside, length-take r e)
