-- What no session shows, since it takes too many bytes or rows: the longest logs and files that are looked into.
use Prim.Native.Nat.{ℕ, ◌+◌, ◌%◌, ◌≤◌, ◌<◌}
use native.Mathlib.Omega.{arith}
use native.Mathlib.Decide.{ℕ_discrete}
use mathlib.Core.Path.{◌≡◌, refl, sym, ap, ◌∙◌}
use mathlib.Core.Logic.{◌≢◌}
use mathlib.Core.Bool.{Bool, true, ◌&&◌}
use mathlib.Core.List.{List}
use lib.Dec.{leb}
use lib.ListN.{length}
use borrow.Author.Tests.{le-leb, lt-leb}
use Rattle.words.specs.Choice.{pick}
use Rattle.words.proofs.Laws.Choice.{pick_ind, never, T→true, not→false}
use Rattle.logbytes.specs.Bytes.{rows_of, rows_in}
use Rattle.logbytes.proofs.Laws.{rows_odd, rows_many, rows_whole}
use Rattle.history.specs.WellFormed.{well_formed}
use Rattle.judging.specs.Answer.{right_length}
use Rattle.judging.proofs.Asked.{right→}
use Rattle.storing.specs.Strips.{strip_bytes, strip_rows, log_of, matched}
use Rattle.storing.specs.Answer.{storing, restoring, Restored}
use Rattle.storing.specs.File.{bytes_in, rest_in, whole, Written, refused, rows_file, store_file, log_file, restore_file}
use Rattle.storing.proofs.Answers.{restore_9}
use Rattle.storing.proofs.Passes.{stored_matched}
use Rattle.storing.proofs.Placed.{in_strips}

module _ (log : List ℕ) where
  -- "1 to 4,096 rows (9)?", of a log's bytes
  pub long_log : 32768 < length log → store_file log ≡ refused 9
  unfolding store_file rows_file storing
  long_log h = elim (ℕ_discrete (length log % 8) 0) [
    | yes e ↦ rw (rows_many log 4096 e (omega arith))
    | no n ↦ rw (rows_odd log 4096 n)
  ]

  pub all_rows : length log % 8 ≡ 0 → length log ≤ 32768 → store_file log ≡ rows_file (rows_of log)
  unfolding store_file
  all_rows e h = rw (rows_whole log 4096 e (omega arith))

module _ (file : List ℕ) where
  -- a file longer than 65,536 bytes is not looked into, and every other is
  pub long_file : 65536 < length file → restore_file file ≡ refused 9
  unfolding restore_file
  long_file h = rw (lt-leb (length file) 65536 h)

  pub all_bytes : length file ≤ 65536 → restore_file file ≡ pick (whole file) (log_file (bytes_in file) (rows_of (rest_in file))) (refused 16)
  unfolding restore_file
  all_bytes h = rw (le-leb (length file) 65536 h)

-- The strips of a log of more than 4,096 rows match, and are 9.
pub long_strips : (log o : List ℕ) → 4096 < length log → Restored (strip_bytes log) (strip_rows log) o o 9
long_strips log o h =
    restore_9 (strip_bytes log) (strip_rows log) o refl (T→true (matched (strip_bytes log) (strip_rows log)) (stored_matched log (omega arith))) refl
    (ap right_length (in_strips log (omega arith)).rows_number ∙ not→false (right_length (length log)) (λ t. omega (arith, (right→ log t).few)))

-- The program has places for every log: 11 is none of its numbers.
Roomy : Written → Type 0
Roomy x = x.number ≢ 11

pub stored_roomy : (log : List ℕ) → (store_file log).number ≢ 11
unfolding store_file rows_file storing Roomy
stored_roomy bytes = pick_ind Roomy (right_length (length log)) _ _
    (λ e. let few = (right→ log (rw e tt)).few in
    pick_ind Roomy (well_formed log) _ _
    (λ _. pick_ind Roomy (leb (length log) (4095 + 1) && leb (length log) 4096) _ _
    (λ _. omega arith)
    (λ f. never (sym (le-leb (length log) 4096 few) ∙ sym (left_true (le-leb (length log) (4095 + 1) (omega arith))) ∙ f)))
    (λ _. omega arith))
    (λ _. omega arith)
  where
    log : List ℕ
    log = rows_in bytes 4096

    left_true : {a b : Bool} → a ≡ true → (a && b) ≡ b
    left_true e = rw e

pub restored_roomy : (file : List ℕ) → (restore_file file).number ≢ 11
unfolding restore_file log_file restoring Roomy
restored_roomy file = pick_ind Roomy (leb (length file) 65536) _ _
    (λ _. pick_ind Roomy (whole file) _ _
    (λ _. pick_ind Roomy (matched (bytes_in file) (rows_of (rest_in file))) _ _
    (λ _. pick_ind Roomy (right_length (length log)) _ _
    (λ e. pick_ind Roomy (well_formed log) _ _
    (λ _. pick_ind Roomy (leb (length log) 4096) _ _
    (λ _. omega arith)
    (λ f. never (sym (le-leb (length log) 4096 (right→ log (rw e tt)).few) ∙ f)))
    (λ _. omega arith))
    (λ _. omega arith))
    (λ _. omega arith))
    (λ _. omega arith))
    (λ _. omega arith)
  where
    log : List ℕ
    log = log_of (bytes_in file) (rows_of (rest_in file))
