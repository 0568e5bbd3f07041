-- What no session shows, since it takes too many bytes or rows.
use Prim.Native.Nat.{ℕ, ◌+◌, ◌*◌, ◌%◌, ◌≤◌, ◌<◌}
use native.Mathlib.Omega.{arith}
use native.Mathlib.Nat.{mul-le-mul_left}
use native.Mathlib.Decide.{dec_lt, ℕ_discrete}
use mathlib.Core.Path.{◌≡◌, sym, ap, ◌∙◌}
use mathlib.Core.Bool.{Bool, true, ◌&&◌, and-false}
use mathlib.Core.List.{List}
use lib.Dec.{leb}
use lib.ListN.{length, get_or, take, length-take}
use lib.Seq.{take_all}
use borrow.Author.Tests.{eq-eqb, ne_eqb, le-leb, lt-leb}
use Rattle.words.specs.Choice.{pick}
use Rattle.logbytes.specs.Bytes.{rows_of, rows_in}
use Rattle.judging.specs.Meaning.{RightLength}
use Rattle.judging.proofs.Asked.{no9, cases_are}
use Rattle.judging.proofs.ByteLaws.{rows_length, rows_read}
use Rattle.common.specs.SetUp.{set_up_of}
use Rattle.protocol.specs.Rules.{ticket_rules}
use Rattle.fields.specs.Fields.{all_numbers}
use Rattle.lines.specs.Lines.{bad_line, refused_line}
use Rattle.printing.specs.Verdict.{verdict_line, from_bytes, verdict_print}
use Rattle.printing.specs.Sheet.{sheet_text, sheet_print}
use Rattle.printing.specs.Print.{lent_cells, lent_rows, first_numbers, good_first, register_print, most_bytes, bench_print}
use Rattle.printing.specs.Drill.{drill_lines, given, turns_given, one_line, drill_print}

-- A print with `bad line 1` for longer inputs.
longer_bad : (most : ℕ) (b : List ℕ) (good : Bool) (print : List ℕ) → most < length b → pick (leb (length b) most && good) print (bad_line 1) ≡ bad_line 1
longer_bad most b good print h = rw (lt-leb (length b) most h)

module _ (b : List ℕ) where
  -- "longer input .. print[s] `bad line 1` and no more"
  pub long_input : 65536 < length b → bench_print b ≡ bad_line 1
  unfolding bench_print
  long_input h = longer_bad most_bytes b _ _ (omega arith)

  -- "at most 65,536 bytes"
  pub all_read : length b ≤ 65536 → good_first b ≡ true → bench_print b ≡ register_print (get_or (first_numbers b) 0 0) (get_or (first_numbers b) 1 0) b
  unfolding bench_print
  all_read h g = rw (le-leb (length b) most_bytes (omega arith), g)

  -- a drill's input, too
  pub long_drill : 65536 < length b → drill_print b ≡ bad_line 1
  unfolding drill_print
  long_drill h = longer_bad most_bytes b _ _ (omega arith)

  -- every line of five numbers with 1 to 16 turns is read, and no other number of turns is: "or a+b not 1 to 16, gives `bad line 1`"
  pub all_drilled : length b ≤ 65536 → one_line b ≡ true → all_numbers 5 (first_numbers b) ≡ true → 1 ≤ turns_given b → turns_given b ≤ 16
      → drill_print b ≡ drill_lines (given b 0) (given b 1) (given b 2) (given b 3) (given b 4)
  unfolding drill_print
  all_drilled h o n some few =
      let t = le-leb (turns_given b) 16 few in
      rw (le-leb (length b) most_bytes (omega arith), o, n, le-leb 1 (turns_given b) some, t)

  pub too_many_turns : 16 < turns_given b → drill_print b ≡ bad_line 1
  unfolding drill_print
  too_many_turns h =
      let t = lt-leb (turns_given b) 16 h in
      rw (t, and-false (leb 1 (turns_given b)), and-false (all_numbers 5 (first_numbers b)), and-false (one_line b), and-false (leb (length b) most_bytes))

-- What a program prints of a log, where rows of a wrong length are 9.
module _ (print : List ℕ → List ℕ) (nine : (log : List ℕ) → ¬ RightLength log → print log ≡ refused_line 9) (b : List ℕ) where
  -- more than 4,096 rows as bytes are 9, whatever their number is
  pub long_log : 32768 < length b → from_bytes print b ≡ refused_line 9
  unfolding from_bytes
  long_log h =
      elim (ℕ_discrete (length b % 8) 0) [
        | yes z ↦ rw (eq-eqb (length b % 8) 0 z) (nine (rows_of b) (λ s. omega (arith, rows_length b, s.few)))
        | no n ↦ rw (ne_eqb (length b % 8) 0 n)
      ]

  pub rows_print : print (rows_in b 4096) ≡ from_bytes print b
  unfolding from_bytes
  rows_print = rows_read print (refused_line 9) nine b

-- So it is with a verdict, and with a sheet.
pub verdict_nine : (log : List ℕ) → ¬ RightLength log → verdict_line log ≡ refused_line 9
unfolding verdict_line
verdict_nine log a = cases_are log _ _ _ _ (no9 a)

pub sheet_nine : (log : List ℕ) → ¬ RightLength log → sheet_text log ≡ refused_line 9
unfolding sheet_text
sheet_nine log a = cases_are log _ _ _ _ (no9 a)

-- So much of an input is all that a program need read: the print is that of the whole.
pub enough_text : (print : List ℕ → List ℕ) → ((b : List ℕ) → 65536 < length b → print b ≡ bad_line 1) → (b : List ℕ) → print (take 65537 b) ≡ print b
enough_text print long b =
    elim (dec_lt 65536 (length b)) [
      | yes h ↦ long (take 65537 b) (omega (arith, length-take 65537 b)) ∙ sym (long b h)
      | no h ↦ ap print (take_all 65537 b (omega arith))
    ]

pub enough_input : (b : List ℕ) → bench_print (take 65537 b) ≡ bench_print b
enough_input b = enough_text bench_print long_input b

pub enough_for_drill : (b : List ℕ) → drill_print (take 65537 b) ≡ drill_print b
enough_for_drill b = enough_text drill_print long_drill b

enough_bytes : (print : List ℕ → List ℕ) → ((log : List ℕ) → ¬ RightLength log → print log ≡ refused_line 9)
    → (b : List ℕ) → from_bytes print (take 32769 b) ≡ from_bytes print b
enough_bytes print nine b =
    elim (dec_lt 32768 (length b)) [
      | yes h ↦ long_log print nine (take 32769 b) (omega (arith, length-take 32769 b)) ∙ sym (long_log print nine b h)
      | no h ↦ ap (from_bytes print) (take_all 32769 b (omega arith))
    ]

pub enough_log : (b : List ℕ) → verdict_print (take 32769 b) ≡ verdict_print b
enough_log b = enough_bytes verdict_line verdict_nine b

pub enough_for_sheet : (b : List ℕ) → sheet_print (take 32769 b) ≡ sheet_print b
enough_for_sheet b = enough_bytes sheet_text sheet_nine b

-- The cells suffice for 16 readers.
pub cells_fit : (n : ℕ) → n ≤ 16 → n * n + n ≤ 272
cells_fit n h = omega (arith, mul-le-mul_left n h)

-- "The log has 4,096 rows.", by what an accepted set-up records
pub log_rows : (n v : ℕ) → 1 ≤ n → n ≤ 16 → (set_up_of ticket_rules n v 0 lent_cells lent_rows).state.head.rows ≡ 4096
unfolding set_up_of
log_rows n v a b = rw (le-leb 1 n a, le-leb n 16 b, le-leb (n * n + n) 272 (cells_fit n b))
