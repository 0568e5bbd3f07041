-- No print of a drill is longer than the buffer that its program lends.
use Prim.Native.Nat.{ℕ, ◌+◌, ◌*◌, ◌≤◌}
use native.Mathlib.Omega.{arith}
use mathlib.Core.Path.{refl}
use mathlib.Core.Bool.{◌&&◌}
use mathlib.Core.List.{List, [], ◌∷◌, flat_map, Memᴰ}
use lib.Dec.{leb}
use lib.ListN.{length, take, drop, length-append, length-take}
use borrow.Author.Tests.{leb-true}
use Rattle.words.proofs.Laws.Choice.{pick_ind, right}
use Rattle.common.specs.Answers.{Answer}
use Rattle.common.specs.SetUp.{readers_fit, set_up_of}
use Rattle.protocol.specs.Rules.{ticket_rules}
use Rattle.schedules.specs.Schedules.{Turn, schedules}
use Rattle.schedules.proofs.Each.{turns_length}
use Rattle.schedules.proofs.Count.{few}
use Rattle.schedules.proofs.Meaning.{all_schedules}
use Rattle.fields.specs.Fields.{all_numbers}
use Rattle.lines.specs.Ascii.{ascii}
use Rattle.lines.proofs.Lengths.{line_short}
use Rattle.printing.specs.Verdict.{verdict_line}
use Rattle.printing.specs.Print.{first_numbers, lent_cells, most_bytes}
use Rattle.printing.specs.Drill.{drill_calls, drill_rows, drill_run, turn_letters, drill_line, drill_lines, given, turns_given, one_line, drill_print}
use Rattle.printing.proofs.Answers.{set_up_same, rows_same}
use Rattle.printing.proofs.Short.{refused_short, verdict_few}

-- A letter for each turn, at most.
letters_few : (s : List Turn) (answers : List Answer) → length (turn_letters s answers) ≤ length s
unfolding turn_letters
letters_few [] answers = omega arith
letters_few (t ∷ s) [] = omega arith
letters_few (t ∷ s) (a ∷ answers) = omega (arith, letters_few s answers)

module _ (n start v : ℕ) where
  -- a log of five rows at most
  line_few : (s : List Turn) → length s ≤ 16 → length (drill_line n start v s) ≤ 152
  unfolding drill_line
  line_few s h =
      let o = set_up_of ticket_rules n start 0 lent_cells drill_rows in
      let x = drill_run n start v s in
      let rows = take x.state.head.used x.log in
      omega (
        arith,
        length-append (turn_letters s (drop 2 x.answers)) (32 ∷ verdict_line rows),
        letters_few s (drop 2 x.answers),
        verdict_few rows,
        length-take x.state.head.used x.log,
        rows_same (drill_calls v s) o.state o.table o.log,
        set_up_same n start lent_cells drill_rows,
      )

  lines_few : (l : List (List Turn)) → ((s : List Turn) → Memᴰ s l → length s ≤ 16) → length (flat_map (drill_line n start v) l) ≤ 152 * length l
  unfolding flat_map
  lines_few [] h = omega arith
  lines_few (s ∷ l) h =
      omega (
        arith,
        length-append (drill_line n start v s) (flat_map (drill_line n start v) l),
        line_few s (h s (Memᴰ.head refl)),
        lines_few l (λ t m. h t (Memᴰ.tail m)),
      )

  -- 12,870 schedules at most
  all_few : (a b : ℕ) → a + b ≤ 16 → length (drill_lines n start v a b) ≤ 1956240
  unfolding drill_lines
  all_few a b h =
      let A = all_schedules a b in
      pick_ind (λ (t : List ℕ). length t ≤ 1956240) (readers_fit n) _ _
      (λ _. omega (
        arith,
        lines_few (schedules a b) (λ s m. let T = A.each s m in omega (arith, turns_length s, T.of_writer, T.of_reader)),
        A.count,
        few a b h,
      ))
      (λ _. omega (arith, refused_short 1 (omega arith)))

pub drill_short : (b : List ℕ) → length (drill_print b) ≤ 2097152
unfolding drill_print
drill_short b =
    let k = turns_given b in
    let numbers = all_numbers 5 (first_numbers b) in
    pick_ind (λ (t : List ℕ). length t ≤ 2097152) (leb (length b) most_bytes && (one_line b && (numbers && (leb 1 k && leb k 16)))) _ _
    (λ e. let f = right numbers (leb 1 k && leb k 16) (right (one_line b) _ (right (leb (length b) most_bytes) _ e)) in
    omega (
      arith,
      all_few (given b 0) (given b 1) (given b 2) (given b 3) (given b 4) (leb-true k 16 (right (leb 1 k) (leb k 16) f)),
    ))
    (λ _. omega (arith, line_short (ascii "bad line ") 1 (omega arith)))
