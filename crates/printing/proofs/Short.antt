-- No print is longer than the buffer that its program lends.
use Rattle.std.specs.Prelude.{Ok, Err}
use Prim.Native.Nat.{ℕ, zero, suc, ◌+◌, ◌*◌, ◌%◌, ◌^◌, ◌≤◌, ◌<◌, min}
use native.Mathlib.Omega.{arith}
use native.Mathlib.Decide.{dec_lt}
use mathlib.Core.Path.{◌≡◌, refl, ap}
use mathlib.Core.Logic.{inl, inr}
use mathlib.Core.Bool.{◌&&◌}
use mathlib.Core.List.{List, [], ◌∷◌, ◌++◌, map, flat_map}
use lib.Dec.{leb, ltb, eqb}
use lib.ListN.{length, get_or, take, drop, length-append, length-take, length-drop, length-map, get_or-eq_default}
use borrow.Author.Tests.{leb-true, ltb-true}
use Rattle.words.specs.Choice.{pick}
use Rattle.words.proofs.Laws.Choice.{pick_ind, left, right}
use Rattle.logbytes.specs.Bytes.{rows_of}
use Rattle.history.specs.Rows.{kind_of, kind_at}
use Rattle.history.specs.History.{event_at, history_of, Write}
use Rattle.history.specs.Linearization.{Orders}
use Rattle.history.specs.Listing.{listing}
use Rattle.history.specs.Sweep.{missing}
use Rattle.history.proofs.WellFormed.{laws}
use Rattle.history.proofs.Verdict.{before_missing}
use Rattle.history.proofs.Theorems.{has_earliest}
use Rattle.judging.specs.Answer.{begins_to}
use Rattle.judging.specs.Meaning.{Formed}
use Rattle.judging.specs.Keys.{decode, keys_of, keys_to, add_unended}
use Rattle.judging.specs.Rowwise.{sweep_to}
use Rattle.judging.proofs.Asked.{tested, Asked, no9, no10, no11, no12, none, ask, said, cases_are}
use Rattle.judging.proofs.Steps.{begins_few, some}
use Rattle.judging.proofs.Places.{length_inserted}
use Rattle.judging.proofs.Room.{room, room_unended, keys_of_lem}
use Rattle.judging.proofs.Listed.{listed}
use Rattle.common.specs.declared.Done.TheVariants.{Accepted, Moved}
use Rattle.common.specs.declared.Refusal.{Refusal}
use Rattle.common.specs.declared.Refusal.TheVariants.{Readers, Cells, Rows, Range, Processor, Busy, Full, Idle, Retired, Spent}
use Rattle.common.specs.Answers.{Answer, refusal_number, number_of}
use Rattle.common.specs.CallWords.{call_in}
use Rattle.common.specs.SetUp.{Outcome, set_up_of}
use Rattle.common.specs.Register.{run_of}
use Rattle.protocol.specs.Rules.{ticket_rules}
use Rattle.fields.specs.Fields.{place_of, all_numbers}
use Rattle.fields.proofs.NumberLaws.{good_number}
use Rattle.script.proofs.ScriptLaws.{calls_fit}
use Rattle.lines.specs.Ascii.{ascii}
use Rattle.lines.specs.Lines.{bad_line, refused_line, no_order_line, order_line, readers_line, rows_text}
use Rattle.lines.proofs.Lengths.{line_short, order_short, readers_short, rows_short}
use Rattle.printing.specs.Verdict.{verdict_line, from_bytes, verdict_print}
use Rattle.printing.specs.Print.{log_print, refusal_of, second_line, calls, next_line, bad_behind, calls_print, lent_cells, lent_rows, register_print, first_numbers, good_first, most_bytes, bench_print}
use Rattle.printing.proofs.Answers.{answer_each, rows_same, set_up_same}
use Rattle.printing.proofs.Calls.{enough}

pub refused_short : (k : ℕ) → k < 2 ^ 64 → length (refused_line k) ≤ 29
refused_short k h = line_short (ascii "refused ") k h

-- The rows of an order are rows of the log.
module _ (log : List ℕ) where
  outside : (x : ℕ) → length log ≤ x → kind_at log x ≡ 0
  unfolding kind_at kind_of
  outside x h = rw (get_or-eq_default log 0 h)

  write_in : (x : ℕ) → Write (history_of log) x → x < length log
  unfolding event_at
  write_in zero W = absurd (omega (arith, W.real))
  write_in (suc k) W =
      elim (dec_lt (suc k) (length log)) [
        | yes h ↦ h
        | no h ↦ absurd (omega (arith, W.is, outside (suc k) (omega arith)))
      ]

  rows_in_lem : (l : List ℕ) → Orders log l → 1 ≤ length log → (i : ℕ) → get_or l i 0 < length log
  rows_in_lem l O some i =
      elim (dec_lt i (length l)) [
        | yes h ↦ elim (O.only i (get_or l i 0) (record { within = h; there = refl })) [
          | inl W ↦ write_in (get_or l i 0) W
          | inr R ↦ R.under
        ]
        | no h ↦ rw (get_or-eq_default l 0 {n = i} (omega arith)) (omega arith)
      ]

  module _ (F : Formed log) (ok : length log ≤ missing (history_of log)) where
    keys_few : length (keys_of log) ≤ begins_to log (length log)
    unfolding add_unended
    keys_few =
        let w = get_or (sweep_to log (length log)).begins 0 0 in
        let top = (sweep_to log (length log)).top in
        rw (keys_of_lem log (tested F))
        (pick_ind (λ (l : List ℕ). length l ≤ begins_to log (length log)) (ltb 0 w && eqb w top) _ _
        (λ e. omega (arith, length_inserted (w * 8192) (keys_to log (length log)), room_unended log (tested F) (ltb-true 0 w (left (ltb 0 w) (eqb w top) e))))
        (λ _. room log (tested F) (length log) F.size.some (omega arith)))

    listing_few : length (listing log) ≤ length log
    listing_few =
        omega (
          arith,
          ap length (listed log (tested F) F.size.few ok),
          length-map (keys_of log) decode,
          keys_few,
          begins_few log (length log),
        )

    order_line_lem : length (order_line (listing log)) ≤ 21 * length log + 6
    order_line_lem =
        let O = before_missing (history_of log) (laws log (tested F)) (length log) ok in
        let E = has_earliest log (tested F) _ O in
        omega (arith, order_short (listing log) (λ i. omega (arith, rows_in_lem (listing log) E.order F.size.some i, F.size.few)), listing_few)

  abbrev line : Asked log 4096 → List ℕ
  line a = said log 4096 refused_line no_order_line order_line a

  line_few : (a : Asked log 4096) → length (line a) ≤ 21 * min (length log) 4096 + 30
  line_few (no9 a) = omega (arith, refused_short 9 (omega arith))
  line_few (no10 r w) = omega (arith, refused_short 10 (omega arith))
  line_few (no11 F a) = omega (arith, refused_short 11 (omega arith))
  line_few (no12 F a b) = omega (arith, line_short (ascii "no order ") (missing (history_of log)) (omega (arith, F.size.few)))
  line_few (none F a b) = omega (arith, order_line_lem F b, F.size.few)

  -- a line of a log of few rows is short
  pub verdict_few : length (verdict_line log) ≤ 21 * min (length log) 4096 + 30
  unfolding verdict_line
  verdict_few = rw (cases_are log 4096 refused_line no_order_line order_line (ask log 4096)) (line_few (ask log 4096))

pub from_short : (print : List ℕ → List ℕ) (n : ℕ) → 29 ≤ n → ((log : List ℕ) → length (print log) ≤ n) → (b : List ℕ) → length (from_bytes print b) ≤ n
unfolding from_bytes
from_short print n h few b =
    pick_ind (λ (t : List ℕ). length t ≤ n) (eqb (length b % 8) 0) _ _ (λ _. few (rows_of b)) (λ _. omega (arith, refused_short 9 (omega arith)))

pub verdict_short : (b : List ℕ) → length (verdict_print b) ≤ 131072
verdict_short b = from_short verdict_line 131072 (omega arith) (λ log. omega (arith, verdict_few log)) b

-- The refusals.
refusal_low : (r : Refusal) → refusal_number r ≤ 14
refusal_low Readers = omega arith
refusal_low Cells = omega arith
refusal_low Rows = omega arith
refusal_low Range = omega arith
refusal_low Processor = omega arith
refusal_low Busy = omega arith
refusal_low Full = omega arith
refusal_low Idle = omega arith
refusal_low Retired = omega arith
refusal_low Spent = omega arith

number_low : (a : Answer) → number_of a ≤ 14
number_low (Ok Accepted) = omega arith
number_low (Ok (Moved k)) = omega arith
number_low (Err r) = refusal_low r

refusal_few : (a : Answer) → length (refusal_of a) ≤ 29
unfolding refusal_of
refusal_few a =
    pick_ind (λ (t : List ℕ). length t ≤ 29) (eqb (number_of a) 0) _ _ (λ _. omega arith) (λ _. refused_short (number_of a) (omega (arith, number_low a)))

refusals_few : (answers : List Answer) → length (flat_map refusal_of answers) ≤ 29 * length answers
unfolding flat_map
refusals_few [] = omega arith
refusals_few (a ∷ rest) = omega (arith, length-append (refusal_of a) (flat_map refusal_of rest), refusal_few a, refusals_few rest)

-- The log.
log_few : (n v : ℕ) (rows : List ℕ) → n < 2 ^ 32 → v < 2 ^ 32 → length rows ≤ 4096 → length (log_print n v rows) ≤ 352318
unfolding log_print
log_few n v rows a b h =
    omega (
      arith,
      length-append (readers_line n v ++ rows_text rows) (verdict_line rows),
      length-append (readers_line n v) (rows_text rows),
      readers_short n v (omega arith) (omega arith),
      rows_short 1 (drop 1 rows) (omega (arith, length-drop 1 rows)),
      length-drop 1 rows,
      verdict_few rows,
    )

pub set_up_rows : (n v : ℕ) → length (set_up_of ticket_rules n v 0 lent_cells lent_rows).log ≤ 4096
set_up_rows n v = omega (arith, set_up_same n v lent_cells lent_rows)

-- A whole print.
module _ (n v : ℕ) (b : List ℕ) (a : n < 2 ^ 32) (c : v < 2 ^ 32) (h : length b ≤ most_bytes) where
  calls_few : length (calls b) ≤ 16384
  calls_few =
      omega (
        arith,
        ap length (enough b 16384 (length b) (second_line b) (omega arith) (omega arith)).0,
        calls_fit 16384 b (second_line b),
      )

  calls_short : (o : Outcome) → length o.log ≤ 4096 → length (calls_print n v b o) ≤ 827454
  unfolding calls_print
  calls_short o e =
      let cs = map call_in (calls b) in
      let r = run_of ticket_rules o.state o.table o.log cs in
      let k = answer_each cs o.state o.table o.log in
      let rows : length (take r.state.head.used r.log) ≤ 4096 = omega (arith, length-take r.state.head.used r.log, rows_same cs o.state o.table o.log) in
      let behind : length (pick (bad_behind b) (bad_line (next_line b)) (log_print n v (take r.state.head.used r.log))) ≤ 352318 =
      pick_ind (λ (t : List ℕ). length t ≤ 352318) (bad_behind b) _ _
      (λ _. omega (arith, line_short (ascii "bad line ") (next_line b) (omega (arith, calls_few))))
      (λ _. log_few n v (take r.state.head.used r.log) a c rows) in
      omega (
        arith,
        length-append (flat_map refusal_of r.answers) (pick (bad_behind b) (bad_line (next_line b)) (log_print n v (take r.state.head.used r.log))),
        refusals_few r.answers,
        k,
        length-map (calls b) call_in,
        calls_few,
      )

  register_short : length (register_print n v b) ≤ 827454
  unfolding register_print
  register_short =
      let o = set_up_of ticket_rules n v 0 lent_cells lent_rows in
      pick_ind (λ (t : List ℕ). length t ≤ 827454) (eqb (number_of o.answer) 0) _ _ (λ _. calls_short o (set_up_rows n v))
      (λ _. omega (arith, refused_short (number_of o.answer) (omega (arith, number_low o.answer))))

pub bench_short : (b : List ℕ) → length (bench_print b) ≤ 1048576
unfolding bench_print good_first
bench_short b =
    let ns = first_numbers b in
    pick_ind (λ (t : List ℕ). length t ≤ 1048576) (leb (length b) most_bytes && good_first b) _ _
    (λ e. let g = right (leb (length b) most_bytes) (good_first b) e in
    let f = right (ltb (place_of 10 b 0) (length b)) (all_numbers 2 ns) g in
    omega (
      arith,
      register_short (get_or ns 0 0) (get_or ns 1 0) b (good_number 2 ns f 0 (omega arith)) (good_number 2 ns f 1 (omega arith))
          (leb-true (length b) most_bytes (left (leb (length b) most_bytes) (good_first b) e)),
    ))
    (λ _. omega (arith, line_short (ascii "bad line ") 1 (omega arith)))
