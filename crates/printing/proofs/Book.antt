-- Runs of the register as its book tells them: they always end with an order. So does the bench's print.
use Rattle.std.specs.Prelude.{Ok}
use Prim.Native.Nat.{ℕ, ◌+◌, ◌*◌, ◌^◌, ◌≤◌, ◌<◌}
use native.Mathlib.Omega.{arith}
use mathlib.Core.Path.{◌≡◌, refl, ap, subst}
use mathlib.Core.Bool.{true}
use mathlib.Core.List.{List, ◌++◌, map, flat_map}
use lib.Dec.{leb}
use lib.ListN.{length, replicate, length-take, length-replicate}
use borrow.Author.Tests.{eq-eqb, le-leb, leb-true}
use Rattle.words.specs.Choice.{pick}
use Rattle.words.proofs.Laws.Choice.{right}
use Rattle.history.specs.Listing.{listing}
use Rattle.history.proofs.Form.{log_formed}
use Rattle.history.proofs.Theorems.{ordered_if_swept}
use Rattle.judging.specs.Meaning.{Formed}
use Rattle.judging.proofs.Asked.{none, cases_are}
use Rattle.judging.proofs.Steps.{begins_few, some}
use Rattle.common.specs.declared.Done.TheVariants.{Accepted}
use Rattle.common.specs.Answers.{number_of}
use Rattle.common.specs.Calls.{LowCalls}
use Rattle.common.specs.declared.calls.Call.{Call}
use Rattle.common.specs.CallWords.{call_in}
use Rattle.common.specs.SetUp.{rows_fit, set_up_of}
use Rattle.common.specs.Register.{Ran, ran_from}
use Rattle.common.specs.Whole.{model_of, AsBook}
use Rattle.common.proofs.CallWords.{low_calls}
use Rattle.protocol.specs.Rules.{ticket_rules}
use Rattle.protocol.specs.Reference.{book}
use Rattle.protocol.proofs.Whole.{whole}
use Rattle.lines.specs.Lines.{bad_line, order_line}
use Rattle.printing.specs.Verdict.{verdict_line}
use Rattle.printing.specs.Print.{log_print, refusal_of, second_line, calls, next_line, bad_behind, calls_print, lent_cells, lent_rows, register_print}
use Rattle.printing.proofs.Answers.{rows_same, set_up_same}
use Rattle.printing.proofs.Calls.{made}
use Rattle.printing.proofs.Laws.{cells_fit}

-- The set-up of 1 to 16 readers, with a log of 3 to 4,096 rows.
pub set_up_accepted : (n v : ℕ) (l : List ℕ) → 1 ≤ n → n ≤ 16 → rows_fit (length l) ≡ true → (set_up_of ticket_rules n v 0 lent_cells l).answer ≡ Ok Accepted
unfolding set_up_of
set_up_accepted n v l a b c = rw (le-leb 1 n a, le-leb n 16 b, le-leb (n * n + n) 272 (cells_fit n b), c)

-- Any calls behind it.
module _ (n v : ℕ) (l : List ℕ) (cs : List Call) where
  abbrev ran : Ran
  ran = ran_from ticket_rules n v 0 lent_cells l cs

  -- the log's rows, as the book has them
  abbrev pub book_rows : List ℕ
  book_rows = (model_of book n v 0 l cs).model.rows

  module _ (one_reader : 1 ≤ n) (few : n ≤ 16) (low : v < 2 ^ 32) (fit : rows_fit (length l) ≡ true) (lows : LowCalls cs) where
    pub run_as_book : AsBook ticket_rules book n v 0 lent_cells l cs
    run_as_book = (whole n v lent_cells l cs (set_up_accepted n v l one_reader few fit) low lows).as_book

    rows_formed : Formed book_rows
    rows_formed =
        let o = set_up_of ticket_rules n v 0 lent_cells l in
        record {
          size = record {
            some = some book_rows run_as_book.formed;
            few = omega (
              arith,
              ap length run_as_book.rows_are,
              length-take ran.state.head.used ran.log,
              rows_same cs o.state o.table o.log,
              set_up_same n v lent_cells l,
              leb-true (length l) 4096 (right (leb 3 (length l)) (leb (length l) 4096) fit),
            );
          };
          formed = (log_formed book_rows).only_if run_as_book.formed;
        }

    -- "and these rows have an order": it is printed
    pub run_ends_with_order : verdict_line book_rows ≡ order_line (listing book_rows)
    unfolding verdict_line
    run_ends_with_order =
        cases_are book_rows _ _ _ _
        (none rows_formed (omega (arith, begins_few book_rows (length book_rows), rows_formed.size.few))
        (omega (arith, (ordered_if_swept book_rows run_as_book.formed).0 run_as_book.ordered)))

-- The bench.
module _ (n v : ℕ) (b : List ℕ) (one_reader : 1 ≤ n) (few : n ≤ 16) (low : v < 2 ^ 32) where
  abbrev cs : List Call
  cs = map call_in (calls b)

  lows : LowCalls cs
  lows =
      let places : List ℕ = replicate (length b) 0 in
      subst LowCalls (made b (length b) (second_line b) places (omega (arith, length-replicate {A = ℕ} (length b) 0))) (low_calls (calls b) places)

  as_book : AsBook ticket_rules book n v 0 lent_cells lent_rows cs
  as_book = run_as_book n v lent_rows cs one_reader few low refl lows

  abbrev rows : List ℕ
  rows = (model_of book n v 0 lent_rows cs).model.rows

  -- the answers and the rows are the book's
  pub by_book : register_print n v b
      ≡ flat_map refusal_of (model_of book n v 0 lent_rows cs).answers ++ pick (bad_behind b) (bad_line (next_line b)) (log_print n v rows)
  unfolding register_print calls_print
  by_book =
      let accepted = set_up_accepted n v lent_rows one_reader few refl in
      rw (eq-eqb (number_of (set_up_of ticket_rules n v 0 lent_cells lent_rows).answer) 0 (ap number_of accepted), as_book.answers_are, as_book.rows_are)

  pub ends_with_order : verdict_line rows ≡ order_line (listing rows)
  ends_with_order = run_ends_with_order n v lent_rows cs one_reader few low refl lows
