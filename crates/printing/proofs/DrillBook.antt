-- A drill's line as the register's book tells it; and it always ends with an order.
use Rattle.std.specs.Prelude.{Ok, Err}
use Prim.Native.Nat.{ℕ, ◌^◌, ◌≤◌, ◌<◌}
use mathlib.Core.Path.{◌≡◌, refl}
use mathlib.Core.Bool.{true, false}
use mathlib.Core.List.{List, [], ◌∷◌, ◌++◌, map}
use lib.Dec.{leb}
use lib.ListN.{drop}
use borrow.Author.Tests.{leb-true}
use Rattle.words.proofs.Laws.Choice.{left, right}
use Rattle.history.specs.Listing.{listing}
use Rattle.common.specs.declared.Done.TheVariants.{Accepted}
use Rattle.common.specs.declared.Refusal.TheVariants.{Readers}
use Rattle.common.specs.Calls.{LowCalls}
use Rattle.common.specs.SetUp.{readers_fit, set_up_of}
use Rattle.common.specs.Whole.{model_of, AsBook}
use Rattle.protocol.specs.Rules.{ticket_rules}
use Rattle.protocol.specs.Reference.{book}
use Rattle.schedules.specs.Schedules.{Turn, w, r}
use Rattle.lines.specs.Lines.{order_line}
use Rattle.printing.specs.Print.{lent_cells}
use Rattle.printing.specs.Drill.{turn_call, drill_calls, drill_rows, turn_letters, drill_line}
use Rattle.printing.proofs.Book.{set_up_accepted, book_rows, run_as_book, run_ends_with_order}

-- "then n not 1 to 16 `refused 1`": so says the set-up, and it refuses nothing else
module _ (n v : ℕ) where
  pub refused_as_set_up : readers_fit n ≡ false → (set_up_of ticket_rules n v 0 lent_cells drill_rows).answer ≡ Err Readers
  unfolding set_up_of
  refused_as_set_up e = rw e

  pub accepted : readers_fit n ≡ true → (set_up_of ticket_rules n v 0 lent_cells drill_rows).answer ≡ Ok Accepted
  accepted e =
      set_up_accepted n v drill_rows (leb-true 1 n (left (leb 1 n) (leb n 16) e)) (leb-true n 16 (right (leb 1 n) (leb n 16) e)) refl

turns_low : (s : List Turn) → LowCalls (map turn_call s)
turns_low [] = tt
turns_low (w ∷ s) = (tt, turns_low s)
turns_low (r ∷ s) = (tt, turns_low s)

module _ (n start v : ℕ) (s : List Turn) (one_reader : 1 ≤ n) (few : n ≤ 16) (low : start < 2 ^ 32) (low-write : v < 2 ^ 32) where
  lows : LowCalls (drill_calls v s)
  lows = (low-write, (tt, turns_low s))

  as_book : AsBook ticket_rules book n start 0 lent_cells drill_rows (drill_calls v s)
  as_book = run_as_book n start drill_rows (drill_calls v s) one_reader few low refl lows

  -- the answers and the rows are the book's, and the rows have an order
  pub line_by_book : drill_line n start v s
      ≡ turn_letters s (drop 2 (model_of book n start 0 drill_rows (drill_calls v s)).answers) ++ (32 ∷ order_line (listing (book_rows n start drill_rows (drill_calls v s))))
  unfolding drill_line
  line_by_book =
      rw (as_book.answers_are, as_book.rows_are, run_ends_with_order n start drill_rows (drill_calls v s) one_reader few low refl lows)
