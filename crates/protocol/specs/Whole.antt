-- Demand 3 for the first register: "a single claim about a list of calls, and not one claim for each call". Every list is covered, so what
-- is said here of the sub-step that follows a list is said of every sub-step of every list.
use Rattle.std.specs.Prelude.{ℕ, ◌+◌, ◌*◌, ◌≤◌, ◌≡◌, true, false, List}
use Rattle.words.specs.declared.cell.Cell.{Cell}
use Rattle.words.specs.Choice.{pick}
use Rattle.words.specs.Index.{index, Pair}
use Rattle.common.specs.declared.calls.Call.{Call}
use Rattle.common.specs.declared.calls.Call.TheVariants.{Step as step}
use Rattle.common.specs.Moves.{Moves}
use Rattle.common.specs.Effects.{Stand}
use Rattle.common.specs.Register.{ran_from}
use Rattle.common.specs.Book.{open_with}
use Rattle.common.specs.Whole.{model_of, still, next, AsBook}
use Rattle.protocol.specs.Table.{view}
use Rattle.protocol.specs.NewTicket.{Walks}
use Rattle.protocol.specs.Rules.{ticket_rules}
use Rattle.protocol.specs.Reference.{Model, is_in, excluded_tickets, failed, book}

-- "A new ticket is the cur that a write's sub-step n+1 stores": in the table t behind it, where cur was the writer's, and the tickets of
-- the list were barred.
pub record NewTicket (n cur : ℕ) (t bars : List ℕ) : Type 0 where
  pub not_excluded : is_in (view n t 0 1).stamp.cur bars ≡ false
  pub one_of : (view n t 0 1).stamp.cur ≤ 3 * n + 2
  -- (02) "the smallest unbarred one above the writer's cur and up to 3n+2, and if there is none above, the smallest unbarred"
  pub walks : Walks n cur (λ k. is_in k bars ≡ false) (view n t 0 1).stamp.cur

module _ (n v : ℕ) (t l : List ℕ) (cs : List Call) where
  abbrev model : Model
  model = (model_of book n v 0 l cs).model

  pub record Whole : Type 0 where
    pub as_book : AsBook ticket_rules book n v 0 t l cs
    -- "No sub-step of an open operation is refused. A write ends exactly at its own sub-step 2n,
    pub write_moves : (u m : ℕ) (cells : List Cell) → model.op 0 ≡ open_with u m cells
        → Moves (next ticket_rules n v 0 t l cs (step 0)).answer (still book n v 0 l cs 0) m (2 * n)
    -- a read at 2n+3 if its first three looks agree, else at 3n+6." (02) "and the others still end within their own sub-steps"
    pub read_moves : (p : ℕ) → 1 ≤ p → p ≤ n → model.retired p ≡ false → (u m : ℕ) (cells : List Cell) → model.op p ≡ open_with u m cells
        → Moves (next ticket_rules n v 0 t l cs (step p)).answer (still book n v 0 l cs p) m (pick (failed n m cells) (3 * n + 6) (2 * n + 3))
    -- "Every new ticket is an unbarred one of the 3n+3 names."
    pub new_ticket : (u : ℕ) (cells : List Cell) → model.op 0 ≡ open_with u n cells
        → NewTicket n (model.stamp 0).cur (next ticket_rules n v 0 t l cs (step 0)).table (excluded_tickets (model.stamp 0) cells)
    -- (02) "Its cells remain just as they stand": whatever call follows
    pub retired_cells : (p : ℕ) → p ≤ n → model.retired p ≡ true → (c : Call)
        → Stand (index n) (Pair n) p (ran_from ticket_rules n v 0 t l cs).table (next ticket_rules n v 0 t l cs c).table
