-- Demand 3 for lists of the counted register's calls. Every list is covered, so what is said here of the call that follows a list is said
-- of every call of every list.
use Rattle.std.specs.Prelude.{ℕ, ◌+◌, ◌-◌, ◌*◌, ◌≤◌, ◌≡◌, ◌⊎◌, true, false, List, [], ◌∷◌, ◌++◌, Err}
use Rattle.common.specs.declared.calls.Call.{Call}
use Rattle.common.specs.declared.calls.Call.TheVariants.{Step as step}
use Rattle.common.specs.Calls.{is_write}
use Rattle.common.specs.Moves.{Moves}
use Rattle.common.specs.Effects.{Stand}
use Rattle.common.specs.Register.{ran_from}
use Rattle.common.specs.Book.{open_with}
use Rattle.common.specs.Whole.{model_of, still, next, AsBook}
use Rattle.common.specs.declared.Refusal.TheVariants.{Spent}
use Rattle.counted.specs.declared.Cell.{Cell}
use Rattle.counted.specs.Table.{index, Link, view}
use Rattle.counted.specs.State.{last_stamp}
use Rattle.counted.specs.Rules.{counted_rules}
use Rattle.counted.specs.Reference.{Model, nth, at_writer, top_of, looks_at, book}

module _ (n v fresh : ℕ) (t l : List ℕ) (cs : List Call) where
  abbrev model : Model
  model = (model_of book n v fresh l cs).model

  pub record Whole : Type 0 where
    -- "In demand 3's lists, of its calls, every log must have an order too": the first n² cells are the book's
    pub as_book : AsBook counted_rules book n v fresh t l cs
    -- No sub-step of an open operation is refused. A write "takes n sub-steps", a read "takes 2n−1 sub-steps"; (02) "and the
    -- others still end within their own sub-steps".
    pub write_moves : (u m : ℕ) (cells : List Cell) → model.op 0 ≡ open_with u m cells
        → Moves (next counted_rules n v fresh t l cs (step 0)).answer (still book n v fresh l cs 0) m n
    pub read_moves : (p : ℕ) → 1 ≤ p → p ≤ n → model.retired p ≡ false → (u m : ℕ) (cells : List Cell) → model.op p ≡ open_with u m cells
        → Moves (next counted_rules n v fresh t l cs (step p)).answer (still book n v fresh l cs p) m (2 * n - 1)
    -- "the largest stamp a read meets is the one it finds at the writer or one more": all has the cells that it has looked at behind its
    -- last look
    pub meets : (p : ℕ) → 1 ≤ p → p ≤ n → (u m : ℕ) (cells : List Cell) → model.op p ≡ open_with u m cells → m + 1 ≡ n
        → let all = cells ++ (view n model.table (looks_at n p m) p ∷ []) in
        let x = nth all (at_writer n) in (top_of all ≡ x.stamp) ⊎ (top_of all ≡ x.stamp + 1)
    -- no stamp is past 4,294,967,295, that of an open write included
    pub stamp_low : model.stamp 0 ≤ last_stamp
    pub next_stamp : (u m : ℕ) (cells : List Cell) → model.op 0 ≡ open_with u m cells → model.stamp 0 + 1 ≤ last_stamp
    -- "A reader's begins and steps go on after the stamps are spent": 14 is for a write's begin, and only then
    pub spent : (c : Call) → (next counted_rules n v fresh t l cs c).answer ≡ Err Spent → (is_write c ≡ true) × (model.stamp 0 ≡ last_stamp)
    -- "The log and retirement are as for the first": "Its cells remain just as they stand", whatever call follows
    pub retired_cells : (p : ℕ) → p ≤ n → model.retired p ≡ true → (c : Call)
        → Stand (index n) (Link n) p (ran_from counted_rules n v fresh t l cs).table (next counted_rules n v fresh t l cs c).table
