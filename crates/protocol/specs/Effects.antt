-- What every cell keeps.
use Rattle.std.specs.Prelude.{ℕ, ◌≤◌, ◌≡◌, List}
use Rattle.words.specs.Stamp.{none}
use Rattle.words.specs.Index.{Pair}
use Rattle.protocol.specs.Table.{view}

-- "Cells to the writer have reading 0; in all other cells the announced fields are always none."
pub record CellsKept (n : ℕ) (t : List ℕ) : Type 0 where
  pub to_writer : (i : ℕ) → Pair n i 0 → (view n t i 0).value ≡ 0
  pub to_reader : (i j : ℕ) → Pair n i j → 1 ≤ j → (view n t i j).announced ≡ none
