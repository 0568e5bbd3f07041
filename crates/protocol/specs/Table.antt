-- The table's cells, by the processors from and to whom they are.
use Rattle.std.specs.Prelude.{ℕ, List, get_or, set}
use Rattle.words.specs.declared.stamp.Stamp.{Stamp}
use Rattle.words.specs.declared.cell.Cell.{Cell}
use Rattle.words.specs.Stamp.{none}
use Rattle.words.specs.Cell.{pack_cell, unpack_cell}
use Rattle.words.specs.Index.{index}

-- the cell from i to j; the table with another one there
abbrev pub view : ℕ → List ℕ → ℕ → ℕ → Cell
view n t i j = unpack_cell (get_or t (index n i j) 0)

abbrev pub store : ℕ → List ℕ → ℕ → ℕ → Cell → List ℕ
store n t i j c = set t (index n i j) (pack_cell c)

-- a cell that announces nothing
abbrev pub plain : ℕ → Stamp → Cell
plain v s = record { value = v; stamp = s; announced = none }
