-- Cells of the counted register: "reading 32 bits, stamp 32 bits".
use Rattle.std.specs.Prelude.{ℕ, ◌+◌, ◌^◌, ◌<◌}
use Rattle.words.specs.Bits.{low, field, put}
use Rattle.counted.specs.declared.Cell.{Cell}

unfoldable pub pack_cell : Cell → ℕ
pack_cell c = put 32 32 c.value + low 32 c.stamp

unfoldable pub unpack_cell : ℕ → Cell
unpack_cell w = record { value = field 32 32 w; stamp = low 32 w }

-- a cell whose fields fit their bits
pub record CellFits (c : Cell) : Type 0 where
  pub value_fits : c.value < 2 ^ 32
  pub stamp_fits : c.stamp < 2 ^ 32
