-- Cells. "A cell has 64 bits, most significant first: reading 32, cur 6, prev 6, announced cur 6, announced prev 6, zero 8."
use Rattle.std.specs.Prelude.{ℕ, ◌+◌, ◌^◌, ◌<◌}
use Rattle.words.specs.declared.stamp.Stamp.{Stamp}
use Rattle.words.specs.declared.cell.Cell.{Cell}
use Rattle.words.specs.Bits.{field, put}

unfoldable pub pack_cell : Cell → ℕ
pack_cell c =
    put 32 32 c.value
    + put 26 6 c.stamp.cur
    + put 20 6 c.stamp.prev
    + put 14 6 c.announced.cur
    + put 8 6 c.announced.prev

unfoldable pub unpack_cell : ℕ → Cell
unpack_cell w = record {
  value = field 32 32 w;
  stamp = record { cur = field 26 6 w; prev = field 20 6 w };
  announced = record { cur = field 14 6 w; prev = field 8 6 w };
}

-- a stamp, and a cell, whose fields fit their bits
pub record StampFits (s : Stamp) : Type 0 where
  pub cur_fits : s.cur < 2 ^ 6
  pub prev_fits : s.prev < 2 ^ 6

pub record CellFits (c : Cell) : Type 0 where
  pub value_fits : c.value < 2 ^ 32
  pub stamp_fits : StampFits c.stamp
  pub announced_fits : StampFits c.announced
