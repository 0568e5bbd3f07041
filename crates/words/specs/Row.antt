-- Rows. "Rows of 64 bits: kind 4, processor 8, zero 20, reading 32."
use Rattle.std.specs.Prelude.{ℕ, ◌+◌, ◌^◌, ◌<◌}
use Rattle.words.specs.declared.row.Row.{Row}
use Rattle.words.specs.Bits.{low, field, put}

unfoldable pub pack_row : Row → ℕ
pack_row r = put 60 4 r.kind + put 52 8 r.processor + low 32 r.value

abbrev pub unpack_row : ℕ → Row
unpack_row w = record { kind = field 60 4 w; processor = field 52 8 w; value = low 32 w }

-- the row of these fields, packed
abbrev pub row_of : ℕ → ℕ → ℕ → ℕ
row_of kind processor value = pack_row (record { kind = kind; processor = processor; value = value })

-- the bits that are to be zero
abbrev pub zero_bits : ℕ → ℕ
zero_bits w = field 32 20 w

-- a row whose fields fit their bits
pub record RowFits (r : Row) : Type 0 where
  pub kind_fits : r.kind < 2 ^ 4
  pub processor_fits : r.processor < 2 ^ 8
  pub value_fits : r.value < 2 ^ 32
