-- The fields of a packed row. No value of a row disturbs its other fields.
use Prim.Native.Nat.{ℕ, ◌^◌, ◌<◌}
use mathlib.Core.Path.{◌≡◌}
use native.Mathlib.Omega.{arith}
use Rattle.words.specs.Row.{pack_row, zero_bits, row_of}
use Rattle.history.specs.Rows.{kind_bits, processor_of, value_of}

module _ (k p v : ℕ) where
  pub row_kind : k < 2 ^ 4 → kind_bits (row_of k p v) ≡ k
  unfolding pack_row
  row_kind h = omega arith

  pub row_processor : p < 2 ^ 8 → processor_of (row_of k p v) ≡ p
  unfolding pack_row
  row_processor h = omega arith

  pub row_value : v < 2 ^ 32 → value_of (row_of k p v) ≡ v
  unfolding pack_row
  row_value h = omega arith

  pub row_zero : zero_bits (row_of k p v) ≡ 0
  unfolding pack_row
  row_zero = omega arith
