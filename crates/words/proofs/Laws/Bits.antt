-- The bits from a place on are those behind a field and the field.
use Prim.Native.Nat.{ℕ, ◌+◌, ◌*◌, ◌/◌, ◌^◌}
use mathlib.Core.Path.{◌≡◌, sym}
use native.Mathlib.Nat.{div-add-mod', div-div-eq-div-mul}
use lib.Pow.{pow-add}
use Rattle.words.specs.Bits.{field}

pub split_field : (at width word : ℕ) → word / 2 ^ at ≡ word / 2 ^ (at + width) * 2 ^ width + field at width word
split_field at width word = rw (pow-add, ← div-div-eq-div-mul) (sym (div-add-mod' (word / 2 ^ at) (2 ^ width)))
