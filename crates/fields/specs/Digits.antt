-- A number read digit by digit, as the code does it: none stays none.
use Rattle.std.specs.Prelude.{ℕ, ◌+◌, ◌-◌, ◌*◌, List, [], ◌∷◌, ltb}
use Rattle.words.specs.Choice.{pick}
use Rattle.fields.specs.Fields.{is_digit, none}

unfoldable pub digit_after : ℕ → ℕ → ℕ
digit_after v b = pick (is_digit b) (pick (ltb (v * 10 + (b - 48)) none) (v * 10 + (b - 48)) none) none

unfoldable pub digits_after : ℕ → List ℕ → ℕ
digits_after v [] = v
digits_after v (b ∷ bs) = digits_after (digit_after v b) bs
