-- A search among numbers.
use Rattle.std.specs.Prelude.{ℕ, suc, zero, Bool}
use Rattle.words.specs.Choice.{pick}

-- the first number from lo on, among n, that passes f; lo + n if there is none
unfoldable pub first : (ℕ → Bool) → ℕ → ℕ → ℕ
first f lo zero = lo
first f lo (suc n) = let rest = first f (suc lo) n in pick (f lo) lo rest
