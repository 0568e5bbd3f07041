-- Counting by a test.
use Rattle.std.specs.Prelude.{ℕ, zero, suc, ◌+◌, Bool, true, false, ◌&&◌}

-- 1 where the test holds, else 0
abbrev pub one : Bool → ℕ
one true = 1
one false = 0

-- f holds of each number below k
unfoldable pub all : ℕ → (ℕ → Bool) → Bool
all zero f = true
all (suc k) f = all k f && f k

-- how many numbers below k it holds of
unfoldable pub count : ℕ → (ℕ → Bool) → ℕ
count zero f = zero
count (suc k) f = count k f + one (f k)
