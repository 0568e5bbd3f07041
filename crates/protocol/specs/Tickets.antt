-- A set of tickets as a 64-bit number: ticket t is in s where digit t of s is 1.
use Rattle.std.specs.Prelude.{ℕ, zero, suc, ◌-◌, ◌/◌, ◌%◌, ◌^◌, ltb, leb}
use Rattle.std.specs.Int.Bits.{bit_or}
use Rattle.words.specs.declared.cell.Cell.{Cell}
use Rattle.words.specs.Choice.{pick}

-- digit t of s: 1 where t is in the set, else 0
abbrev pub bit : ℕ → ℕ → ℕ
bit s t = s / 2 ^ t % 2

-- the set with t. "None bars nothing."
unfoldable pub with_ticket : ℕ → ℕ → ℕ
with_ticket s t = pick (ltb t 63) (bit_or s (2 ^ t)) s

-- "Barred are the prev, announced cur and announced prev of each"
abbrev pub with_cell : ℕ → Cell → ℕ
with_cell s c = with_ticket (with_ticket (with_ticket s c.stamp.prev) c.announced.cur) c.announced.prev

abbrev pub next : ℕ → ℕ → ℕ
next zero t = zero
next (suc d) t = suc t

-- "the smallest unbarred": the smallest ticket below k that is not in s; k if there is none
unfoldable pub smallest_out : ℕ → ℕ → ℕ
smallest_out zero s = zero
smallest_out (suc k) s = next (s % 2) (smallest_out k (s / 2))

-- the tickets up to t; for none, 63, all
unfoldable pub through : ℕ → ℕ
through t = pick (ltb t 63) (2 ^ suc t - 1) (2 ^ 64 - 1)

-- "the smallest unbarred one above the writer's cur and up to 3n+2, and if there is none above, the smallest unbarred": up to top, where
-- those in s are barred
unfoldable pub walk_on : ℕ → ℕ → ℕ → ℕ
walk_on top cur s =
    let above = smallest_out 64 (bit_or s (through cur)) in
    pick (leb above top) above (smallest_out 64 s)
