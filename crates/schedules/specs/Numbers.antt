-- Schedules as numbers: a bit for each turn, the first turn's the highest, 1 for the reader.
use Rattle.std.specs.Prelude.{ℕ, suc, zero, ◌+◌, ◌*◌, ◌/◌, ◌%◌, ◌≡◌, List, [], ◌∷◌, ◌++◌, map, eqb, leb}
use Rattle.words.specs.Choice.{pick}
use Rattle.schedules.specs.Schedules.{Turn, w, r, schedules}
use Rattle.schedules.specs.Meaning.{AllSchedules}

-- the number of a schedule, behind the turns that d stands for
unfoldable pub value : ℕ → List Turn → ℕ
value d [] = d
value d (w ∷ s) = value (2 * d) s
value d (r ∷ s) = value (2 * d + 1) s

unfoldable pub numbers : ℕ → List (List Turn) → List ℕ
numbers d l = map (value d) l

-- the largest number that k turns behind d can make
unfoldable pub top : ℕ → ℕ → ℕ
top zero d = d
top (suc k) d = top k (2 * d + 1)

-- the turn of a bit, and the k turns of a number
abbrev pub turn_of : ℕ → Turn
turn_of bit = pick (eqb bit 0) w r

unfoldable pub turns_of : ℕ → ℕ → List Turn
turns_of zero x = []
turns_of (suc k) x = turns_of k (x / 2) ++ (turn_of (x % 2) ∷ [])

-- "a+b at most 16": the numbers of the schedules, and none of longer drills
unfoldable pub listed : ℕ → ℕ → List ℕ
listed a b = pick (leb (a + b) 16) (numbers 0 (schedules a b)) []

-- Numbers that are those of all schedules, in their order.
pub record Lists (a b : ℕ) (ns : List ℕ) : Type 0 where
  pub list : List (List Turn)
  pub means : AllSchedules a b list
  pub numbers_are : ns ≡ numbers 0 list
