-- Which turn a read's next sub-step is in the book.
use Prim.Native.Nat.{ℕ, ◌+◌, ◌-◌, ◌≤◌, ◌<◌}
use mathlib.Core.Path.{◌≡◌}
use mathlib.Core.List.{List, [], ◌∷◌, ◌++◌}
use lib.Dec.{ltb}
use borrow.Author.Tests.{lt-ltb, le-ltb}
use Rattle.words.specs.Choice.{pick}
use Rattle.words.specs.Index.{other}
use Rattle.common.specs.Book.{idle, open_with}
use Rattle.counted.specs.declared.Cell.{Cell}
use Rattle.counted.specs.Table.{view, store}
use Rattle.counted.specs.Steps.{read_steps}
use Rattle.counted.specs.Reference.{Operation, Turn, result_of, looks_at, read_turn}

module _ (n p : ℕ) (t : List ℕ) (s m : ℕ) (cells : List Cell) where
  -- the cells read, with the one that it looks at
  abbrev pub looked : List Cell
  looked = cells ++ (view n t (looks_at n p m) p ∷ [])

  -- the operation behind the sub-step, and what it leaves
  abbrev pub next : List Cell → Operation
  next cells' = pick (ltb (m + 1) (read_steps n)) (open_with 0 (m + 1) cells') idle

  abbrev pub after : List Cell → List ℕ → Operation → Turn
  after cells' t' op = record { op = op; stamp = s; table = t'; value = (result_of n cells').value }

  pub looks : m < n → read_turn n p t s m cells ≡ after looked t (next looked)
  unfolding read_turn
  looks h = rw (lt-ltb m n h)

  pub stores : n ≤ m → read_turn n p t s m cells ≡ after cells (store n t p (other p (m - n)) (result_of n cells)) (next cells)
  unfolding read_turn
  stores h = rw (le-ltb m n h)
