-- The schedules of a short drill (document 02, card 11).
use Rattle.std.specs.Prelude.{ℕ, suc, zero, ◌+◌, List, [], ◌∷◌, ◌++◌, map}

-- a turn of the writer, or of reader 1: "the turns as w and r"
pub data Turn : Type 0 where
  w r : Turn

-- "What may follow a writer's turn and what may follow a reader's turn are each defined through the other, and the turns left grow
-- fewer": k turns are left, a of the writer and b of the reader. A writer's turn comes first, where one is left.
unfoldable mutual
  pub after_writer : ℕ → ℕ → ℕ → List (List Turn)
  after_writer zero a b = [] ∷ []
  after_writer (suc k) zero zero = []
  after_writer (suc k) (suc a) zero = map (w ∷◌) (after_writer k a zero)
  after_writer (suc k) zero (suc b) = map (r ∷◌) (after_reader k zero b)
  after_writer (suc k) (suc a) (suc b) = map (w ∷◌) (after_writer k a (suc b)) ++ map (r ∷◌) (after_reader k (suc a) b)

  pub after_reader : ℕ → ℕ → ℕ → List (List Turn)
  after_reader zero a b = [] ∷ []
  after_reader (suc k) zero zero = []
  after_reader (suc k) (suc a) zero = map (w ∷◌) (after_writer k a zero)
  after_reader (suc k) zero (suc b) = map (r ∷◌) (after_reader k zero b)
  after_reader (suc k) (suc a) (suc b) = map (w ∷◌) (after_writer k a (suc b)) ++ map (r ∷◌) (after_reader k (suc a) b)

-- "all schedules of a writer's a turns and reader 1's b turns": what may come first is what may follow any turn
abbrev pub schedules : ℕ → ℕ → List (List Turn)
schedules a b = after_writer (a + b) a b
