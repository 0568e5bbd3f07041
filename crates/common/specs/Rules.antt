-- What a register's own rules are; question 4.
use Rattle.std.specs.Prelude.{ℕ, ◌<◌, ◌≡◌, List, Bool, true, ◌&&◌}
use Rattle.words.specs.Counting.{all}
use Rattle.common.specs.declared.Writer.{Writer}
use Rattle.common.specs.declared.Reader.{Reader}
use Rattle.common.specs.declared.State.{State}
use Rattle.common.specs.Head.{head_ok, HeadInRange}
use Rattle.common.specs.State.{reader_at, as_counted, open_in}

-- what a sub-step of a write, or of a read, leaves
pub record WriteStep : Type 0 where
  pub writer : Writer
  pub table : List ℕ

pub record ReadStep : Type 0 where
  pub reader : Reader
  pub table : List ℕ

pub record Rules : Type 0 where
  -- whether it is the counted register
  pub counted : Bool
  -- how many cells n readers need
  pub cells : ℕ → ℕ
  -- the fresh cells of n readers, of a start value and a fresh stamp
  pub fresh_cells : ℕ → ℕ → ℕ → List ℕ
  -- question 4 of the writer and of a reader, with n readers
  pub writer_ok : ℕ → Writer → Bool
  pub reader_ok : ℕ → Reader → Bool
  -- a write may begin, as far as its stamp goes (14)
  pub may_write : Writer → Bool
  -- a sub-step of the open write, and of reader p's open read, of n readers, over the table
  pub write_step : ℕ → Writer → List ℕ → WriteStep
  pub read_step : ℕ → ℕ → Reader → List ℕ → ReadStep

module _ (R : Rules) where
  abbrev pub readers_ok : State → Bool
  readers_ok s = all s.head.n (λ i. R.reader_ok s.head.n (as_counted (reader_at s i)))

  -- "is the state in range (4 if not, and for nothing else": with a table of so many cells and a log of so many rows
  unfoldable pub state_ok : State → ℕ → ℕ → Bool
  state_ok s cells log =
      head_ok (R.cells s.head.n) s.head (open_in s) cells log && (R.writer_ok s.head.n s.writer && readers_ok s)

  -- what that means, but for the processors, whose tests have a meaning of their own in each register
  pub record InRange (s : State) (cells log : ℕ) : Type 0 where
    pub head_good : HeadInRange (R.cells s.head.n) s.head (open_in s) cells log
    pub writer_passes : R.writer_ok s.head.n s.writer ≡ true
    pub readers_pass : (i : ℕ) → i < s.head.n → R.reader_ok s.head.n (as_counted (reader_at s i)) ≡ true
