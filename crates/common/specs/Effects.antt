-- What a call of either register may touch.
use Rattle.std.specs.Prelude.{ℕ, ◌<◌, ◌≡◌, List, true, false, length, get_or, set, drop}
use Rattle.common.specs.declared.State.{State}
use Rattle.common.specs.State.{open_in}
use Rattle.common.specs.Rules.{Rules, state_ok}
use Rattle.common.specs.SetUp.{Outcome, no_state}

-- "a bus that moves one word at a time between two fixed parts": a sub-step of processor p, by what comes of the processor and of the
-- table t, moves one word of the table, from or to another processor. place i j: where the cell from i to j stands; Has i j: there is one.
pub data OneWord (place : ℕ → ℕ → ℕ) (Has : ℕ → ℕ → Type 0) (p : ℕ) {A : Type 0} (next : List ℕ → A) (table : List ℕ → List ℕ) : Type 0 where
  -- it reads the cell from q to p: the table stays, and what comes of it depends on that cell alone
  reads : (q : ℕ) → Has q p → ((t : List ℕ) → table t ≡ t)
      → ((t t' : List ℕ) → get_or t (place q p) 0 ≡ get_or t' (place q p) 0 → next t ≡ next t') → OneWord place Has p next table
  -- it stores a word in the cell from p to q, whatever the table holds
  stores : (q w : ℕ) → Has p q → ((t : List ℕ) → table t ≡ set t (place p q) w) → ((t t' : List ℕ) → next t ≡ next t')
      → OneWord place Has p next table

-- (02) "Its cells remain just as they stand": processor p's cells are in the table t' as in t
abbrev pub Stand : (ℕ → ℕ → ℕ) → (ℕ → ℕ → Type 0) → ℕ → List ℕ → List ℕ → Type 0
Stand place Has p t t' = (q : ℕ) → Has p q → get_or t' (place p q) 0 ≡ get_or t (place p q) 0

-- a list as it was, or with one place below b set
pub data AtMostOne (b : ℕ) (l : List ℕ) : List ℕ → Type 0 where
  as_it_was : AtMostOne b l l
  one_set : (k w : ℕ) → k < b → AtMostOne b l (set l k w)

-- a call on the state s, the table t and the log l, by what comes of it: "A no gives its number and alters nothing."
pub record Unaltered (s : State) (t l : List ℕ) (o : Outcome) : Type 0 where
  pub state_same : o.state ≡ s
  pub table_same : o.table ≡ t
  pub log_same : o.log ≡ l

-- it sets at most one cell and one row, and nothing else of its buffers: "further ones are never touched", "rows not yet added are never
-- touched"
pub record Touches (R : Rules) (s : State) (t l : List ℕ) (o : Outcome) : Type 0 where
  pub one_cell : AtMostOne (R.cells s.head.n) t o.table
  pub one_row : AtMostOne s.head.rows l o.log

-- what a set-up that is accepted leaves, and a call on a state that passed question 4
pub record Passes (R : Rules) (o : Outcome) : Type 0 where
  -- "The fresh state passes 4 with its table and log, and a state that passed 4 passes it again after the call."
  pub is_in_range : state_ok R o.state (length o.table) (length o.log) ≡ true
  -- (02) "it equals the count after set-up and after each call that passes question 4"
  pub opens_is : o.state.head.opens ≡ open_in o.state

-- set-up of n readers: "Set-up writes row 0 only", and its cells
pub record SetsUp (R : Rules) (n : ℕ) (t l : List ℕ) (o : Outcome) : Type 0 where
  pub cells_beyond : drop (R.cells n) o.table ≡ drop (R.cells n) t
  pub rows_beyond : drop 1 o.log ≡ drop 1 l
  pub passes : Passes R o

-- one that is refused: "A no gives its number and alters nothing." What it returns is no register's state: with every table and log each call
-- on it is 4
pub record NotSetUp (R : Rules) (t l : List ℕ) (o : Outcome) : Type 0 where
  pub table_same : o.table ≡ t
  pub log_same : o.log ≡ l
  pub state_is : o.state ≡ no_state R.counted
  pub out_of_range : (cells log : ℕ) → state_ok R o.state cells log ≡ false
