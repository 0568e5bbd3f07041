-- A list of calls, made from words, of a register with the rules R.
use Rattle.std.specs.Prelude.{ℕ, ◌≤◌, ◌≡◌, List, [], ◌++◌, map, eqb, length, take, drop}
use Rattle.words.specs.Choice.{pick}
use Rattle.history.specs.Bands.{NoBands}
use Rattle.history.specs.Linearization.{Orders, NeverOlder}
use Rattle.common.specs.declared.State.{State}
use Rattle.common.specs.State.{is_retired, open_in}
use Rattle.common.specs.declared.calls.Call.{Call}
use Rattle.common.specs.CallWords.{answer_word, calls_in}
use Rattle.common.specs.Rules.{Rules}
use Rattle.common.specs.SetUp.{set_up_of}
use Rattle.common.specs.Register.{run_of}
use Rattle.common.specs.Book.{Telling, open_count}
use Rattle.common.specs.Whole.{model_of}
use Rattle.lists.specs.declared.Made.{Made}

pub record MadeCalls : Type 0 where
  pub made : ℕ
  pub state : State
  pub table : List ℕ
  pub log : List ℕ
  pub places : List ℕ

abbrev pub made_calls : Made → List ℕ → List ℕ → List ℕ → MadeCalls
made_calls m t l places = record { made = m.made; state = m.state; table = t; log = l; places = places }

-- what the calls in the words leave, from a state on: "refused or not", each is handed what the one before returned; places beyond
-- the answers stay as they were
unfoldable pub made_of : Rules → State → List ℕ → List ℕ → List ℕ → List ℕ → MadeCalls
made_of R s t l words places =
    let cs = calls_in words places in
    let r = run_of R s t l cs in
    record {
      made = length cs;
      state = r.state;
      table = r.table;
      log = r.log;
      places = map answer_word r.answers ++ drop (length cs) places;
    }

-- set-up, and then the calls; none if it is refused
unfoldable pub run_words_of : Rules → ℕ → ℕ → ℕ → List ℕ → List ℕ → List ℕ → List ℕ → MadeCalls
run_words_of R n v fresh words t l places =
    let o = set_up_of R n v fresh t l in
    made_of R o.state o.table o.log (pick (eqb (answer_word o.answer) 0) words []) places

-- Demand 3 about the code: what an accepted run of n readers leaves in m, with the words and the buffers that it was handed. B is the
-- register's book, and W its own claim about a list of calls.
module _ {Stamp Cell : Type 0} (R : Rules) (B : Telling Stamp Cell) (W : List Call → Type 0) (n v fresh : ℕ) (t l words places : List ℕ)
    (m : MadeCalls) where
  pub record WholeRun : Type 0 where
    pub made_is : m.made ≡ length (calls_in words places)
    -- "the answers, the table and the log equal those of the book"
    pub answers_are : m.places ≡ map answer_word (model_of B n v fresh l (calls_in words places)).answers ++ drop m.made places
    pub cells_are : take (R.cells n) m.table ≡ (model_of B n v fresh l (calls_in words places)).model.table
    pub used_is : m.state.head.used ≡ length (model_of B n v fresh l (calls_in words places)).model.rows
    pub rows_are : take m.state.head.used m.log ≡ (model_of B n v fresh l (calls_in words places)).model.rows
    -- (02) "the book keeps that set": the state's retired readers are the book's
    pub retired_are : (p : ℕ) → p ≤ n → is_retired m.state p ≡ (model_of B n v fresh l (calls_in words places)).model.retired p
    -- (02) "it equals the count after set-up and after each call that passes question 4", in the state and in the book
    pub opens_is : m.state.head.opens ≡ open_in m.state
    pub opens_in_book : m.state.head.opens ≡ open_count n (model_of B n v fresh l (calls_in words places)).model
    -- "every cell and row beyond is as set-up left it"
    pub cells_beyond : drop (R.cells n) m.table ≡ drop (R.cells n) (set_up_of R n v fresh t l).table
    pub rows_beyond : drop m.state.head.used m.log ≡ drop m.state.head.used (set_up_of R n v fresh t l).log
    -- "and that log has such an order"
    pub ordered : (o : List ℕ) × Orders (take m.state.head.used m.log) o
    -- "logs of the register itself contain no such rows": none ends a read with a band
    pub no_bands : NoBands (take m.state.head.used m.log)
    -- "can yours be the older although you looked later?" In no order of the log: a read that began after another had ended stands
    -- behind the same write or a later one.
    pub never_older : (o : List ℕ) → Orders (take m.state.head.used m.log) o → NeverOlder (take m.state.head.used m.log) o
    -- the sub-steps' numbers, the ends, and the new tickets or the stamps: the claim about the first k of the calls that were made, for
    -- each k
    pub whole : (k : ℕ) → W (take k (calls_in words places))
