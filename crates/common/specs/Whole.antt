-- Demand 3, as far as it is the same for both registers: a list of calls against the book. Every list is covered, so what is said of the
-- call that follows a list is said of every call of every list.
use Rattle.std.specs.Prelude.{ℕ, ◌+◌, ◌≤◌, ◌≡◌, Bool, true, false, List, T, length, take, drop, Err}
use Rattle.words.specs.Counting.{one}
use Rattle.history.specs.WellFormed.{well_formed}
use Rattle.history.specs.Bands.{NoBands}
use Rattle.history.specs.Linearization.{Orders}
use Rattle.common.specs.Answers.{never4}
use Rattle.common.specs.Calls.{Call, step, retire, CallBy}
use Rattle.common.specs.declared.Refusal.TheVariants.{Retired}
use Rattle.common.specs.State.{is_retired, open_in}
use Rattle.common.specs.Rules.{Rules, state_ok}
use Rattle.common.specs.SetUp.{Outcome, set_up_of}
use Rattle.common.specs.Register.{call_of, Ran, ran_from}
use Rattle.common.specs.Book.{Telling, Model, is_open, open_count, told, Kept, kept, fresh_model}

module _ {Stamp Cell : Type 0} (B : Telling Stamp Cell) (n v fresh : ℕ) (l : List ℕ) (cs : List Call) where
  -- the book of a list: "fed n, the start reading, the log's length and the calls"
  abbrev pub model_of : Kept Stamp Cell
  model_of = kept B n (length l) (fresh_model B n v fresh) cs

  -- whether processor p's operation is open in it behind one sub-step more
  abbrev pub still : ℕ → Bool
  still p = is_open ((told B n (length l) (kept B n (length l) (fresh_model B n v fresh) cs).model (step p)).model.op p)

-- the call that follows a list
abbrev pub next : Rules → ℕ → ℕ → ℕ → List ℕ → List ℕ → List Call → Call → Outcome
next R n v fresh t l cs c = let r = ran_from R n v fresh t l cs in call_of R r.state r.table r.log c

module _ {Stamp Cell : Type 0} (R : Rules) (B : Telling Stamp Cell) (n v fresh : ℕ) (t l : List ℕ) (cs : List Call) where
  abbrev ran : Ran
  ran = ran_from R n v fresh t l cs

  abbrev model : Model Stamp Cell
  model = (model_of B n v fresh l cs).model

  -- reader p, if it is retired behind the list, whatever call follows
  pub record Out (p : ℕ) : Type 0 where
    -- (02) "13, the reader is retired, for its begin, step or retirement"
    pub thirteen : (c : Call) → CallBy p c → (next R n v fresh t l cs c).answer ≡ Err Retired
    -- (02) "Add a call that retires a reader, for good"
    pub for_good : (c : Call) → is_retired (next R n v fresh t l cs c).state p ≡ true

  pub record AsBook : Type 0 where
    -- "The answers compared are each call's refusal number, or that it has none, and each sub-step's number."
    pub answers_are : ran.answers ≡ (model_of B n v fresh l cs).answers
    -- "After the list the first n²+n cells and the used rows are the book's"; of the counted register the first n²
    pub cells_are : take (R.cells n) ran.table ≡ model.table
    pub used_is : ran.state.head.used ≡ length model.rows
    pub rows_are : take ran.state.head.used ran.log ≡ model.rows
    -- (02) "the book keeps that set": the state's retired readers are the book's
    pub retired_are : (p : ℕ) → p ≤ n → is_retired ran.state p ≡ model.retired p
    pub out : (p : ℕ) → 1 ≤ p → p ≤ n → model.retired p ≡ true → Out p
    -- (02) "Its cells remain just as they stand", "and adds no row"
    pub moves_nothing : (p : ℕ) → ((next R n v fresh t l cs (retire p)).table ≡ ran.table) × ((next R n v fresh t l cs (retire p)).log ≡ ran.log)
    -- (02) "it equals the count after set-up and after each call that passes question 4", in the state and in the book
    pub opens_is : ran.state.head.opens ≡ open_in ran.state
    pub opens_in_book : ran.state.head.opens ≡ open_count n model
    -- (02) "An operation it had open .. stops counting as open in questions 4 and 7": a retirement takes it out of the number
    pub frees : (p : ℕ) → 1 ≤ p → p ≤ n → model.retired p ≡ false
        → (next R n v fresh t l cs (retire p)).state.head.opens + one (is_open (model.op p)) ≡ ran.state.head.opens
    -- "every cell and row beyond is as set-up left it."
    pub cells_beyond : drop (R.cells n) ran.table ≡ drop (R.cells n) (set_up_of R n v fresh t l).table
    pub rows_beyond : drop ran.state.head.used ran.log ≡ drop ran.state.head.used (set_up_of R n v fresh t l).log
    -- "in a list question 4 refuses nothing"
    pub question_4 : never4 ran.answers ≡ true
    pub passes_4 : state_ok R ran.state (length ran.table) (length ran.log) ≡ true
    -- "and these rows have an order": they are well formed, and there is one
    pub formed : T (well_formed model.rows)
    pub ordered : (o : List ℕ) × Orders model.rows o
    -- "logs of the register itself contain no such rows": none ends a read with a band
    pub no_bands : NoBands model.rows
