-- The state's processors: idle, begun, and how many are open.
use Rattle.std.specs.Prelude.{ℕ, ◌+◌, ◌-◌, Bool, true, false, not, ◌&&◌, get_or, set, eqb}
use Rattle.words.specs.Counting.{one, count}
use Rattle.words.specs.Bits.{field}
use Rattle.common.specs.declared.Head.{Head}
use Rattle.common.specs.declared.Writer.{Writer}
use Rattle.common.specs.declared.Reader.{Reader}
use Rattle.common.specs.declared.State.{State}
use Rattle.common.specs.Head.{freed}

-- what an array of readers gives past its end; no processor stands there
abbrev pub blank : Reader
blank = record {
  retired = false;
  active = false;
  second = false;
  moved = 0;
  stamp = record { cur = 0; prev = 0 };
  look = 0;
  agree = false;
  found = false;
  result = 0;
}

-- reader i + 1
abbrev pub reader_at : State → ℕ → Reader
reader_at s i = get_or s.readers i blank

-- (02) "The state gains the set of retired readers": processor p is in it; the writer never is
abbrev pub is_retired : State → ℕ → Bool
is_retired s p = not (eqb p 0) && (reader_at s (p - 1)).retired

-- (02) "An operation it had open stays unended in the log and stops counting as open in questions 4 and 7"
abbrev pub still_open : Bool → Bool → Bool
still_open retired active = not retired && active

-- a reader as these two questions see it
abbrev pub as_counted : Reader → Reader
as_counted r = record r { active = still_open r.retired r.active }

-- the open operations
abbrev pub open_readers : State → ℕ
open_readers s = count s.head.n (λ i. (as_counted (reader_at s i)).active)

abbrev pub open_in : State → ℕ
open_in s = one s.writer.active + open_readers s

-- the state with another head, and another writer or reader i + 1
abbrev pub with_writer : State → Writer → Head → State
with_writer s w h = record s { head = h; writer = w }

abbrev pub with_reader : State → ℕ → Reader → Head → State
with_reader s i r h = record s { head = h; readers = set s.readers i r }

-- "A begin opens its processor with no word moved": a write of v, that has read no cell
abbrev pub writer_begins : Writer → ℕ → Writer
writer_begins w v = record w { active = true; moved = 0; value = v; excluded = 0 }

-- a read, in its first attempt, that has found nothing
abbrev pub reader_begins : Reader → Reader
reader_begins r = record r { active = true; second = false; moved = 0; result = 0 }

-- (02) "Add a call that retires a reader, for good, at any sub-step": nothing else of it changes
abbrev pub retires : Reader → Reader
retires r = record r { retired = true }

-- the state with reader p retired: its operation counts as open no longer
abbrev pub with_retired : State → ℕ → State
with_retired s p = let r = reader_at s (p - 1) in with_reader s (p - 1) (retires r) (freed s.head r.active)

-- the reading in a cell's word: its upper 32 bits, in both registers
abbrev pub value_in : ℕ → ℕ
value_in w = field 32 32 w
