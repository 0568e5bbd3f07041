-- What is counted in a list of calls, by its answers.
use Rattle.std.specs.Prelude.{ℕ, ◌+◌, ◌≡◌, Bool, true, false, ◌&&◌, List, [], ◌∷◌, Ok, Err}
use Rattle.words.specs.Counting.{one}
use Rattle.common.specs.Calls.{is_write, is_read, is_retirement}
use Rattle.common.specs.declared.calls.Call.{Call}
use Rattle.common.specs.Answers.{Answer}
use Rattle.common.specs.declared.Done.TheVariants.{Accepted, Moved}

-- a list without retirements
abbrev pub NoRetirement : List Call → Type 0
NoRetirement [] = Unit {0}
NoRetirement (c ∷ cs) = (is_retirement c ≡ false) × NoRetirement cs

abbrev pub is_accepted : Answer → Bool
is_accepted (Ok Accepted) = true
is_accepted (Ok (Moved k)) = false
is_accepted (Err r) = false

abbrev pub is_moved : Answer → Bool
is_moved (Ok Accepted) = false
is_moved (Ok (Moved k)) = true
is_moved (Err r) = false

-- a call, by its answer: a write is begun; a read is; a word is moved
abbrev pub write_begun : Call → Answer → Bool
write_begun c a = is_write c && is_accepted a

abbrev pub read_begun : Call → Answer → Bool
read_begun c a = is_read c && is_accepted a

abbrev pub word_moved : Call → Answer → Bool
word_moved c a = is_moved a

-- how many calls, each with its answer, a test holds of
unfoldable pub tally : (Call → Answer → Bool) → List Call → List Answer → ℕ
tally f [] answers = 0
tally f (c ∷ cs) [] = 0
tally f (c ∷ cs) (a ∷ answers) = one (f c a) + tally f cs answers

abbrev pub writes_in : List Call → List Answer → ℕ
writes_in = tally write_begun

abbrev pub reads_in : List Call → List Answer → ℕ
reads_in = tally read_begun

abbrev pub words_in : List Call → List Answer → ℕ
words_in = tally word_moved
