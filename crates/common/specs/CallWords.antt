-- A list of calls as words: the kind above, the number below.
use Rattle.std.specs.Prelude.{ℕ, ◌+◌, ◌*◌, ◌^◌, Bool, ◌||◌, List, [], ◌∷◌, eqb}
use Rattle.words.specs.Choice.{pick}
use Rattle.words.specs.Bits.{low, field}
use Rattle.common.specs.Answers.{Answer, number_of, sub_step_of}
use Rattle.common.specs.Calls.{Call, write, read, step, retire}

-- A call's word has its kind in the upper half, 1 begin a write, 2 begin a read, 3 a sub-step, 4 retire a reader, and its number in the
-- lower.
abbrev pub kind_of : ℕ → ℕ
kind_of w = field 32 32 w

abbrev pub is_call : ℕ → Bool
is_call w = eqb (kind_of w) 1 || (eqb (kind_of w) 2 || (eqb (kind_of w) 3 || eqb (kind_of w) 4))

abbrev pub call_in : ℕ → Call
call_in w =
    pick (eqb (kind_of w) 1) (write (low 32 w))
    (pick (eqb (kind_of w) 2) (read (low 32 w)) (pick (eqb (kind_of w) 3) (step (low 32 w)) (retire (low 32 w))))

-- An answer's word: the refusal number in the upper half, the sub-step's number in the lower.
abbrev pub answer_word : Answer → ℕ
answer_word a = number_of a * 2 ^ 32 + sub_step_of a

-- The calls that are made: up to the first word that is no call, and no more than there are places for answers.
unfoldable pub calls_in : List ℕ → List ℕ → List Call
calls_in [] places = []
calls_in (w ∷ ws) [] = []
calls_in (w ∷ ws) (a ∷ places) = pick (is_call w) (call_in w ∷ calls_in ws places) []
