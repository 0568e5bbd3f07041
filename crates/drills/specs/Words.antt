-- A drill's lines as the code makes them: with schedules as numbers, and calls and answers as words.
use Rattle.std.specs.Prelude.{ℕ, ◌+◌, ◌*◌, ◌%◌, ◌^◌, List, [], ◌∷◌, map, eqb}
use Rattle.words.specs.Choice.{pick}
use Rattle.schedules.specs.Schedules.{Turn, w, r}
use Rattle.schedules.specs.Numbers.{turns_of}
use Rattle.printing.specs.Drill.{drill_line}
use Rattle.prints.specs.Words.{refusal_in}

-- the call of a turn, a sub-step
abbrev pub turn_word : Turn → ℕ
turn_word w = 3 * 2 ^ 32
turn_word r = 3 * 2 ^ 32 + 1

-- those of a schedule's k turns
unfoldable pub turn_words : ℕ → ℕ → List ℕ
turn_words k x = map turn_word (turns_of k x)

-- the letter of a turn, by its call and its answer
unfoldable pub word_letter : ℕ → ℕ → ℕ
word_letter call answer = pick (eqb (refusal_in answer) 0) (pick (eqb (call % 2) 0) 119 114) (pick (eqb (call % 2) 0) 87 82)

unfoldable pub word_letters : List ℕ → List ℕ → List ℕ
word_letters [] answers = []
word_letters (c ∷ cs) [] = []
word_letters (c ∷ cs) (a ∷ answers) = word_letter c a ∷ word_letters cs answers

-- the line of a schedule that has k turns
abbrev pub number_line : ℕ → ℕ → ℕ → ℕ → ℕ → List ℕ
number_line n start v k x = drill_line n start v (turns_of k x)
