-- The turns of a schedule as calls, and their letters.
use Prim.Native.Nat.{ℕ, zero, suc, ◌+◌, ◌-◌, ◌/◌, ◌%◌, ◌<◌, min}
use native.Mathlib.Omega.{arith}
use native.Mathlib.Decide.{ℕ_discrete}
use native.Mathlib.Numerals.{add-one}
use mathlib.Core.Path.{◌≡◌, refl, ap, ◌∙◌}
use mathlib.Core.List.{List, [], ◌∷◌, ◌++◌, map, map-append}
use lib.ListN.{length, get_or, take, set, length-append, length-map}
use lib.Seq.{sets, set_comm, take_all}
use Rattle.common.specs.declared.State.{State}
use Rattle.common.specs.Answers.{Answer}
use Rattle.common.specs.declared.calls.Call.{Call}
use Rattle.common.specs.CallWords.{answer_word}
use Rattle.common.specs.Register.{call_of, run_of}
use Rattle.protocol.specs.Rules.{ticket_rules}
use Rattle.schedules.specs.Schedules.{Turn, w, r}
use Rattle.schedules.specs.Numbers.{turn_of, turns_of}
use Rattle.lines.specs.Adds.{Adds, Sink}
use Rattle.lines.proofs.Adds.{no_text, then_adds}
use Rattle.printing.specs.Drill.{turn_letter, turn_letters}
use Rattle.printing.proofs.Answers.{Low, plain_call}
use Rattle.prints.proofs.AnswerWords.{number_is}
use Rattle.drills.specs.Words.{turn_word, turn_words, word_letter, word_letters}

-- The calls, from the last turn on.
sets_last : (ns : List ℕ) (y : ℕ) (l : List ℕ) (p : ℕ) → sets l p (ns ++ (y ∷ [])) ≡ sets (set l (p + length ns) y) p ns
sets_last [] y l p = let e : p + 0 ≡ p = omega arith in rw e
sets_last (x ∷ ns) y l p =
    let e : p + suc (length ns) ≡ suc p + length ns = omega arith in
    rw (e, set_comm l (suc p + length ns) p y x (λ z. omega arith)) (sets_last ns y (set l p x) (suc p))

pub turn_count : (k x : ℕ) → length (turns_of k x) ≡ k
unfolding turns_of
turn_count zero x = refl
turn_count (suc k) x = omega (arith, length-append (turns_of k (x / 2)) (turn_of (x % 2) ∷ []), turn_count k (x / 2))

word_is : (x : ℕ) → turn_word (turn_of (x % 2)) ≡ 12884901888 + x % 2
word_is x =
    elim (ℕ_discrete (x % 2) 0) [
      | yes z ↦ rw z refl
      | no n ↦ let z : x % 2 ≡ 1 = omega arith in rw z refl
    ]

pub turns_next : (l : List ℕ) (k x : ℕ) → 0 < k → sets l 2 (turn_words k x) ≡ sets (set l (k + 1) (12884901888 + x % 2)) 2 (turn_words (k - 1) (x / 2))
unfolding turn_words turns_of
turns_next l zero x h = absurd (omega arith)
turns_next l (suc k) x h =
    let s = turns_of k (x / 2) in
    let e : suc k - 1 ≡ k = omega arith in
    let f : 2 + length (map turn_word s) ≡ suc k + 1 = omega (arith, length-map s turn_word, turn_count k (x / 2)) in
    rw (e, map-append turn_word s (turn_of (x % 2) ∷ []))
    (sets_last (map turn_word s) (turn_word (turn_of (x % 2))) l 2
    ∙ ap (λ (i : ℕ). sets (set l i (turn_word (turn_of (x % 2)))) 2 (map turn_word s)) f
    ∙ ap (λ (y : ℕ). sets (set l (suc k + 1) y) 2 (map turn_word s)) (word_is x))

pub turns_end : (l : List ℕ) (k x : ℕ) → k ≡ 0 → sets l 2 (turn_words k x) ≡ l
unfolding turn_words turns_of
turns_end l k x z = rw z

-- The letters one by one.
pub no_letters : (cs answers : List ℕ) (a : Sink) → Adds (word_letters (take 0 cs) (take 0 answers)) a a
unfolding word_letters
no_letters cs answers a = no_text a

one_more : (cs answers : List ℕ) (i : ℕ) → i < length cs → i < length answers
    → word_letters (take (suc i) cs) (take (suc i) answers) ≡ word_letters (take i cs) (take i answers) ++ (word_letter (get_or cs i 0) (get_or answers i 0) ∷ [])
unfolding word_letters
one_more [] answers i h g = absurd (omega arith)
one_more (c ∷ cs) [] i h g = absurd (omega arith)
one_more (c ∷ cs) (a ∷ answers) zero h g = refl
one_more (c ∷ cs) (a ∷ answers) (suc i) h g = ap (λ (t : List ℕ). word_letter c a ∷ t) (one_more cs answers i (omega arith) (omega arith))

pub next_letter : (cs answers : List ℕ) (i x : ℕ) {a b c : Sink} → i < length cs → i < length answers
    → x ≡ word_letter (get_or cs i 0) (get_or answers i 0)
    → Adds (word_letters (take i cs) (take i answers)) a b
    → Adds (x ∷ []) b c
    → Adds (word_letters (take (i + 1) cs) (take (i + 1) answers)) a c
next_letter cs answers i x h g z f k = rw (add-one i, one_more cs answers i h g) (then_adds f (rw z at k))

-- no letter is left behind the shorter of the lists
pub all_letters : (cs answers : List ℕ) (i : ℕ) → i ≡ min (length cs) (length answers) → word_letters (take i cs) (take i answers) ≡ word_letters cs answers
unfolding word_letters
all_letters [] answers i h = rw (take_all {A = ℕ} i [] (omega arith))
all_letters (c ∷ cs) [] i h = let z : i ≡ 0 = omega arith in rw z
all_letters (c ∷ cs) (a ∷ answers) zero h = absurd (omega arith)
all_letters (c ∷ cs) (a ∷ answers) (suc i) h = ap (λ (t : List ℕ). word_letter c a ∷ t) (all_letters cs answers i (omega arith))

-- The letters by words are those of the turns and their answers.
abbrev pub AllLow : List Answer → Type 0
AllLow [] = Unit {0}
AllLow (a ∷ answers) = Low a × AllLow answers

pub low_run : (cs : List Call) (s : State) (t l : List ℕ) → AllLow (run_of ticket_rules s t l cs).answers
unfolding run_of
low_run [] s t l = tt
low_run (c ∷ cs) s t l = let o = call_of ticket_rules s t l c in ((plain_call s t l c).0, low_run cs o.state o.table o.log)

letter_is : (t : Turn) (a : Answer) → Low a → word_letter (turn_word t) (answer_word a) ≡ turn_letter t a
unfolding word_letter turn_letter
letter_is w a h = rw (number_is a h)
letter_is r a h = rw (number_is a h)

pub letters_are : (s : List Turn) (answers : List Answer) → AllLow answers → word_letters (map turn_word s) (map answer_word answers) ≡ turn_letters s answers
unfolding word_letters turn_letters
letters_are [] answers h = refl
letters_are (t ∷ s) [] h = refl
letters_are (t ∷ s) (a ∷ answers) h = rw (letter_is t a h.0, letters_are s answers h.1)
