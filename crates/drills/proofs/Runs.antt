-- What the code prints of a schedule is its line.
use Prim.Native.Nat.{ℕ, zero, suc, ◌+◌, ◌-◌, ◌%◌, ◌^◌, ◌≤◌, ◌<◌}
use native.Mathlib.Omega.{arith}
use mathlib.Core.Path.{◌≡◌, refl, sym, ap, subst, ◌∙◌}
use mathlib.Core.Bool.{true}
use mathlib.Core.List.{List, [], ◌∷◌, ◌++◌, map}
use lib.ListN.{length, take, drop, set, replicate, length-map, length-take}
use lib.Seq.{sets, sets-eq, take_at, take-nil}
use Rattle.common.specs.Answers.{Answer}
use Rattle.common.specs.declared.calls.Call.{Call}
use Rattle.common.specs.declared.calls.Call.TheVariants.{Write as write, Read as read}
use Rattle.common.specs.CallWords.{kind_of, calls_in, answer_word}
use Rattle.common.specs.SetUp.{readers_fit, set_up_of}
use Rattle.common.specs.Register.{Ran, run_of}
use Rattle.protocol.specs.Rules.{ticket_rules}
use Rattle.lists.specs.Run.{MadeCalls, run_words_of}
use Rattle.schedules.specs.Schedules.{Turn, w, r}
use Rattle.schedules.specs.Numbers.{turns_of}
use Rattle.lines.specs.Adds.{Adds, Sink}
use Rattle.lines.proofs.Adds.{then_adds}
use Rattle.printing.specs.Verdict.{verdict_line}
use Rattle.printing.specs.Print.{lent_cells}
use Rattle.printing.specs.Drill.{turn_call, drill_calls, drill_rows, drill_run, turn_letters, drill_line}
use Rattle.printing.proofs.DrillBook.{accepted}
use Rattle.prints.proofs.Made.{count_is, front, rows_are}
use Rattle.drills.specs.Words.{turn_word, turn_words, word_letters, number_line}
use Rattle.drills.proofs.Turns.{turn_count, AllLow, low_run, letters_are}

-- The turns' words are their calls, and so are the begins'.
turns_made : (s : List Turn) (places : List ℕ) → length s ≤ length places → calls_in (map turn_word s) places ≡ map turn_call s
unfolding calls_in
turns_made [] places h = refl
turns_made (t ∷ s) [] h = absurd (omega arith)
turns_made (w ∷ s) (a ∷ places) h = ap (λ (cs : List Call). turn_call w ∷ cs) (turns_made s places (omega arith))
turns_made (r ∷ s) (a ∷ places) h = ap (λ (cs : List Call). turn_call r ∷ cs) (turns_made s places (omega arith))

-- places for the words, and for the answers
abbrev places : List ℕ
places = replicate 18 0

calls_made : (v : ℕ) (s : List Turn) → v < 2 ^ 32 → length s ≤ 16
    → calls_in ((4294967296 + v) ∷ 8589934593 ∷ map turn_word s) places ≡ drill_calls v s
unfolding calls_in
calls_made v s low h =
    let k : kind_of (4294967296 + v) ≡ 1 = omega arith in
    let l : (4294967296 + v) % 2 ^ 32 ≡ v = omega arith in
    rw (k, l) (ap (λ (cs : List Call). write v ∷ read 1 ∷ cs) (turns_made s (replicate 16 0) h))

-- The words of a schedule's calls: the two begins, and its turns put behind them.
module _ (v k x : ℕ) (few : k ≤ 16) where
  abbrev begins : List ℕ
  begins = set (set places 0 (4294967296 + v)) 1 8589934593

  abbrev words : List ℕ
  words = sets begins 2 (turn_words k x)

  turn_words_lem : length (turn_words k x) ≡ k
  unfolding turn_words
  turn_words_lem = length-map (turns_of k x) turn_word ∙ turn_count k x

  words_are : words ≡ (4294967296 + v) ∷ 8589934593 ∷ turn_words k x ++ drop (2 + length (turn_words k x)) begins
  words_are = sets-eq (turn_words k x) begins 2 (omega (arith, turn_words_lem))

  calls_front : take (k + 2) words ≡ (4294967296 + v) ∷ 8589934593 ∷ turn_words k x
  calls_front =
      ap (take (k + 2)) words_are
      ∙ take_at ((4294967296 + v) ∷ 8589934593 ∷ turn_words k x) (drop (2 + length (turn_words k x)) begins) (k + 2) (omega (arith, turn_words_lem))

  turns_front : take k (drop 2 words) ≡ turn_words k x
  turns_front = ap (λ (l : List ℕ). take k (drop 2 l)) words_are ∙ take_at (turn_words k x) (drop (2 + length (turn_words k x)) begins) k turn_words_lem

  pub words_within : (ws : List ℕ) → ws ≡ words → (k + 2 ≤ length ws) × (k + 2 ≡ length (take (k + 2) ws))
  words_within ws e =
      let f : length (take (k + 2) ws) ≡ k + 2 = ap (λ (l : List ℕ). length (take (k + 2) l)) e ∙ ap length calls_front ∙ omega (arith, turn_words_lem) in
      (omega (arith, length-take (k + 2) ws), sym f)

-- the answers of the turns are behind those of the begins
behind_begins : (k : ℕ) (l : List ℕ) (answers : List Answer) → take (k + 2) l ≡ map answer_word answers → take (k + 2 - 2) (drop 2 l) ≡ map answer_word (drop 2 answers)
behind_begins k l answers e =
    let f : k + 2 ≡ 2 + (k + 2 - 2) = omega arith in
    sym (drop_take 2 (k + 2 - 2) l) ∙ ap (λ (i : ℕ). drop 2 (take i l)) (sym f) ∙ ap (drop 2) e ∙ drop_map answers
  where
    drop_take : (i j : ℕ) (l : List ℕ) → drop i (take (i + j) l) ≡ take j (drop i l)
    drop_take zero j l = let g : 0 + j ≡ j = omega arith in rw g
    drop_take (suc i) j [] = let g : suc i + j ≡ suc (i + j) = omega arith in rw (g, take-nil {A = ℕ} j)
    drop_take (suc i) j (a ∷ l) = let g : suc i + j ≡ suc (i + j) = omega arith in rw g (drop_take i j l)

    drop_map : (answers : List Answer) → drop 2 (map answer_word answers) ≡ map answer_word (drop 2 answers)
    drop_map [] = refl
    drop_map (a ∷ []) = refl
    drop_map (a ∷ b ∷ answers) = refl

low_behind : (answers : List Answer) → AllLow answers → AllLow (drop 2 answers)
low_behind [] h = h
low_behind (a ∷ []) h = tt
low_behind (a ∷ b ∷ answers) h = h.1.1

module _ (n start v k x : ℕ) (fit : readers_fit n ≡ true) (low : v < 2 ^ 32) (few : k ≤ 16) (ws : List ℕ) (m : MadeCalls) (e : ws ≡ words v k x few)
    (i : m ≡ run_words_of ticket_rules n start 0 (take (k + 2) ws) lent_cells drill_rows places) where
  abbrev s : List Turn
  s = turns_of k x

  calls_are : calls_in (take (k + 2) ws) places ≡ drill_calls v s
  unfolding turn_words
  calls_are =
      ap (λ (l : List ℕ). calls_in (take (k + 2) l) places) e
      ∙ ap (λ (l : List ℕ). calls_in l places) (calls_front v k x few)
      ∙ calls_made v s low (omega (arith, turn_count k x))

  made_is : m.made ≡ k + 2
  made_is = count_is n start lent_cells drill_rows (take (k + 2) ws) places m (accepted n start fit) i ∙ ap length calls_are ∙ omega (arith, length-map s turn_call, turn_count k x)

  ran_is : run_of ticket_rules (set_up_of ticket_rules n start 0 lent_cells drill_rows).state (set_up_of ticket_rules n start 0 lent_cells drill_rows).table (set_up_of ticket_rules n start 0 lent_cells drill_rows).log (calls_in (take (k + 2) ws) places) ≡ drill_run n start v s
  ran_is = ap (run_of ticket_rules (set_up_of ticket_rules n start 0 lent_cells drill_rows).state (set_up_of ticket_rules n start 0 lent_cells drill_rows).table (set_up_of ticket_rules n start 0 lent_cells drill_rows).log) calls_are

  letters : word_letters (take (k + 2 - 2) (drop 2 ws)) (take (k + 2 - 2) (drop 2 m.places)) ≡ turn_letters s (drop 2 (drill_run n start v s).answers)
  unfolding turn_words
  letters =
      let g : k + 2 - 2 ≡ k = omega arith in
      let answers = (drill_run n start v s).answers in
      let f : take (k + 2) m.places ≡ map answer_word answers =
      ap (λ (j : ℕ). take j m.places) (sym made_is)
      ∙ front n start lent_cells drill_rows (take (k + 2) ws) places m (accepted n start fit) i
      ∙ ap (λ (y : Ran). map answer_word y.answers) ran_is in
      ap (λ (l : List ℕ). word_letters l (take (k + 2 - 2) (drop 2 m.places))) (ap (λ (l : List ℕ). take (k + 2 - 2) (drop 2 l)) e ∙ ap (λ (j : ℕ). take j (drop 2 (words v k x few))) g ∙ turns_front v k x few)
      ∙ ap (word_letters (map turn_word s)) (behind_begins k m.places answers f)
      ∙ letters_are s (drop 2 answers) (low_behind answers (low_run (drill_calls v s) _ _ _))

  pub line_is : {o a b y : Sink} → Adds (word_letters (take (k + 2 - 2) (drop 2 ws)) (take (k + 2 - 2) (drop 2 m.places))) o a
      → Adds (32 ∷ []) a b
      → Adds (verdict_line (take m.state.head.used m.log)) b y
      → Adds (number_line n start v k x) o y
  unfolding drill_line
  line_is {o} {a} {b} {y} A B C =
      let A' = subst (λ (t : List ℕ). Adds t o a) letters A in
      let C' = subst (λ (t : List ℕ). Adds (verdict_line t) b y)
      (rows_are n start lent_cells drill_rows (take (k + 2) ws) places m (accepted n start fit) i ∙ ap (λ (y : Ran). take y.state.head.used y.log) ran_is) C in
      then_adds A' (then_adds B C')
