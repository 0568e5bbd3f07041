-- What the code prints of a run is what is to be printed.
use Rattle.std.specs.Prelude.{Ok, Err}
use Prim.Native.Nat.{ℕ, ◌+◌, ◌*◌, ◌≤◌, ◌<◌}
use native.Mathlib.Omega.{arith}
use mathlib.Core.Path.{◌≡◌, refl, sym, ap, ◌∙◌}
use mathlib.Core.Logic.{◌≢◌}
use mathlib.Core.Bool.{◌&&◌}
use mathlib.Core.List.{List, flat_map}
use lib.Dec.{leb}
use lib.ListN.{length, take, replicate}
use borrow.Author.Tests.{eq-eqb, ne_eqb, lt-ltb, le-ltb}
use Rattle.words.proofs.Laws.Choice.{pick_ind}
use Rattle.common.specs.declared.Done.TheVariants.{Accepted, Moved}
use Rattle.common.specs.declared.Refusal.{Refusal}
use Rattle.common.specs.declared.Refusal.TheVariants.{Readers, Cells, Rows, Range, Processor, Busy, Full, Idle, Retired, Spent}
use Rattle.common.specs.Answers.{Answer, refusal_number, number_of}
use Rattle.common.specs.CallWords.{calls_in}
use Rattle.common.specs.SetUp.{Outcome, set_up_of}
use Rattle.protocol.specs.Rules.{ticket_rules}
use Rattle.lists.specs.Run.{MadeCalls, run_words_of}
use Rattle.lines.specs.Lines.{bad_line, refused_line}
use Rattle.lines.specs.Adds.{Adds, Sink}
use Rattle.lines.proofs.Adds.{then_adds}
use Rattle.printing.specs.Print.{log_print, lent_cells, lent_rows}
use Rattle.prints.specs.Words.{refusal_text, bad_number, ending, most_calls, run_print}
use Rattle.prints.proofs.AnswerWords.{texts_are}
use Rattle.prints.proofs.Made.{front, rows_are}

-- The bad line's number, and what is printed behind the refusals.
module _ (calls end bytes : ℕ) where
  pub bad_behind_lem : end < bytes → calls + 2 ≡ bad_number calls end bytes
  unfolding bad_number
  bad_behind_lem h = rw (lt-ltb end bytes h)

  pub none_behind : bytes ≤ end → 0 ≡ bad_number calls end bytes
  unfolding bad_number
  none_behind h = rw (le-ltb end bytes h)

module _ (n v : ℕ) (rows : List ℕ) (bad : ℕ) {old new : Sink} where
  pub ending_log : bad ≡ 0 → Adds (log_print n v rows) old new → Adds (ending n v rows bad) old new
  unfolding ending
  ending_log z a = rw (eq-eqb bad 0 z) a

  pub ending_bad : bad ≢ 0 → Adds (bad_line bad) old new → Adds (ending n v rows bad) old new
  unfolding ending
  ending_bad z a = rw (ne_eqb bad 0 z) a

-- The answer of set_up.
refusal_some : (r : Refusal) → 1 ≤ refusal_number r
refusal_some Readers = omega arith
refusal_some Cells = omega arith
refusal_some Rows = omega arith
refusal_some Range = omega arith
refusal_some Processor = omega arith
refusal_some Busy = omega arith
refusal_some Full = omega arith
refusal_some Idle = omega arith
refusal_some Retired = omega arith
refusal_some Spent = omega arith

is_moved : Answer → ℕ
is_moved (Ok Accepted) = 0
is_moved (Ok (Moved k)) = 1
is_moved (Err r) = 0

-- the places of the answers
abbrev answer_places : List ℕ
answer_places = replicate most_calls 0

module _ (n v : ℕ) where
  abbrev set_up : Outcome
  set_up = set_up_of ticket_rules n v 0 lent_cells lent_rows

  abbrev no_step : Outcome → Type 0
  no_step o = is_moved o.answer ≡ 0

  never_moved : no_step set_up
  unfolding set_up_of is_moved
  never_moved =
      pick_ind no_step (leb 1 n && leb n 16) _ _
      (λ _. pick_ind no_step (leb (n * n + n) (length lent_cells)) _ _ (λ _. refl) (λ _. refl)) (λ _. refl)

  pub not_moved : (k : ℕ) → set_up.answer ≡ Ok (Moved k) → ⊥
  unfolding is_moved
  not_moved k e = omega (arith, never_moved, ap is_moved e)

  module _ (words : List ℕ) (bad : ℕ) {old new : Sink} where
    pub run_refused : (r : Refusal) (k : ℕ) → set_up.answer ≡ Err r → k ≡ refusal_number r → Adds (refused_line k) old new
        → Adds (run_print n v words bad) old new
    unfolding run_print
    run_refused r k s i a =
        let z : number_of set_up.answer ≡ k = ap number_of s ∙ sym i in
        rw (ne_eqb (number_of set_up.answer) 0 (λ y. omega (arith, refusal_some r)), z) a

  -- The run's calls.
  module _ (words : List ℕ) (m : MadeCalls) (s : set_up.answer ≡ Ok Accepted) (i : m ≡ run_words_of ticket_rules n v 0 words lent_cells lent_rows answer_places) where
    pub run_made : (bad : ℕ) {old mid new : Sink} → Adds (flat_map refusal_text (take m.made m.places)) old mid
        → Adds (ending n v (take m.state.head.used m.log) bad) mid new
        → Adds (run_print n v words bad) old new
    unfolding run_print
    run_made bad a b =
        rw (eq-eqb (number_of set_up.answer) 0 (ap number_of s))
        (then_adds
        (rw (front n v lent_cells lent_rows words answer_places m s i, texts_are (calls_in words answer_places) set_up.state set_up.table set_up.log) at a)
        (rw (rows_are n v lent_cells lent_rows words answer_places m s i) at b))
