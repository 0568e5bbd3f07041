-- What the calls of a run leave, in any table and log, and any places for the answers.
use Rattle.std.specs.Prelude.{Ok}
use Prim.Native.Nat.{ℕ, ◌≤◌}
use native.Mathlib.Omega.{arith}
use mathlib.Core.Path.{◌≡◌, sym, ap, ◌∙◌}
use mathlib.Core.List.{List, map}
use lib.ListN.{length, take, drop, length-take, length-map}
use lib.Seq.{take_at}
use borrow.Author.Tests.{eq-eqb}
use Rattle.common.specs.declared.Done.TheVariants.{Accepted}
use Rattle.common.specs.CallWords.{answer_word, calls_in}
use Rattle.common.specs.declared.calls.Call.{Call}
use Rattle.common.specs.SetUp.{Outcome, set_up_of}
use Rattle.common.specs.Register.{Ran, run_of}
use Rattle.protocol.specs.Rules.{ticket_rules}
use Rattle.protocol.specs.Reference.{book}
use Rattle.protocol.specs.Whole.{Whole}
use Rattle.lists.specs.Run.{MadeCalls, made_of, run_words_of, WholeRun}
use Rattle.printing.proofs.Answers.{answer_each}

module _ (n v : ℕ) (t l words places : List ℕ) (m : MadeCalls) where
  abbrev set_up : Outcome
  set_up = set_up_of ticket_rules n v 0 t l

  module _ (s : set_up.answer ≡ Ok Accepted) (i : m ≡ run_words_of ticket_rules n v 0 words t l places) where
    abbrev calls : List Call
    calls = calls_in words places

    abbrev ran : Ran
    ran = run_of ticket_rules set_up.state set_up.table set_up.log calls

    made_is : m ≡ made_of ticket_rules set_up.state set_up.table set_up.log words places
    unfolding run_words_of
    made_is = rw (eq-eqb (answer_word set_up.answer) 0 (ap answer_word s)) at i

    pub count_is : m.made ≡ length calls
    unfolding made_of
    count_is = ap (λ (y : MadeCalls). y.made) made_is

    each_answered : length (map answer_word ran.answers) ≡ length calls
    each_answered = length-map ran.answers answer_word ∙ answer_each calls set_up.state set_up.table set_up.log

    pub front : take m.made m.places ≡ map answer_word ran.answers
    unfolding made_of
    front =
        ap (λ (y : MadeCalls). take y.made y.places) made_is
        ∙ take_at (map answer_word ran.answers) (drop (length calls) places) (length calls) each_answered

    pub rows_are : take m.state.head.used m.log ≡ take ran.state.head.used ran.log
    unfolding made_of
    rows_are = ap (λ (y : MadeCalls). take y.state.head.used y.log) made_is

    -- the answers are within their places
    pub answers_fit : (m.made ≤ length m.places) × (m.made ≡ length (take m.made m.places))
    answers_fit =
        let e : m.made ≡ length (take m.made m.places) = count_is ∙ sym (ap length front ∙ each_answered) in
        (omega (arith, length-take m.made m.places), e)

-- the used rows are within the log
pub used_fits : (n v : ℕ) (t l words places : List ℕ) (m : MadeCalls) → WholeRun ticket_rules book (Whole n v t l) n v 0 t l words places m
    → (m.state.head.used ≤ length m.log) × (m.state.head.used ≡ length (take m.state.head.used m.log))
used_fits n v t l words places m w =
    let e : m.state.head.used ≡ length (take m.state.head.used m.log) = w.used_is ∙ sym (ap length w.rows_are) in
    (omega (arith, length-take m.state.head.used m.log), e)
