-- The answers' words: their upper halves are the refusal numbers.
use Rattle.std.specs.Prelude.{Ok, Err}
use Prim.Native.Nat.{ℕ}
use native.Mathlib.Omega.{arith}
use mathlib.Core.Path.{◌≡◌, refl, ap}
use mathlib.Core.List.{List, [], ◌∷◌, map, flat_map}
use lib.Dec.{eqb}
use Rattle.words.specs.Choice.{pick}
use Rattle.common.specs.declared.State.{State}
use Rattle.common.specs.declared.Done.TheVariants.{Accepted, Moved}
use Rattle.common.specs.Answers.{Answer, number_of}
use Rattle.common.specs.CallWords.{answer_word}
use Rattle.common.specs.declared.calls.Call.{Call}
use Rattle.common.specs.Register.{call_of, run_of}
use Rattle.protocol.specs.Rules.{ticket_rules}
use Rattle.lines.specs.Lines.{refused_line}
use Rattle.printing.specs.Print.{refusal_of}
use Rattle.printing.proofs.Answers.{Low, plain_call}
use Rattle.prints.specs.Words.{refusal_in, refusal_text}

pub number_is : (a : Answer) → Low a → refusal_in (answer_word a) ≡ number_of a
number_is (Ok Accepted) h = refl
number_is (Ok (Moved k)) h = omega arith
number_is (Err r) h = omega arith

text_is : (a : Answer) → Low a → refusal_text (answer_word a) ≡ refusal_of a
unfolding refusal_text refusal_of
text_is a h = ap (λ (k : ℕ). pick (eqb k 0) [] (refused_line k)) (number_is a h)

pub texts_are : (cs : List Call) (s : State) (t l : List ℕ)
    → flat_map refusal_text (map answer_word (run_of ticket_rules s t l cs).answers) ≡ flat_map refusal_of (run_of ticket_rules s t l cs).answers
unfolding run_of flat_map
texts_are [] s t l = refl
texts_are (c ∷ cs) s t l =
    let o = call_of ticket_rules s t l c in
    rw (text_is o.answer (plain_call s t l c).0, texts_are cs o.state o.table o.log)
