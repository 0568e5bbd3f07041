use native.Mathlib.Omega.{arith}
use mathlib.Core.Path.{◌≡◌, sym, ◌∙◌}
use Rattle.std.proofs.Common.{◌≢◌, length, rules}
use Rattle.fields.specs.Fields.{none, number_in}
use Rattle.fields.proofs.FieldLaws.{number_is, digits_end, digits_go, digits_stop}
use Rattle.fields.proofs.number_in.Goals as goal

pub returns-in_err-v : goal.returns-in_err-v
returns-in_err-v c =
    let no : number_in c.args.text.now ≡ none = digits_stop _ _ c.loop-b.b-index (omega arith) c.loop-b.invariant.rest c.in_err-v.ensures in
    search rules

pub loop-b-preserved : goal.loop-b-preserved
loop-b-preserved c = record { rest = digits_go _ _ _ (omega arith) c.loop-b.invariant.rest _ c.in_ok-v.ensures; low = omega arith }

pub returns : goal.returns
returns c =
    let some : length c.args.text.now ≢ 0 = λ z. search rules in
    (sym (digits_end c.loop-b.v c.args.text.now c.loop-b.b-index (omega arith)) ∙ c.loop-b.invariant.rest ∙ number_is _ some, c.loop-b.invariant.low)
