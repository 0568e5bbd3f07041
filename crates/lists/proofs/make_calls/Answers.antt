use mathlib.Core.Path.{◌≡◌, refl, sym, ap, ◌∙◌}
use native.Mathlib.Omega.{arith}
use Rattle.common.specs.Register.{call_of}
use Rattle.kinds.specs.Rules.{rules_of}
use Rattle.lists.proofs.Laws.{as_rules, kind_after, starts, stops_here, stops_word, calls_next}
use Rattle.lists.proofs.make_calls.Goals as goal

pub loop-i-init : goal.loop-i-init
loop-i-init c = record { goes_on = starts _ _ _ _ _ _; same_kind = refl }

pub loop-i-preserved : goal.loop-i-preserved
loop-i-preserved c =
    let words = c.args.words.now in
    let v = c.loop-i in
    let m = c.make_call-o in
    let call = c.in-Some.ensures in
    record {
      goes_on =
          calls_next _ v.state v.table v.log words v.answers v.i (omega arith) (omega arith) call.0 m.result _ _ _
          (as_rules v.state.head.counted _ v.invariant.same_kind _ v.state v.table v.log _ (m.ensures ∙ ap (call_of (rules_of v.state.head.counted) v.state v.table v.log) call.1)) c.answer_word.ensures
          ∙ v.invariant.goes_on;
      same_kind = kind_after _ v.state v.table v.log _ m.result _ _ m.ensures ∙ v.invariant.same_kind;
    }

pub returns-in_default : goal.returns-in_default
returns-in_default c =
    let v = c.loop-i in
    sym (stops_word _ v.state v.table v.log c.args.words.now v.answers v.i (omega arith) (omega arith) c.in_default.ensures) ∙ v.invariant.goes_on

pub returns : goal.returns
returns c =
    let v = c.loop-i in
    let e : v.i ≡ c.min-places.result = omega arith in
    rw (← e)
    (sym (stops_here _ v.state v.table v.log c.args.words.now v.answers v.i (omega (arith, c.min-places.ensures, v.auto.answers))) ∙ v.invariant.goes_on)
