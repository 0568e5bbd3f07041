use native.Mathlib.Omega.{arith}
use mathlib.Core.Path.{sym, ◌∙◌}
use Rattle.judging.proofs.Steps.{formed_none, formed_head}
use Rattle.judging.proofs.Checks.{checked_start, checked_all, wrong_fields, checked_in, wrong_turn, checked_next}
use Rattle.judge.proofs.formed.well_formed.Goals.{then-rows-lt1-via-then-rows-lt1, then-rows-lt1-via-else-rows-lt1+then-not-head_ok}
use Rattle.judge.proofs.formed.well_formed.Goals as goal
use Rattle.judge.specs.Frame.{KeepsLittle}
use Rattle.judge.proofs.formed.well_formed.Code.{function}

keeps_little : KeepsLittle function
keeps_little = record { small = tt; inside = tt }

pub returns-then-rows-lt1 : goal.returns-then-rows-lt1
returns-then-rows-lt1 c =
    elim c.then-rows-lt1.branch [
      | then-rows-lt1-via-then-rows-lt1 w ↦ formed_none _ (omega arith)
      | then-rows-lt1-via-else-rows-lt1+then-not-head_ok w ↦ formed_head _ (sym w.head_ok.ensures ∙ w.if-not-head_ok.true)
    ]

pub loop-k-init : goal.loop-k-init
loop-k-init c = checked_start _ (omega arith) (sym c.head_ok.ensures ∙ c.if-not-head_ok.false)

pub returns-then-not-fields_ok : goal.returns-then-not-fields_ok
returns-then-not-fields_ok c =
    let l = c.loop-k in
    wrong_fields _ _ l.k _ l.invariant (omega arith) (sym c.fields_ok.ensures ∙ c.if-not-fields_ok.true)

pub bounds-begins-p : goal.bounds-begins-p
bounds-begins-p c =
    let l = c.loop-k in
    checked_in _ _ l.k _ l.invariant (omega arith) (sym c.fields_ok.ensures ∙ c.if-not-fields_ok.false) c.processor-p.ensures

pub returns-then-not-may_follow : goal.returns-then-not-may_follow
returns-then-not-may_follow c =
    let l = c.loop-k in
    wrong_turn _ _ l.k _ l.invariant (omega arith) (sym c.fields_ok.ensures ∙ c.if-not-fields_ok.false) c.processor-p.ensures
    (sym c.may_follow.ensures ∙ c.if-not-may_follow.true)

pub bounds-begins-p-in-loop-k : goal.bounds-begins-p-in-loop-k
bounds-begins-p-in-loop-k c =
    let l = c.loop-k in
    checked_in _ _ l.k _ l.invariant (omega arith) (sym c.fields_ok.ensures ∙ c.if-not-fields_ok.false) c.processor-p.ensures

pub loop-k-preserved : goal.loop-k-preserved
loop-k-preserved c =
    let l = c.loop-k in
    checked_next _ _ l.k _ l.invariant (omega arith) (sym c.fields_ok.ensures ∙ c.if-not-fields_ok.false) c.processor-p.ensures
    (sym c.may_follow.ensures ∙ c.if-not-may_follow.false) c.open_after.ensures

pub returns : goal.returns
returns c = let l = c.loop-k in checked_all _ _ l.k _ l.invariant (omega arith)
