use mathlib.Core.Path.{refl}
use Rattle.judging.proofs.Said.{none_no, says_refused, says_yes}
use Rattle.judge.proofs.rows.judge.Goals as goal
use Rattle.judge.specs.Frame.{KeepsLittle, SettlesFirst}
use Rattle.judge.proofs.rows.judge.Code.{function}

keeps_little : KeepsLittle function
keeps_little = record { small = tt; inside = tt }

settles_first : SettlesFirst function
settles_first = record { in_turn = refl }

pub write_order-requires : goal.write_order-requires
write_order-requires c = none_no _ _ c.settle.ensures c.in-Ok.is

pub returns-in-Ok : goal.returns-in-Ok
returns-in-Ok c =
    let a = c.args in
    says_yes a.rows.now a.order.now (none_no _ _ c.settle.ensures c.in-Ok.is) _ _ c.write_order.ensures

pub returns-in-Err : goal.returns-in-Err
returns-in-Err c = says_refused c.args.rows.now c.args.order.now c.in-Err.fault c.in-Err.ensures
