use Prim.Native.Nat.{◌-◌}
use mathlib.Core.Path.{◌∙◌}
use native.Mathlib.Omega.{arith}
use Rattle.common.specs.State.{reader_at}
use Rattle.common.proofs.Range.{reader_ok_lem}
use Rattle.steps.proofs.Laws.{read_steps_lem}
use Rattle.register.proofs.CallLaws.{table_in, few_rows, read_row, read_counts, read_goes, read_ends}
use Rattle.register.proofs.calls.step_reader.Goals as goal

pub overflow_add-done : goal.overflow_add-done
overflow_add-done g c =
    let a = c.args in
    let p = c.requires in
    omega (arith, g.met.P.Steps.read_low a.state.now.head.n a.p (reader_at a.state.now (a.p - 1)) p.0.head_good.n_high p.1 p.2 p.4 (reader_ok_lem a.state.now a.p p.1 p.3 p.2 _ _ _ p.0))

pub returns-then-next : goal.returns-then-next
returns-then-next g c =
    let a = c.args in
    let p = c.requires in
    let e = c.read_step-next.ensures ∙ read_steps_lem _ _ a.p (reader_at a.state.now (a.p - 1)) a.table.now (table_in _ a.state.now _ _ p.0) p.1 p.2 (reader_ok_lem a.state.now a.p p.1 p.3 p.2 _ _ _ p.0) p.4 in
    read_goes _ a.state.now a.table.now a.log.now a.p c.read_step-next.result _ e c.if-next.true

pub add_row-requires : goal.add_row-requires
add_row-requires g c =
    let a = c.args in
    let p = c.requires in
    read_row _ a.state.now _ _ p.0 a.p p.1 p.2 p.3 p.4

pub ended-state-requires : goal.ended-state-requires
ended-state-requires g c =
    let a = c.args in
    let p = c.requires in
    (few_rows _ a.state.now _ _ p.0, read_counts _ a.state.now _ _ p.0 a.p p.1 p.2 p.3 p.4)

pub returns : goal.returns
returns g c =
    let a = c.args in
    let p = c.requires in
    let e = c.read_step-next.ensures ∙ read_steps_lem _ _ a.p (reader_at a.state.now (a.p - 1)) a.table.now (table_in _ a.state.now _ _ p.0) p.1 p.2 (reader_ok_lem a.state.now a.p p.1 p.3 p.2 _ _ _ p.0) p.4 in
    rw (c.add_row.ensures, c.value_in.ensures, c.ended-state.ensures)
    (read_ends _ a.state.now a.table.now a.log.now a.p c.read_step-next.result _ e c.if-next.false)
