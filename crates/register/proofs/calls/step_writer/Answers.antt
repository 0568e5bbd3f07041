use mathlib.Core.Path.{◌∙◌}
use Rattle.steps.proofs.Laws.{write_steps_lem}
use Rattle.register.proofs.CallLaws.{table_in, few_rows, write_row, write_counts, write_goes, write_ends}
use Rattle.register.proofs.calls.step_writer.Goals as goal

pub returns-then-next : goal.returns-then-next
returns-then-next g c =
    let a = c.args in
    let p = c.requires in
    let e = c.write_step-next.ensures ∙ write_steps_lem _ _ a.state.now.writer a.table.now (table_in _ a.state.now _ _ p.0) p.0.writer_passes p.1 in
    write_goes _ a.state.now a.table.now a.log.now c.write_step-next.result _ e c.if-next.true

pub add_row-requires : goal.add_row-requires
add_row-requires g c = let p = c.requires in write_row _ c.args.state.now _ _ p.0 p.1

pub ended-state-requires : goal.ended-state-requires
ended-state-requires g c = let p = c.requires in (few_rows _ c.args.state.now _ _ p.0, write_counts _ c.args.state.now _ _ p.0 p.1)

pub returns : goal.returns
returns g c =
    let a = c.args in
    let p = c.requires in
    let e = c.write_step-next.ensures ∙ write_steps_lem _ _ a.state.now.writer a.table.now (table_in _ a.state.now _ _ p.0) p.0.writer_passes p.1 in
    rw (c.add_row.ensures, c.ended-state.ensures)
    (write_ends _ a.state.now a.table.now a.log.now c.write_step-next.result _ e c.if-next.false)
