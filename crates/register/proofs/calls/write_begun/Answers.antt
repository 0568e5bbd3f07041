use mathlib.Core.Path.{sym, ◌∙◌}
use Rattle.common.proofs.Range.{test_range}
use Rattle.register.proofs.CallLaws.{few_rows, few_open, begin_row, write_range, write_busy, write_full, write_spent, write_begins}
use Rattle.register.proofs.calls.write_begun.Goals as goal

pub returns-then-not-state_ok : goal.returns-then-not-state_ok
returns-then-not-state_ok g c =
    let a = c.args in
    write_range _ a.state.now a.table.now a.log.now a.value (sym c.state_ok.ensures ∙ c.if-not-state_ok.true)

pub returns-then-state : goal.returns-then-state
returns-then-state g c =
    let a = c.args in
    write_busy _ a.state.now a.table.now a.log.now a.value (sym c.state_ok.ensures ∙ c.if-not-state_ok.false) c.if-state.true

pub returns-then-not-has_room : goal.returns-then-not-has_room
returns-then-not-has_room g c =
    let a = c.args in
    let e = sym c.state_ok.ensures ∙ c.if-not-state_ok.false in
    write_full _ a.state.now a.table.now a.log.now a.value e c.if-state.false (sym c.has_room.ensures ∙ c.if-not-has_room.true)

pub returns-then-not-may_write : goal.returns-then-not-may_write
returns-then-not-may_write g c =
    let a = c.args in
    let e = sym c.state_ok.ensures ∙ c.if-not-state_ok.false in
    let h = sym c.has_room.ensures ∙ c.if-not-has_room.false in
    write_spent _ a.state.now a.table.now a.log.now a.value e c.if-state.false h (sym c.may_write.ensures ∙ c.if-not-may_write.true)

pub add_row-requires : goal.add_row-requires
add_row-requires g c =
    let s = c.args.state.now in
    begin_row _ s _ _ (test_range _ s _ _ (sym c.state_ok.ensures ∙ c.if-not-state_ok.false)) (sym c.has_room.ensures ∙ c.if-not-has_room.false)

pub began-state-requires : goal.began-state-requires
began-state-requires g c =
    let s = c.args.state.now in
    let k = test_range _ s _ _ (sym c.state_ok.ensures ∙ c.if-not-state_ok.false) in
    (few_rows _ s _ _ k, few_open _ s _ _ k)

pub returns : goal.returns
returns g c =
    let a = c.args in
    let e = sym c.state_ok.ensures ∙ c.if-not-state_ok.false in
    let h = sym c.has_room.ensures ∙ c.if-not-has_room.false in
    rw (c.add_row.ensures, c.began-state.ensures, c.open_writer-state.ensures)
    (write_begins _ a.state.now a.table.now a.log.now a.value e c.if-state.false h (sym c.may_write.ensures ∙ c.if-not-may_write.false))
