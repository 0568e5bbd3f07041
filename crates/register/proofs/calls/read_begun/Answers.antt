use mathlib.Core.Path.{sym, ◌∙◌}
use native.Mathlib.Omega.{arith}
use Rattle.register.proofs.CallLaws.{in_passed, passed_low, passed_16, few_rows, few_open, begin_row, read_asked, read_refused, read_busy, read_full, read_begins}
use Rattle.register.proofs.calls.read_begun.Goals as goal

pub returns-in_err-ask : goal.returns-in_err-ask
returns-in_err-ask g c =
    let a = c.args in
    read_refused _ a.state.now a.table.now a.log.now a.p _ _ c.from_residual.ensures.1 c.in_err-ask.ensures

pub bounds-state-i : goal.bounds-state-i
bounds-state-i g c =
    let e = c.in_ok-ask.ensures in
    omega (arith, passed_low _ c.args.state.now _ _ 1 c.args.p e, passed_16 _ c.args.state.now _ _ 1 c.args.p e)

pub returns-then-r : goal.returns-then-r
returns-then-r g c =
    let a = c.args in
    read_busy a.state.now a.table.now a.log.now a.p c.if-r.true ∙ read_asked _ a.state.now a.table.now a.log.now a.p c.in_ok-ask.ensures

pub returns-then-not-has_room : goal.returns-then-not-has_room
returns-then-not-has_room g c =
    let a = c.args in
    read_full a.state.now a.table.now a.log.now a.p c.if-r.false (sym c.has_room.ensures ∙ c.if-not-has_room.true)
    ∙ read_asked _ a.state.now a.table.now a.log.now a.p c.in_ok-ask.ensures

pub overflow_cast-p : goal.overflow_cast-p
overflow_cast-p g c = omega (arith, passed_16 _ c.args.state.now _ _ 1 c.args.p c.in_ok-ask.ensures)

pub add_row-requires : goal.add_row-requires
add_row-requires g c =
    let s = c.args.state.now in
    begin_row _ s _ _ (in_passed _ s _ _ 1 c.args.p c.in_ok-ask.ensures) (sym c.has_room.ensures ∙ c.if-not-has_room.false)

pub began-state-requires : goal.began-state-requires
began-state-requires g c =
    let s = c.args.state.now in
    let k = in_passed _ s _ _ 1 c.args.p c.in_ok-ask.ensures in
    (few_rows _ s _ _ k, few_open _ s _ _ k)

pub bounds-state-i-2 : goal.bounds-state-i-2
bounds-state-i-2 g c =
    let e = c.in_ok-ask.ensures in
    omega (arith, passed_low _ c.args.state.now _ _ 1 c.args.p e, passed_16 _ c.args.state.now _ _ 1 c.args.p e)

pub returns : goal.returns
returns g c =
    let a = c.args in
    rw (c.add_row.ensures, c.open_reader.ensures, c.began-state.ensures)
    (read_begins a.state.now a.table.now a.log.now a.p c.if-r.false (sym c.has_room.ensures ∙ c.if-not-has_room.false)
    ∙ read_asked _ a.state.now a.table.now a.log.now a.p c.in_ok-ask.ensures)
