use mathlib.Core.Path.{◌∙◌}
use native.Mathlib.Omega.{arith}
use Rattle.register.proofs.CallLaws.{in_passed, passed_high, passed_free, passed_16, step_asked, step_refused, step_writes, step_no_write, step_reads, step_no_read}
use Rattle.register.proofs.calls.stepped.Goals as goal

pub returns-in_err-ask : goal.returns-in_err-ask
returns-in_err-ask g c =
    let a = c.args in
    step_refused _ a.state.now a.table.now a.log.now a.p _ _ c.from_residual.ensures.1 c.in_err-ask.ensures

pub returns-then-not-state : goal.returns-then-not-state
returns-then-not-state g c =
    let a = c.args in
    step_no_write _ a.state.now a.table.now a.log.now a.p c.if-p-eq0.true c.if-not-state.true ∙ step_asked _ a.state.now a.table.now a.log.now a.p c.in_ok-ask.ensures

pub step_writer-requires : goal.step_writer-requires
step_writer-requires g c = (in_passed _ c.args.state.now _ _ 0 c.args.p c.in_ok-ask.ensures, c.if-not-state.false)

pub returns-then-p-eq0 : goal.returns-then-p-eq0
returns-then-p-eq0 g c =
    let a = c.args in
    c.step_writer.ensures
    ∙ step_writes _ a.state.now a.table.now a.log.now a.p c.if-p-eq0.true c.if-not-state.false
    ∙ step_asked _ a.state.now a.table.now a.log.now a.p c.in_ok-ask.ensures

pub bounds-state-p : goal.bounds-state-p
bounds-state-p g c = omega (arith, c.if-p-eq0.false, passed_16 _ c.args.state.now _ _ 0 c.args.p c.in_ok-ask.ensures)

pub returns-then-not-state-p : goal.returns-then-not-state-p
returns-then-not-state-p g c =
    let a = c.args in
    step_no_read _ a.state.now a.table.now a.log.now a.p c.if-p-eq0.false c.if-not-state-p.true ∙ step_asked _ a.state.now a.table.now a.log.now a.p c.in_ok-ask.ensures

pub step_reader-requires : goal.step_reader-requires
step_reader-requires g c =
    let s = c.args.state.now in
    let p = c.args.p in
    let e = c.in_ok-ask.ensures in
    (in_passed _ s _ _ 0 p e, omega (arith, c.if-p-eq0.false), passed_high _ s _ _ 0 p e, passed_free _ s _ _ 0 p e, c.if-not-state-p.false)

pub returns : goal.returns
returns g c =
    let a = c.args in
    c.step_reader.ensures
    ∙ step_reads _ a.state.now a.table.now a.log.now a.p c.if-p-eq0.false c.if-not-state-p.false
    ∙ step_asked _ a.state.now a.table.now a.log.now a.p c.in_ok-ask.ensures
