use native.Mathlib.Omega.{arith}
use Rattle.common.proofs.Range.{reader_open}
use Rattle.register.proofs.CallLaws.{in_passed, passed_low, passed_high, passed_free, passed_16, retire_asked, retire_refused}
use Rattle.register.proofs.calls.retired.Goals as goal

pub returns-in_err-ask : goal.returns-in_err-ask
returns-in_err-ask g c =
    let a = c.args in
    retire_refused _ a.state.now a.table.now a.log.now a.p _ _ c.from_residual.ensures.1 c.in_err-ask.ensures

pub bounds-state-i : goal.bounds-state-i
bounds-state-i g c =
    let e = c.in_ok-ask.ensures in
    omega (arith, passed_low _ c.args.state.now _ _ 1 c.args.p e, passed_16 _ c.args.state.now _ _ 1 c.args.p e)

pub overflow_sub-state : goal.overflow_sub-state
overflow_sub-state g c =
    let s = c.args.state.now in
    let p = c.args.p in
    let e = c.in_ok-ask.ensures in
    omega (arith, c.count_one.ensures, reader_open s p (passed_low _ s _ _ 1 p e) (passed_free _ s _ _ 1 p e) (passed_high _ s _ _ 1 p e) _ _ _ (in_passed _ s _ _ 1 p e))

pub bounds-state-i-2 : goal.bounds-state-i-2
bounds-state-i-2 g c =
    let e = c.in_ok-ask.ensures in
    omega (arith, passed_low _ c.args.state.now _ _ 1 c.args.p e, passed_16 _ c.args.state.now _ _ 1 c.args.p e)

pub returns : goal.returns
returns g c =
    let a = c.args in
    rw (c.retire_reader.ensures, c.count_one.ensures)
    (retire_asked _ a.state.now a.table.now a.log.now a.p c.in_ok-ask.ensures)
