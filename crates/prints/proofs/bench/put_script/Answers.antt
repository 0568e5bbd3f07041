use Rattle.prints.proofs.Input.{calls_few, calls_within, script_put}
use Rattle.prints.proofs.bench.put_script.Goals as goal

pub bad_number-bad-requires : goal.bad_number-bad-requires
bad_number-bad-requires c = calls_few _ _ _ _ _ c.read_calls-script.ensures

pub slice_bounds-words-end : goal.slice_bounds-words-end
slice_bounds-words-end c = let r = c.read_calls-script.ensures in (calls_within _ _ _ _ _ r).0

pub slice_bounds-put_run-end : goal.slice_bounds-put_run-end
slice_bounds-put_run-end c = let r = c.read_calls-script.ensures in (calls_within _ _ _ _ _ r).1

pub returns : goal.returns
returns c = script_put _ _ _ _ _ c.read_calls-script.ensures _ _ _ c.bad_number-bad.ensures c.put_run.ensures
