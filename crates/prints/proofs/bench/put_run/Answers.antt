use Rattle.std.proofs.Common.{rules, ◌≡◌}
use Rattle.std.specs.Prelude.{Ok}
use mathlib.Core.Path.{sym, ◌∙◌}
use Rattle.common.specs.declared.Done.TheVariants.{Accepted, Moved}
use Rattle.prints.proofs.Runs.{not_moved, run_refused, run_made}
use Rattle.prints.proofs.Made.{answers_fit, used_fits}
use Rattle.prints.proofs.bench.put_run.Goals as goal

pub slice_bounds-answers-end : goal.slice_bounds-answers-end
slice_bounds-answers-end c = let r = c.run-ran.ensures in
    let accepted : c.run-ran.result.answer ≡ Ok Accepted = search rules in
    (answers_fit _ _ _ _ _ _ _ (sym r.0 ∙ accepted) r.1).0

pub slice_bounds-put_refusals-end : goal.slice_bounds-put_refusals-end
slice_bounds-put_refusals-end c = let r = c.run-ran.ensures in
    let accepted : c.run-ran.result.answer ≡ Ok Accepted = search rules in
    (answers_fit _ _ _ _ _ _ _ (sym r.0 ∙ accepted) r.1).1

pub slice_bounds-log-end : goal.slice_bounds-log-end
slice_bounds-log-end c = (used_fits _ _ _ _ _ _ _ (c.run-ran.ensures.2 (search rules))).0

pub slice_bounds-put_ending-end : goal.slice_bounds-put_ending-end
slice_bounds-put_ending-end c = (used_fits _ _ _ _ _ _ _ (c.run-ran.ensures.2 (search rules))).1

pub returns-in-Ok-Accepted : goal.returns-in-Ok-Accepted
returns-in-Ok-Accepted c =
    let r = c.run-ran.ensures in
    let accepted : c.run-ran.result.answer ≡ Ok Accepted = search rules in
    run_made _ _ _ _ (sym r.0 ∙ accepted) r.1 _ c.put_refusals.ensures c.put_ending.ensures

pub returns-in-Ok-Moved : goal.returns-in-Ok-Moved
returns-in-Ok-Moved c =
    let moved : c.run-ran.result.answer ≡ Ok (Moved c.in-Ok-Moved.field-0-0) = search rules in
    absurd (not_moved _ _ _ (sym c.run-ran.ensures.0 ∙ moved))

pub returns-in-Err : goal.returns-in-Err
returns-in-Err c =
    run_refused _ _ _ _ _ _ (sym c.run-ran.ensures.0 ∙ c.in-Err.is) c.from.ensures.0 c.put_refused.ensures
