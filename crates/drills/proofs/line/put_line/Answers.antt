use mathlib.Core.Path.{◌∙◌}
use native.Mathlib.Omega.{arith}
use Rattle.prints.proofs.Made.{used_fits}
use Rattle.printing.proofs.DrillBook.{accepted}
use Rattle.drills.proofs.Runs.{words_within, line_is}
use Rattle.drills.proofs.line.put_line.Goals as goal

pub slice_bounds-words-end : goal.slice_bounds-words-end
slice_bounds-words-end c = (words_within _ _ _ c.requires.1 _ c.put_turns.ensures).0

pub slice_bounds-run-end : goal.slice_bounds-run-end
slice_bounds-run-end c = (words_within _ _ _ c.requires.1 _ c.put_turns.ensures).1

pub slice_bounds-put_letters-end : goal.slice_bounds-put_letters-end
slice_bounds-put_letters-end c = (words_within _ _ _ c.requires.1 _ c.put_turns.ensures).0

pub slice_bounds-log-end : goal.slice_bounds-log-end
slice_bounds-log-end c =
    let r = c.run-ran.ensures in
    (used_fits _ _ _ _ _ _ _ (r.2 (r.0 ∙ accepted _ _ c.requires.0))).0

pub slice_bounds-put_verdict-end : goal.slice_bounds-put_verdict-end
slice_bounds-put_verdict-end c =
    let r = c.run-ran.ensures in
    (used_fits _ _ _ _ _ _ _ (r.2 (r.0 ∙ accepted _ _ c.requires.0))).1

pub returns : goal.returns
returns c =
    let r = c.run-ran.ensures in
    line_is _ _ _ _ _ c.requires.0 (omega (arith, c.ranges.v)) c.requires.1 _ _ c.put_turns.ensures r.1 c.put_letters.ensures c.put.ensures c.put_verdict.ensures
