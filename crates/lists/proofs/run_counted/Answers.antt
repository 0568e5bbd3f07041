use Rattle.counted.specs.Rules.{counted_rules}
use Rattle.counted.specs.Reference.{book}
use Rattle.counted.proofs.Whole.{whole}
use Rattle.lists.proofs.Laws.{whole_run}
use native.Mathlib.Omega.{arith}
use mathlib.Core.Path.{sym, ap, ◌∙◌}
use mathlib.Core.List.{List}
use Rattle.common.specs.Answers.{reply}
use Rattle.common.specs.Calls.{LowCalls}
use Rattle.common.specs.declared.calls.Call.{Call}
use Rattle.counted.specs.Whole.{Whole}
use Rattle.lists.proofs.run_counted.Goals as goal

pub returns : goal.returns
returns c =
    let a = c.args in
    let r = c.run_of.ensures in (
      r.0,
      r.1,
      λ h.
          let w : (cs : List Call) → LowCalls cs → Whole a.n a.value a.fresh a.table.now a.log.now cs = λ cs lows. whole a.n a.value a.fresh a.table.now a.log.now cs (omega (arith, c.ranges.fresh.fits)) (sym r.0 ∙ h) (omega (arith, c.ranges.value.fits)) lows in
          whole_run counted_rules a.n a.value a.fresh a.table.now a.log.now a.words.now a.answers.now book _ (λ cs lows. (w cs lows).as_book) w _ r.1 (sym r.0 ∙ h),
      ap reply r.0,
    )
