use Rattle.std.proofs.Common.{◌≡◌, ℕ, ◌+◌, ◌<◌, List, length, get_or, arith, ap, ◌∙◌}
use Rattle.lines.proofs.Rows.{no_rows, next_row}
use Rattle.walker.specs.declared.Walker.{Walker}
use Rattle.walker.specs.declared.Step.{Step}
use Rattle.walker.specs.Walk.{step_at}
use Rattle.walker.proofs.Laws.{step_inside}
use Rattle.walker.proofs.list_rows.Goals as goal

-- what an advance of a walker over this log gives, at row k
row_found : (w : Walker) (log : List ℕ) (k : ℕ) (s : Step) → w.next ≡ k → w.log.now ≡ log → k < length log → s ≡ step_at w.log.now w.next
    → s ≡ record { row = get_or log k 0; next = k + 1 }
row_found w log k s at same inside is = is ∙ ap (λ (l : List ℕ). step_at l w.next) same ∙ ap (step_at log) at ∙ step_inside log k inside

pub loop-k-init : goal.loop-k-init
loop-k-init c = (c.make-w.ensures.1, ap (λ b. b.now) c.make-w.ensures.0, no_rows _ _)

pub loop-k-preserved : goal.loop-k-preserved
loop-k-preserved c =
    let inside : c.loop-k.k < length c.args.log.now = omega arith in
    let found = row_found c.loop-k.w c.args.log.now c.loop-k.k c.advance-s.result c.loop-k.invariant.0 c.loop-k.invariant.1 inside c.advance-s.ensures.0 in
    let row : c.advance-s.result.row ≡ get_or c.args.log.now c.loop-k.k 0 = ap (λ (s : Step). s.row) found in (
      c.advance-s.ensures.2 ∙ ap (λ (s : Step). s.next) found,
      ap (λ b. b.now) c.advance-s.ensures.1 ∙ c.loop-k.invariant.1,
      next_row c.args.log.now c.loop-k.k (omega arith) inside c.loop-k.invariant.2 (rw row at c.put_row.ensures),
    )
