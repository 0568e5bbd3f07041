use Prim.Native.Nat.{ℕ}
use mathlib.Core.Path.{ap, ◌∙◌}
use lib.ListN.{replicate, length-replicate}
use Rattle.logbytes.specs.Bytes.{rows_in}
use Rattle.judging.specs.Answer.{number_of}
use Rattle.judging.proofs.ByteLaws.{rows_number, rows_front, rows_inside, rows_count}
use Rattle.judging.proofs.Meaning.{bytes_says}
use Rattle.judge.proofs.bytes.judge_bytes.Goals as goal

pub slice_bounds-rows-end : goal.slice_bounds-rows-end
slice_bounds-rows-end c = rows_inside c.args.bytes.now (replicate 4096 0) c.rows_in-count.ensures

pub slice_bounds-number-end : goal.slice_bounds-number-end
slice_bounds-number-end c = rows_count c.args.bytes.now (replicate 4096 0) c.rows_in-count.ensures

pub returns : goal.returns
returns c =
    let b = c.args.bytes.now in
    bytes_says b c.number.result
    (c.number.ensures
    ∙ ap number_of (rows_front b (replicate 4096 0) c.rows_in-count.ensures)
    ∙ ap (λ (k : ℕ). number_of (rows_in b k)) (length-replicate {A = ℕ} 4096 0)
    ∙ rows_number b)
