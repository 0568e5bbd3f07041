use native.Mathlib.Omega.{arith}
use Rattle.lags.proofs.Filling.{fills_start, begun_small, is_in_range, reads_room, raised_inside, floor_rank, rank_begun, lags_room, fills_next, lines_are}
use Rattle.sheets.proofs.fill.lines.Goals as goal
use Rattle.sheets.specs.Frame.{KeepsLittle}
use Rattle.sheets.proofs.fill.lines.Code.{function}

keeps_little : KeepsLittle function
keeps_little = record { small = tt; inside = tt }

pub loop-k-init : goal.loop-k-init
loop-k-init c =
    let F = fills_start _ c.requires in
    (c.new-sweep.ensures.swept _ F.formed, F)

pub bounds-ranks-p : goal.bounds-ranks-p
bounds-ranks-p c = is_in_range c.loop-k.invariant.1 (omega arith) c.processor-p.ensures

pub bounds-ranks-p-in-loop-k : goal.bounds-ranks-p-in-loop-k
bounds-ranks-p-in-loop-k c = is_in_range c.loop-k.invariant.1 (omega arith) c.processor-p.ensures

pub bounds-ranks-p-in-loop-k-2 : goal.bounds-ranks-p-in-loop-k-2
bounds-ranks-p-in-loop-k-2 c = is_in_range c.loop-k.invariant.1 (omega arith) c.processor-p.ensures

pub bounds-lines-p : goal.bounds-lines-p
bounds-lines-p c = is_in_range c.loop-k.invariant.1 (omega arith) c.processor-p.ensures

pub bounds-lines-p-in-loop-k : goal.bounds-lines-p-in-loop-k
bounds-lines-p-in-loop-k c = is_in_range c.loop-k.invariant.1 (omega arith) c.processor-p.ensures

pub rank_from-rank-requires : goal.rank_from-rank-requires
rank_from-rank-requires c =
    let F = c.loop-k.invariant.1 in
    let f = c.pass-found.ensures.found F.formed (omega arith) c.loop-k.invariant.0 in
    (raised_inside F (omega arith) c.processor-p.ensures f.floor f.place, floor_rank F (omega arith) c.processor-p.ensures f.floor f.place)

pub overflow_add-lines : goal.overflow_add-lines
overflow_add-lines c =
    omega (arith, reads_room c.loop-k.invariant.1 (omega arith) c.processor-p.ensures c.one_read.ensures)

pub lag_of-requires : goal.lag_of-requires
lag_of-requires c =
    let F = c.loop-k.invariant.1 in
    let f = c.pass-found.ensures.found F.formed (omega arith) c.loop-k.invariant.0 in
    rank_begun F (omega arith) c.processor-p.ensures f.floor f.place c.rank_from-rank.ensures

pub overflow_add-lines-in-loop-k : goal.overflow_add-lines-in-loop-k
overflow_add-lines-in-loop-k c =
    let F = c.loop-k.invariant.1 in
    let f = c.pass-found.ensures.found F.formed (omega arith) c.loop-k.invariant.0 in
    omega (
      arith,
      lags_room F (omega arith) c.processor-p.ensures f.floor f.place c.rank_from-rank.ensures c.one_read.ensures c.lag_of.ensures,
    )

pub with_write-begun-requires : goal.with_write-begun-requires
with_write-begun-requires c = begun_small c.loop-k.invariant.1

pub loop-k-preserved : goal.loop-k-preserved
loop-k-preserved c =
    let S = c.loop-k.invariant.0 in
    let F = c.loop-k.invariant.1 in
    let f = c.pass-found.ensures.found F.formed (omega arith) S in (
      c.pass-found.ensures.next F.formed (omega arith) S,
      fills_next F (omega arith) c.processor-p.ensures f.floor f.place c.rank_from-rank.ensures c.one_read.ensures c.lag_of.ensures
          c.floor_after.ensures c.larger-top_rank.ensures c.with_write-begun.ensures,
    )

pub returns : goal.returns
returns c =
    let F = c.loop-k.invariant.1 in
    lines_are _ _ (omega (arith, F.upto)) F.reads F.lags
