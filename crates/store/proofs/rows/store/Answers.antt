use native.Mathlib.Omega.{arith}
use Rattle.storing.proofs.Answers.{store_9, store_10, store_bytes, store_rows, store_yes}
use Rattle.store.proofs.Said.{stored, some}
use Rattle.store.proofs.rows.store.Goals as goal
use Rattle.store.proofs.rows.store.Goals.{then-bytes-log-via-then-bytes-log, then-bytes-log-via-else-bytes-log+then-rows-log}

pub returns-then-not-right_length : goal.returns-then-not-right_length
returns-then-not-right_length c = stored (store_9 _ _ _ c.right_length.ensures c.if-not-right_length.true)

pub returns-then-not-well_formed : goal.returns-then-not-well_formed
returns-then-not-well_formed c = stored (store_10 _ _ _ c.right_length.ensures c.if-not-right_length.false c.well_formed-2.ensures c.if-not-well_formed.true)

pub overflow_sub-log : goal.overflow_sub-log
overflow_sub-log c = some c.args.log.now c.right_length.ensures c.if-not-right_length.false

pub returns-then-bytes-log : goal.returns-then-bytes-log
returns-then-bytes-log c =
    elim c.then-bytes-log.branch [
      | then-bytes-log-via-then-bytes-log w ↦
          stored (store_bytes _ _ _ c.right_length.ensures c.if-not-right_length.false c.well_formed-2.ensures c.if-not-well_formed.false (omega arith))
      | then-bytes-log-via-else-bytes-log+then-rows-log w ↦
          stored (store_rows _ _ _ c.right_length.ensures c.if-not-right_length.false c.well_formed-2.ensures c.if-not-well_formed.false (omega arith))
    ]

pub put_bytes-requires : goal.put_bytes-requires
put_bytes-requires c =
    let e = some c.args.log.now c.right_length.ensures c.if-not-right_length.false in
    (e, omega (arith, e, c.if-bytes-log.false))

pub put_rows-requires : goal.put_rows-requires
put_rows-requires c =
    (some c.args.log.now c.right_length.ensures c.if-not-right_length.false, omega (arith, c.if-rows-log.false))

pub returns : goal.returns
returns c = stored
    (store_yes _ _ _ c.right_length.ensures c.if-not-right_length.false c.well_formed-2.ensures c.if-not-well_formed.false
    (omega (arith, c.if-bytes-log.false)) (omega (arith, c.if-rows-log.false)) c.put_bytes.ensures c.put_rows.ensures)
