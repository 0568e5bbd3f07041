use Prim.Native.Nat.{ℕ, ◌<◌}
use mathlib.Core.Path.{sym, ◌∙◌}
use lib.Dec.{T}
use lib.ListN.{length, get_or}
use Rattle.storing.specs.Strips.{matched}
use Rattle.storing.proofs.Answers.{restore_16, restore_9, restore_10, restore_11, restore_yes}
use Rattle.store.proofs.Said.{restored, asked_of_rows, few}
use Rattle.store.proofs.rows.restore.Goals as goal

pub returns-then-not-matching : goal.returns-then-not-matching
returns-then-not-matching c =
    let f = c.shared_slice_known-1 in
    restored (λ i _. (f.given i).fits) (restore_16 _ _ _ c.matching.ensures c.if-not-matching.true)

pub returns-then-not-right_length : goal.returns-then-not-right_length
returns-then-not-right_length c =
    let f = c.shared_slice_known-1 in
    restored (λ i _. (f.given i).fits) (restore_9 _ _ _ c.matching.ensures c.if-not-matching.false c.right_length.ensures c.if-not-right_length.true)

pub returns-then-not-well_formed : goal.returns-then-not-well_formed
returns-then-not-well_formed c =
    let a = c.args in
    let b = a.bytes.now in
    let r = a.rows.now in
    let s : (i : ℕ) → i < length b → get_or b i 0 < 256 = λ i _. (c.shared_slice_known-1.given i).fits in
    let t : T (matched b r) = rw (sym c.matching.ensures ∙ c.if-not-matching.false) tt in
    let w = asked_of_rows b r s t c.well_formed-2.ensures in
    restored s
    (restore_10 b r _ c.matching.ensures c.if-not-matching.false c.right_length.ensures c.if-not-right_length.false w c.if-not-well_formed.true)

pub returns-then-log-rows : goal.returns-then-log-rows
returns-then-log-rows c =
    let a = c.args in
    let b = a.bytes.now in
    let r = a.rows.now in
    let s : (i : ℕ) → i < length b → get_or b i 0 < 256 = λ i _. (c.shared_slice_known-1.given i).fits in
    let t : T (matched b r) = rw (sym c.matching.ensures ∙ c.if-not-matching.false) tt in
    let w = asked_of_rows b r s t c.well_formed-2.ensures in
    restored s
    (restore_11 b r _ c.matching.ensures c.if-not-matching.false c.right_length.ensures c.if-not-right_length.false w c.if-not-well_formed.false c.if-log-rows.true)

pub put_log-requires : goal.put_log-requires
put_log-requires c =
    let r = c.args.rows.now in
    (rw (sym c.matching.ensures ∙ c.if-not-matching.false) tt, few r c.right_length.ensures c.if-not-right_length.false, c.if-log-rows.false)

pub returns : goal.returns
returns c =
    let a = c.args in
    let b = a.bytes.now in
    let r = a.rows.now in
    let s : (i : ℕ) → i < length b → get_or b i 0 < 256 = λ i _. (c.shared_slice_known-1.given i).fits in
    let t : T (matched b r) = rw (sym c.matching.ensures ∙ c.if-not-matching.false) tt in
    let w = asked_of_rows b r s t c.well_formed-2.ensures in
    restored s
    (restore_yes b r _ c.matching.ensures c.if-not-matching.false c.right_length.ensures c.if-not-right_length.false w
    c.if-not-well_formed.false c.if-log-rows.false c.put_log.ensures)
