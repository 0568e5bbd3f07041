use native.Mathlib.Omega.{arith}
use Prim.Native.Nat.{ℕ, ◌<◌}
use lib.ListN.{length, get_or}
use Rattle.store.proofs.Agreed.{wrong_number, agreed_start, agreed_less, agreed_room, agreed_all, agreed_not, agreed_next, all_of_is}
use Rattle.store.proofs.matching.matching.Goals as goal

pub returns-then-rows-bytes : goal.returns-then-rows-bytes
returns-then-rows-bytes c = wrong_number _ _ c.if-rows-bytes.true

pub loop-at-init : goal.loop-at-init
loop-at-init c = agreed_start _ _ (omega arith)

pub all_of-requires : goal.all_of-requires
all_of-requires c =
    let b = c.args.bytes.now in
    let k : (i : ℕ) → i < length b → get_or b i 0 < 256 = λ i _. (c.shared_slice_known-1.given i).fits in
    let l = c.loop-at in
    omega (arith, c.count-c.ensures, agreed_room b _ k _ _ l.invariant)

pub returns-then-not-all_of : goal.returns-then-not-all_of
returns-then-not-all_of c =
    let b = c.args.bytes.now in
    let k : (i : ℕ) → i < length b → get_or b i 0 < 256 = λ i _. (c.shared_slice_known-1.given i).fits in
    let l = c.loop-at in
    agreed_not b _ k _ _ l.invariant (agreed_less b _ k _ _ l.invariant (omega arith)) (all_of_is c.count-c.ensures c.if-not-all_of.true c.all_of.ensures)

pub overflow_add-at : goal.overflow_add-at
overflow_add-at c =
    let b = c.args.bytes.now in
    let k : (i : ℕ) → i < length b → get_or b i 0 < 256 = λ i _. (c.shared_slice_known-1.given i).fits in
    let l = c.loop-at in
    omega (arith, c.count-c.ensures, agreed_room b _ k _ _ l.invariant)

pub loop-at-smaller : goal.loop-at-smaller
loop-at-smaller c =
    let b = c.args.bytes.now in
    let k : (i : ℕ) → i < length b → get_or b i 0 < 256 = λ i _. (c.shared_slice_known-1.given i).fits in
    let l = c.loop-at in
    omega (arith, agreed_less b _ k _ _ l.invariant (omega arith))

pub loop-at-preserved : goal.loop-at-preserved
loop-at-preserved c =
    let b = c.args.bytes.now in
    let k : (i : ℕ) → i < length b → get_or b i 0 < 256 = λ i _. (c.shared_slice_known-1.given i).fits in
    let l = c.loop-at in
    let n = c.count-c.ensures in
    rw n
    (agreed_next b _ k _ _ l.invariant (agreed_less b _ k _ _ l.invariant (omega arith)) (all_of_is n c.if-not-all_of.false c.all_of.ensures))

pub returns : goal.returns
returns c =
    let b = c.args.bytes.now in
    let k : (i : ℕ) → i < length b → get_or b i 0 < 256 = λ i _. (c.shared_slice_known-1.given i).fits in
    let l = c.loop-at in
    agreed_all b _ k _ _ l.invariant (omega arith)
