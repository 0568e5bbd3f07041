use Prim.Native.Nat.{ℕ, ◌-◌, ◌*◌, ◌^◌, ◌≤◌, ◌<◌}
use native.Mathlib.Omega.{arith}
use native.Mathlib.Nat.{mul-le-mul}
use Rattle.parts.proofs.places.row_start.Goals as goal

-- a product of two 32-bit numbers fits, with a third behind it
start_low : (n i : ℕ) → n < 2 ^ 32 → i < 2 ^ 32 → (i - 1) * (n - 1) ≤ 4294967294 * 4294967294
start_low n i h g =
    let x : i - 1 ≤ 4294967294 = omega arith in
    let y : n - 1 ≤ 4294967294 = omega arith in
    mul-le-mul x y

pub overflow_mul-result : goal.overflow_mul-result
overflow_mul-result c =
    let a = c.args in
    let f = c.ranges in
    omega (arith, start_low a.n a.i f.n.fits f.i.fits)

pub overflow_add-result : goal.overflow_add-result
overflow_add-result c =
    let a = c.args in
    let f = c.ranges in
    omega (arith, start_low a.n a.i f.n.fits f.i.fits, f.n.fits)
