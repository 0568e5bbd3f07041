use Prim.Native.Nat.{◌<◌, suc}
use native.Mathlib.Omega.{arith}
use lib.Pow.{pow_pos}
use Rattle.protocol.proofs.Tickets.{two_shifted}
use Rattle.writer.proofs.tickets.through.Goals as goal

pub overflow_sub-result : goal.overflow_sub-result
overflow_sub-result c =
    let t = c.args.ticket in
    let h : t < 63 = omega (arith, c.if-ticket-ge63.false) in
    omega (arith, two_shifted t h, pow_pos (suc t))
