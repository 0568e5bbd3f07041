use Prim.Native.Nat.{◌+◌}
use Rattle.std.proofs.Common.{arith, rules}
use Rattle.lines.specs.Lines.{Puts}
use Rattle.schedules.specs.Numbers.{listed}
use Rattle.schedules.proofs.Numbers.{top_fits}
use Rattle.turns.proofs.Following.{short_list, long_list, all_listed}
use Rattle.turns.proofs.list_schedules.Goals as goal

pub returns-then-writer-reader-gt16 : goal.returns-then-writer-reader-gt16
returns-then-writer-reader-gt16 c =
    let p = long_list _ _ _ c.if-writer-reader-gt16.true in record { list = p; all = all_listed _ _ p }

pub after_writer-requires : goal.after_writer-requires
after_writer-requires c = let a = c.args in omega (arith, top_fits (a.a + a.b) (omega (arith, c.if-writer-reader-gt16.false)))

pub returns : goal.returns
returns c =
    let p : Puts (listed c.args.a c.args.b) 0 c.args.list.now _ _ = short_list _ _ c.if-writer-reader-gt16.false (search rules) in
    record { list = p; all = all_listed _ _ p }
