use native.Mathlib.Omega.{arith}
use Rattle.std.proofs.lemmas.Bool.Decides.{nat_tests}
use Rattle.common.specs.SetUp.{set_up_of}
use Rattle.register.proofs.CallLaws.{all_set}
use Rattle.register.proofs.set_up.fresh_register.Goals as goal

pub returns-then-n-lt1 : goal.returns-then-n-lt1
unfolding set_up_of
returns-then-n-lt1 g c = grind (arith, nat_tests)

pub returns-then-table-cells : goal.returns-then-table-cells
unfolding set_up_of
returns-then-table-cells g c = grind (arith, nat_tests)

pub returns-then-rows-lt3 : goal.returns-then-rows-lt3
unfolding set_up_of
returns-then-rows-lt3 g c = grind (arith, nat_tests)

pub returns : goal.returns
returns g c =
    let a = c.args in
    let P = g.met.P.Protocol in
    let cells = c.cells-cells.ensures in
    rw (c.fill_rows.ensures, cells, P.whole_rows a.n, c.own_word.ensures, c.other_word.ensures, P.fresh_are a.n a.value a.fresh, c.add_row.ensures, c.fresh_writer-state.ensures, c.requires)
    (all_set g.P.Protocol.rules a.n a.value a.fresh a.table.now a.log.now (omega arith) (omega arith) (omega (arith, cells)) (omega arith) (omega arith))
