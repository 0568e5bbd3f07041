use Rattle.std.proofs.Common.{rules, take}
use mathlib.Core.Path.{◌∙◌}
use mathlib.Core.Bool.{Bool}
use native.Mathlib.Omega.{arith}
use borrow.Author.Tests.{tests}
use Rattle.std.proofs.lemmas.Iterator.{YieldsList-from_slice}
use Rattle.std.proofs.lemmas.Iterator.Search.{all_from_yields_List}
use Rattle.common.specs.declared.Reader.{Reader}
use Rattle.common.specs.State.{blank, as_counted}
use Rattle.questions.proofs.Firsts.{all_of_first}
use Rattle.questions.proofs.range.readers_ok.Goals as goal

pub returns : goal.returns
returns g c =
    let s = c.args.s in
    let passes : Reader → Bool = λ r. g.P.Protocol.rules.reader_ok s.head.n (as_counted r) in
    all_from_yields_List passes _ _ _ c.all.ensures.ran (YieldsList-from_slice (take s.head.n s.readers) cc) (λ x r q k. search (rules, tests))
    ∙ all_of_first passes s.readers blank s.head.n (omega arith)
