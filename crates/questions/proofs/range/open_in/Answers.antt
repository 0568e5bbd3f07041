use Rattle.std.proofs.Common.{◌≡◌, rules, take}
use mathlib.Core.Path.{◌∙◌}
use mathlib.Core.Bool.{Bool}
use native.Mathlib.Omega.{arith}
use borrow.Author.Tests.{tests}
use Rattle.std.proofs.lemmas.Iterator.{YieldsList-from_slice}
use Rattle.std.proofs.lemmas.Iterator.Consumers.{YieldsList-from_filter, count_from_yields_List}
use Rattle.std.proofs.lemmas.List.Sums.{length-filter}
use Rattle.words.proofs.Laws.Counting.{one_low, count_low}
use Rattle.common.specs.declared.Reader.{Reader}
use Rattle.common.specs.State.{blank, reader_at, as_counted, open_readers}
use Rattle.questions.proofs.Firsts.{count_of_first}
use Rattle.questions.proofs.range.open_in.Goals as goal

reads : (c : goal.After-count_one) → c.count-reads.result ≡ open_readers c.args.s
reads c =
    let s = c.args.s in
    let open-one : Reader → Bool = λ r. (as_counted r).active in
    count_from_yields_List _ _ c.count-reads.ensures.ran (YieldsList-from_filter _ open-one (YieldsList-from_slice (take s.head.n s.readers) cc) c.filter.ensures.closure (λ x r q k. search (rules, tests)))
    ∙ length-filter open-one (take s.head.n s.readers)
    ∙ count_of_first open-one s.readers blank s.head.n (omega arith)

pub overflow_add-result : goal.overflow_add-result
overflow_add-result c =
    let s = c.args.s in
    omega (arith, c.requires, c.count_one.ensures, reads c, one_low s.writer.active, count_low s.head.n (λ i. (as_counted (reader_at s i)).active))

pub returns : goal.returns
returns c = rw (c.count_one.ensures, reads c)
