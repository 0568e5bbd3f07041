use native.Mathlib.Omega.{arith}
use mathlib.Core.Path.{ap, sym, ◌∙◌}
use mathlib.Core.List.{List, [], ◌∷◌, ◌++◌}
use Rattle.std.proofs.Common.{ℕ, ◌<◌, ◌≤◌, length, get_or}
use Rattle.std.proofs.lemmas.List.{take_more_set, take_more}
use lib.ListN.{length-set}
use lib.Seq.{take_all}
use Rattle.fields.proofs.narrow.Goals as goal

pub overflow_cast-numbers : goal.overflow_cast-numbers
overflow_cast-numbers g c = omega (arith, c.requires c.loop-i.i)

pub loop-i-preserved : goal.loop-i-preserved
loop-i-preserved g c =
    let I = c.loop-i.invariant in
    let in_numbers : c.loop-i.i < length c.loop-i.numbers = omega arith in
    let in_places : c.loop-i.i < length c.args.places.now = omega arith in
    let x = get_or c.args.places.now c.loop-i.i 0 in
    record {
      copied = take_more_set _ _ _ in_numbers ∙ ap (λ (xs : List ℕ). xs ++ x ∷ []) I.copied ∙ sym (take_more _ _ _ in_places);
      whole = length-set _ _ _ ∙ I.whole;
    }

pub returns : goal.returns
returns g c =
    let I = c.loop-i.invariant in
    let numbers_end : length c.loop-i.numbers ≤ c.loop-i.i = omega arith in
    let places_end : length c.args.places.now ≤ c.loop-i.i = omega arith in
    sym (take_all _ _ numbers_end) ∙ I.copied ∙ take_all _ _ places_end
