use Rattle.std.proofs.Common.{rules, ◌≡◌, ◌+◌, ◌∷◌, [], ◌++◌, length, length-append}
use Rattle.std.proofs.lemmas.Slice.Zip.{zip_turn, zip_end}
use Rattle.std.specs.Iterator.Adapters.{zip_first, zip_second}
use Rattle.std.specs.Slice.Iter.{iter_rest}
use Rattle.drills.proofs.Turns.{no_letters, next_letter, all_letters}
use Rattle.drills.proofs.line.put_letters.Goals as goal

pub loop-call-init : goal.loop-call-init
loop-call-init c = no_letters c.args.calls.now c.args.answers.now _

pub loop-call-preserved : goal.loop-call-preserved
loop-call-preserved c =
    let first : iter_rest (zip_first c.into_iter-call-iterator.result) ≡ c.args.calls.now = search rules in
    let second : iter_rest (zip_second c.into_iter-call-iterator.result) ≡ c.args.answers.now = search rules in
    let t = zip_turn _ _ c.loop-call.yielded c.into_iter-call-iterator.result c.loop-call.call-iterator c.next.new.self _ first second c.loop-call.yielded_by (c.in-Some.call, c.in-Some.answer) c.in-Some.is c.next.ensures.steps in
    let n : length (c.loop-call.yielded ++ ((c.in-Some.call, c.in-Some.answer) ∷ [])) ≡ length c.loop-call.yielded + 1 = length-append c.loop-call.yielded _ in
    rw n (next_letter _ _ _ _ t.0 t.1 (rw (t.2 0, t.3 0) at c.letter_of.ensures) c.loop-call.invariant c.put.ensures)

pub returns : goal.returns
returns c =
    let first : iter_rest (zip_first c.into_iter-call-iterator.result) ≡ c.args.calls.now = search rules in
    let second : iter_rest (zip_second c.into_iter-call-iterator.result) ≡ c.args.answers.now = search rules in
    let t = zip_end _ _ c.loop-call.yielded c.into_iter-call-iterator.result c.loop-call.call-iterator c.next.new.self _ first second c.loop-call.yielded_by c.in-None.is c.next.ensures.steps in
    rw (all_letters c.args.calls.now c.args.answers.now _ t) at c.loop-call.invariant
