use Rattle.std.proofs.Common.{◌≡◌, ℕ, List, length, get_or, ap, sym, arith}
use lib.Seq.{ext_get_or}
use Rattle.words.specs.Same.{same}
use Rattle.words.proofs.Laws.Choice.{T→true, not→false}
use Rattle.words.proofs.Laws.Same.{same→, →same}
use Rattle.inputs.proofs.is_same.Goals as goal

pub returns-then-text-word : goal.returns-then-text-word
returns-then-text-word c = sym (not→false (same _ _) (λ t. c.if-text-word.true (ap (length {A = ℕ}) (same→ _ _ t))))

pub returns-then-text-i : goal.returns-then-text-i
returns-then-text-i c =
    let i = c.loop-i.i in
    sym (not→false (same _ _) (λ t.
    let same_byte : get_or c.args.text.now i 0 ≡ get_or c.args.word.now i 0 = ap (λ (l : List ℕ). get_or l i 0) (same→ _ _ t) in
    omega arith))

pub returns : goal.returns
returns c = sym (T→true (same _ _) (→same _ _ (ext_get_or 0 _ _ c.loop-i.invariant.1 (λ j a. c.loop-i.invariant.2 j (omega arith)))))
