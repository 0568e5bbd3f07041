-- An answer's number and values tell which it is.
use Rattle.std.specs.Prelude.{Ok, Err}
use Prim.Native.Nat.{ℕ}
use mathlib.Core.Path.{◌≡◌, refl, sym, ap, ◌∙◌}
use mathlib.Core.List.{List, [], ◌∷◌}
use lib.Dec.{eqb}
use Rattle.words.specs.Choice.{pick}
use Rattle.common.specs.declared.Refusal.{Refusal}
use Rattle.common.specs.declared.Refusal.TheVariants.{Readers, Cells, Rows, Range, Processor, Busy, Full, Idle, Retired, Spent}
use Rattle.common.specs.declared.Done.TheVariants.{Accepted, Moved}
use Rattle.common.specs.Answers.{Answer, Reply, reply}

refusal_of : ℕ → Refusal
refusal_of k =
    pick (eqb k 1) Readers
    (pick (eqb k 2) Cells
    (pick (eqb k 3) Rows
    (pick (eqb k 4) Range
    (pick (eqb k 5) Processor (pick (eqb k 6) Busy (pick (eqb k 7) Full (pick (eqb k 8) Idle (pick (eqb k 13) Retired Spent))))))))

made : List ℕ → Answer
made [] = Ok Accepted
made (k ∷ ks) = Ok (Moved k)

answer_of : Reply → Answer
answer_of x = pick (eqb x.number 0) (made x.values) (Err (refusal_of x.number))

back : (a : Answer) → answer_of (reply a) ≡ a
unfolding answer_of made refusal_of
back (Ok Accepted) = refl
back (Ok (Moved k)) = refl
back (Err Readers) = refl
back (Err Cells) = refl
back (Err Rows) = refl
back (Err Range) = refl
back (Err Processor) = refl
back (Err Busy) = refl
back (Err Full) = refl
back (Err Idle) = refl
back (Err Retired) = refl
back (Err Spent) = refl

pub one_answer : (a b : Answer) → reply a ≡ reply b → a ≡ b
one_answer a b e = sym (back a) ∙ ap answer_of e ∙ back b
