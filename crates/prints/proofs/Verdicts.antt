-- The line that the code puts is that of the log's verdict; and what it puts of the rows read from bytes is what is printed of these.
use Prim.Native.Nat.{ℕ}
use mathlib.Core.Path.{◌≡◌, refl, sym, ap, subst, ◌∙◌}
use mathlib.Core.List.{List, ◌++◌}
use native.Mathlib.Omega.{arith}
use lib.ListN.{length, take, drop, replicate, length-take, length-replicate}
use Rattle.std.specs.Prelude.{Result, Ok, Err}
use Rattle.logbytes.specs.Bytes.{rows_in}
use Rattle.history.specs.Listing.{listing}
use Rattle.judging.specs.declared.Fault.{Fault}
use Rattle.judging.specs.declared.Fault.TheVariants.{WrongLength, Malformed, NoRoom, NoOrder}
use Rattle.judging.specs.Answer.{refusal, cases, answer_of, order_of}
use Rattle.judging.specs.Meaning.{RightLength, Means}
use Rattle.judging.proofs.Asked.{Asked, no9, no10, no11, no12, none, ask, said, cases_are}
use Rattle.judging.proofs.ByteLaws.{rows_front}
use Rattle.judging.proofs.Places.{laid_take}
use Rattle.judging.proofs.Meaning.{Says, one_verdict}
use Rattle.lines.specs.Lines.{refused_line, no_order_line, order_line}
use Rattle.lines.specs.Adds.{Adds, Sink}
use Rattle.printing.proofs.Laws.{rows_print}
use Rattle.printing.specs.Verdict.{verdict_line, from_bytes}
use Rattle.prints.specs.Said.{Fits, refusal_line, said_line}

-- 4,096 places
abbrev pub places : List ℕ
places = replicate 4096 0

has_places : length places ≡ 4096
has_places = length-replicate {A = ℕ} 4096 0

module _ (rows e : List ℕ) (v : Result ℕ Fault) (s : Says rows places e v) where
  line_is : verdict_line rows ≡ cases rows (length places) refused_line no_order_line order_line
  unfolding verdict_line
  line_is = ap (λ (k : ℕ). cases rows k refused_line no_order_line order_line) (sym has_places)

  by_case : (a : Asked rows (length places)) → said_line v e ≡ said rows (length places) refused_line no_order_line order_line a
  unfolding answer_of order_of said_line refusal_line
  by_case (no9 a) = rw (one_verdict v (Err WrongLength) (s.answer ∙ cases_are rows _ _ _ _ (no9 a)))
  by_case (no10 r w) = rw (one_verdict v (Err Malformed) (s.answer ∙ cases_are rows _ _ _ _ (no10 r w)))
  by_case (no11 F a) = rw (one_verdict v (Err NoRoom) (s.answer ∙ cases_are rows _ _ _ _ (no11 F a)))
  by_case (no12 F a b) = rw (one_verdict v (Err (NoOrder _)) (s.answer ∙ cases_are rows _ _ _ _ (no12 F a b)))
  by_case (none F a b) =
      rw (one_verdict v (Ok (length (listing rows))) (s.answer ∙ cases_are rows _ _ _ _ (none F a b)))
      (ap (λ (l : List ℕ). order_line (take (length (listing rows)) l)) (s.order ∙ cases_are rows _ _ _ _ (none F a b))
      ∙ ap order_line (laid_take (listing rows) places))

  pub said_is : said_line v e ≡ verdict_line rows
  said_is = by_case (ask rows (length places)) ∙ sym (cases_are rows _ _ _ _ (ask rows (length places))) ∙ sym line_is

-- what a verdict means keeps its order within the places
pub fits : (log o e : List ℕ) (v : Result ℕ Fault) → Means log o e v → Fits v e
fits log o e (Ok n) m = (omega (arith, m.count, length-take n e), m.count)
fits log o e (Err f) m = tt

-- the same where it is put
pub put_line_lem : (rows e : List ℕ) (v : Result ℕ Fault) {old new : Sink} → Says rows places e v → Adds (said_line v e) old new → Adds (verdict_line rows) old new
put_line_lem rows e v s a = rw (said_is rows e v s) at a

-- the line of a refusal that is not for want of an order has the fault's number
pub numbered_line : (f : Fault) → ((r : ℕ) → f ≡ NoOrder r → ⊥) → refusal_line f ≡ refused_line (refusal f).number
unfolding refusal_line
numbered_line WrongLength n = refl
numbered_line Malformed n = refl
numbered_line NoRoom n = refl
numbered_line (NoOrder r) n = absurd (n r refl)

-- What is printed of the rows that were read from bytes into 4,096 places, which became e.
pub put_read : (print : List ℕ → List ℕ) → ((log : List ℕ) → ¬ RightLength log → print log ≡ refused_line 9)
    → (b : List ℕ) {e : List ℕ} {k : ℕ} {old new : Sink} → (k ≡ length (rows_in b (length places))) × (e ≡ rows_in b (length places) ++ drop k places)
    → Adds (print (take k e)) old new → Adds (from_bytes print b) old new
put_read print nine b {old = old} {new = new} a =
    subst (λ (t : List ℕ). Adds t old new) (ap print (rows_front b places a) ∙ ap (λ (k : ℕ). print (rows_in b k)) has_places ∙ rows_print print nine b)
