-- The cases of the answer, by what is known of the log and the places.
use Prim.Native.Nat.{ℕ, ◌≤◌, ◌<◌}
use mathlib.Core.Path.{◌≡◌, refl, sym, ap, ◌∙◌}
use mathlib.Core.Bool.{Bool, true, false}
use mathlib.Core.List.{List}
use native.Mathlib.Omega.{arith}
use native.Mathlib.Decide.{dec_lt}
use lib.Dec.{T, leb, ltb, leb→le, le→leb}
use lib.ListN.{length}
use borrow.Author.Tests.{ltb-true, ltb-false, le-leb, lt-leb, lt-ltb, le-ltb}
use Rattle.words.proofs.Laws.Choice.{and_T, T-left, T-right, T→true, not→false}
use Rattle.history.specs.WellFormed.{well_formed}
use Rattle.history.specs.Form.{LogFormed}
use Rattle.history.specs.History.{history_of}
use Rattle.history.specs.Sweep.{missing}
use Rattle.history.specs.Listing.{listing}
use Rattle.history.proofs.Form.{log_formed}
use Rattle.judging.specs.Answer.{Answer, refused, no_order, right_length, begins_to, cases}
use Rattle.judging.specs.Meaning.{RightLength, Formed}

pub right→ : (log : List ℕ) → T (right_length (length log)) → RightLength log
right→ log t = record { some = leb→le _ _ (T-left (leb 1 (length log)) _ t); few = leb→le _ _ (T-right (leb 1 (length log)) _ t) }

pub →right : (log : List ℕ) → RightLength log → T (right_length (length log))
→right log s = and_T (leb 1 (length log)) _ (le→leb _ _ s.some) (le→leb _ _ s.few)

pub wrong : (log : List ℕ) → right_length (length log) ≡ false → RightLength log → ⊥
wrong log e s = rw e at (→right log s)

-- a well-formed log passes its test
pub tested : {log : List ℕ} → Formed log → T (well_formed log)
tested {log} F = (log_formed log).if F.formed

pub untested : {log : List ℕ} → well_formed log ≡ false → ¬ LogFormed log
untested {log} e L = rw e at ((log_formed log).if L)

-- what the code's tests say
pub formed_is : (log : List ℕ) {a b : Bool} → a ≡ right_length (length log) → a ≡ true → b ≡ well_formed log → b ≡ true → Formed log
formed_is log e t f u = record { size = right→ log (rw (sym e ∙ t) tt); formed = (log_formed log).only_if (rw (sym f ∙ u) tt) }

pub lacking : {t : Bool} {a b : ℕ} → t ≡ ltb a b → t ≡ true → a < b
lacking {a = a} {b = b} e t = ltb-true a b (sym e ∙ t)

pub enough : {t : Bool} {a b : ℕ} → t ≡ ltb a b → t ≡ false → b ≤ a
enough {a = a} {b = b} e t = ltb-false a b (sym e ∙ t)

-- which question a log, with n places, gets a no to
pub data Asked (log : List ℕ) (n : ℕ) : Type 0 where
  no9 : (RightLength log → ⊥) → Asked log n
  no10 : RightLength log → well_formed log ≡ false → Asked log n
  no11 : Formed log → n < begins_to log (length log) → Asked log n
  no12 : Formed log → begins_to log (length log) ≤ n → missing (history_of log) < length log → Asked log n
  none : Formed log → begins_to log (length log) ≤ n → length log ≤ missing (history_of log) → Asked log n

module _ (log : List ℕ) (n : ℕ) where
  by_order : Formed log → begins_to log (length log) ≤ n → Dec (missing (history_of log) < length log) → Asked log n
  by_order F a (yes b) = no12 F a b
  by_order F a (no b) = none F a (omega arith)

  by_room : Formed log → Dec (n < begins_to log (length log)) → Asked log n
  by_room F (yes a) = no11 F a
  by_room F (no a) = by_order F (omega arith) (dec_lt (missing (history_of log)) (length log))

  by_form : RightLength log → (t : Bool) → well_formed log ≡ t → Asked log n
  by_form r true e = by_room (record { size = r; formed = (log_formed log).only_if (rw e tt) }) (dec_lt n (begins_to log (length log)))
  by_form r false e = no10 r e

  by_length : (t : Bool) → right_length (length log) ≡ t → Asked log n
  by_length true e = by_form (right→ log (rw e tt)) (well_formed log) refl
  by_length false e = no9 (wrong log e)

  pub ask : Asked log n
  ask = by_length (right_length (length log)) refl

module _ {A : Type 0} (log : List ℕ) (n : ℕ) (f g : ℕ → A) (s : List ℕ → A) where
  abbrev pub said : Asked log n → A
  said (no9 _) = f 9
  said (no10 _ _) = f 10
  said (no11 _ _) = f 11
  said (no12 _ _ _) = g (missing (history_of log))
  said (none _ _ _) = s (listing log)

  pub cases_are : (a : Asked log n) → cases log n f g s ≡ said a
  unfolding cases
  cases_are (no9 a) = rw (not→false (right_length (length log)) (λ t. a (right→ log t)))
  cases_are (no10 r w) = rw (T→true (right_length (length log)) (→right log r), w)
  cases_are (no11 F a) =
      rw (T→true (right_length (length log)) (→right log F.size), T→true (well_formed log) (tested F), lt-leb (begins_to log (length log)) n a)
  cases_are (no12 F a b) =
      rw (
        T→true (right_length (length log)) (→right log F.size),
        T→true (well_formed log) (tested F),
        le-leb (begins_to log (length log)) n a,
        lt-ltb (missing (history_of log)) (length log) b,
      )
  cases_are (none F a b) =
      rw (
        T→true (right_length (length log)) (→right log F.size),
        T→true (well_formed log) (tested F),
        le-leb (begins_to log (length log)) n a,
        le-ltb (missing (history_of log)) (length log) b,
      )

-- the number of the question, or 0
abbrev pub question_of : {log : List ℕ} {n : ℕ} → Asked log n → ℕ
question_of {log} {n} a = said log n (λ k. k) (λ _. 12) (λ _. 0) a

-- it is that of an answer, whatever is accepted with 0
pub asked_number : (log : List ℕ) (n : ℕ) (s : List ℕ → Answer) → ((l : List ℕ) → (s l).number ≡ 0) → (a : Asked log n)
    → (cases log n refused no_order s).number ≡ question_of a
asked_number log n s z a = ap (λ (x : Answer). x.number) (cases_are log n refused no_order s a) ∙ go a
  where
    go : (a : Asked log n) → (said log n refused no_order s a).number ≡ question_of a
    go (no9 _) = refl
    go (no10 _ _) = refl
    go (no11 _ _) = refl
    go (no12 _ _ _) = refl
    go (none _ _ _) = z (listing log)
