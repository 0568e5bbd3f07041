-- What the code settles, and what it then says.
use Prim.Native.Nat.{ℕ, ◌<◌, ◌≤◌}
use native.Mathlib.Omega.{arith}
use mathlib.Core.Path.{◌≡◌, refl, sym, ap, ◌∙◌}
use mathlib.Core.List.{List}
use lib.ListN.{length}
use Rattle.std.specs.Prelude.{Result, Ok, Err}
use Rattle.history.specs.History.{history_of}
use Rattle.history.specs.Sweep.{missing}
use Rattle.history.specs.Listing.{listing}
use Rattle.judging.specs.Answer.{Answer, refused, no_order, accepted, refusal, answer, unlisted, begins_to, settled_of, answer_of, laid, order_of, number_of}
use Rattle.judging.specs.Keys.{Put}
use Rattle.judging.specs.Meaning.{RightLength, Roomy}
use Rattle.judging.specs.declared.Fault.{Fault}
use Rattle.judging.specs.declared.Fault.TheVariants.{WrongLength, Malformed, NoRoom, NoOrder}
use Rattle.judging.proofs.Asked.{Asked, no9, no10, no11, no12, none, ask, said, cases_are, question_of, asked_number}
use Rattle.judging.proofs.Steps.{begins_few}
use Rattle.judging.proofs.Meaning.{Says, says, number_is}

-- a fault's number is not that of an order
pub refusal_some : (f : Fault) → 0 < (refusal f).number
refusal_some WrongLength = omega arith
refusal_some Malformed = omega arith
refusal_some NoRoom = omega arith
refusal_some (NoOrder r) = omega arith

module _ (log : List ℕ) (n : ℕ) where
  pub settled_is : (a : Asked log n) → settled_of log n ≡ said log n refused no_order (λ _. accepted 0) a
  unfolding settled_of
  settled_is a = cases_are log n refused no_order (λ _. accepted 0) a

  answer_is : (a : Asked log n) → answer_of log n ≡ said log n refused no_order (λ l. accepted (length l)) a
  unfolding answer_of
  answer_is a = cases_are log n refused no_order (λ l. accepted (length l)) a

  settled_number : (a : Asked log n) → (settled_of log n).number ≡ question_of a
  unfolding settled_of
  settled_number a = asked_number log n _ (λ _. refl) a

  -- where no fault is found, no question is answered no
  pub none_no : {A : Type 0} {v : Result A Fault} {x : A} → unlisted v ≡ settled_of log n → v ≡ Ok x → (settled_of log n).number ≡ 0
  none_no e a = ap (λ (x : Answer). x.number) (sym e ∙ ap unlisted a)

-- a verdict and what is settled have one number
pub unlisted_number : (v : Result ℕ Fault) → (unlisted v).number ≡ (answer v).number
unlisted_number (Ok n) = refl
unlisted_number (Err f) = refl

-- where there are places enough, it does not matter how many
pub settled_same : (log : List ℕ) (n m : ℕ) → begins_to log (length log) ≤ n → begins_to log (length log) ≤ m → settled_of log n ≡ settled_of log m
settled_same log n m h i = go (ask log n)
  where
    go : Asked log n → settled_of log n ≡ settled_of log m
    go (no9 a) = settled_is log n (no9 a) ∙ sym (settled_is log m (no9 a))
    go (no10 r w) = settled_is log n (no10 r w) ∙ sym (settled_is log m (no10 r w))
    go (no11 F a) = absurd (omega arith)
    go (no12 F a b) = settled_is log n (no12 F a b) ∙ sym (settled_is log m (no12 F i b))
    go (none F a b) = settled_is log n (none F a b) ∙ sym (settled_is log m (none F i b))

-- as many places as rows are enough
pub number_settled : (log : List ℕ) → (settled_of log (length log)).number ≡ number_of log
unfolding number_of
number_settled log =
    let n = begins_to log (length log) in
    ap (λ (x : Answer). x.number) (settled_same log (length log) n (begins_few log (length log)) (omega arith))
    ∙ settled_number log n (ask log n)
    ∙ sym (number_is log n (ask log n))

-- the order of a log with no question answered no is to be written
pub record Settled (log o : List ℕ) : Type 0 where
  pub asked : Roomy log o
  pub placed : length log ≤ missing (history_of log)

module _ (log o : List ℕ) where
  order_is : (a : Asked log (length o)) → order_of log o ≡ said log (length o) (λ _. o) (λ _. o) (λ l. laid l o) a
  unfolding order_of
  order_is a = cases_are log (length o) (λ _. o) (λ _. o) (λ l. laid l o) a

  pub says_9 : (RightLength log → ⊥) → Says log o o (Err WrongLength)
  says_9 a = says log o o (Err WrongLength) (sym (answer_is log (length o) (no9 a))) (sym (order_is (no9 a)))

  pub settled : (settled_of log (length o)).number ≡ 0 → Settled log o
  settled z = go (ask log (length o))
    where
      go : Asked log (length o) → Settled log o
      go (no9 a) = absurd (omega (arith, settled_number log (length o) (no9 a)))
      go (no10 r w) = absurd (omega (arith, settled_number log (length o) (no10 r w)))
      go (no11 F a) = absurd (omega (arith, settled_number log (length o) (no11 F a)))
      go (no12 F a b) = absurd (omega (arith, settled_number log (length o) (no12 F a b)))
      go (none F a b) = record { asked = record { log_ok = F; room = a }; placed = b }

  -- a refusal is said with the places as they were,
  pub says_refused : (f : Fault) → refusal f ≡ settled_of log (length o) → Says log o o (Err f)
  says_refused f e = go (ask log (length o))
    where
      by : settled_of log (length o) ≡ answer_of log (length o) → order_of log o ≡ o → Says log o o (Err f)
      by s t = says log o o (Err f) (e ∙ s) (sym t)

      go : Asked log (length o) → Says log o o (Err f)
      go (no9 a) = by (settled_is log _ (no9 a) ∙ sym (answer_is log _ (no9 a))) (order_is (no9 a))
      go (no10 a b) = by (settled_is log _ (no10 a b) ∙ sym (answer_is log _ (no10 a b))) (order_is (no10 a b))
      go (no11 F a) = by (settled_is log _ (no11 F a) ∙ sym (answer_is log _ (no11 F a))) (order_is (no11 F a))
      go (no12 F a b) = by (settled_is log _ (no12 F a b) ∙ sym (answer_is log _ (no12 F a b))) (order_is (no12 F a b))
      go (none F a b) = absurd (omega (arith, refusal_some f, ap (λ (x : Answer). x.number) (e ∙ settled_is log _ (none F a b))))

  -- and else the order is written into them
  pub says_yes : (settled_of log (length o)).number ≡ 0 → (e : List ℕ) (n : ℕ) → Put (listing log) o e n → Says log o e (Ok n)
  says_yes z e n p =
      let S = settled z in
      let a : Asked log (length o) = none S.asked.log_ok S.asked.room S.placed in
      says log o e (Ok n) (ap accepted p.count ∙ sym (answer_is log (length o) a)) (p.there ∙ sym (order_is a))
