-- The answer means what document 01 says.
use Prim.Native.Nat.{ℕ, ◌%◌, ◌≤◌, ◌<◌}
use native.Mathlib.Omega.{arith}
use mathlib.Core.Path.{◌≡◌, refl, sym, ap, subst, ◌∙◌}
use mathlib.Core.Logic.{◌↔◌}
use mathlib.Core.List.{List}
use lib.Dec.{eqb}
use lib.ListN.{length, get_or, take, drop}
use lib.Seq.{drop_at}
use Rattle.std.specs.Prelude.{Result, Ok, Err}
use Rattle.words.specs.Choice.{pick}
use Rattle.words.proofs.Laws.Choice.{eq_ind, T-left}
use Rattle.logbytes.specs.Bytes.{rows_of}
use Rattle.history.specs.Form.{LogFormed}
use Rattle.history.specs.History.{history_of, Read}
use Rattle.history.specs.Linearization.{Orders}
use Rattle.history.specs.Sweep.{is_read, fails, missing}
use Rattle.history.specs.Listing.{listing}
use Rattle.history.proofs.Search.{first_passes}
use Rattle.history.proofs.Built.{read→}
use Rattle.history.proofs.WellFormed.{laws}
use Rattle.history.proofs.Verdict.{before_missing, none_with}
use Rattle.history.proofs.Theorems.{at_most_one, has_earliest, ordered_if_swept, two_definitions, serial_shrinking}
use Rattle.judging.specs.Answer.{Answer, refusal, answer, begins_to, answer_of, laid, order_of, number_of, bytes_number}
use Rattle.judging.specs.Meaning.{RightLength, Formed, Roomy, BothReports, No12, Yes, Means, Ordered, BytesSay, says_0, says_9, says_10, says_12, BytesMean}
use Rattle.judging.specs.declared.Fault.{Fault}
use Rattle.judging.specs.declared.Fault.TheVariants.{WrongLength, Malformed, NoRoom, NoOrder}
use Rattle.judging.proofs.Asked.{tested, untested, Asked, no9, no10, no11, no12, none, ask, cases_are, question_of, asked_number}
use Rattle.judging.proofs.Places.{laid_take}

-- a missing read is an ended read
missing_read : (log : List ℕ) → missing (history_of log) < length log → Read (history_of log) (length log) (missing (history_of log))
unfolding missing
missing_read log a =
    read→ (history_of log) (length log) (missing (history_of log)) a
    (T-left (is_read (history_of log) (missing (history_of log))) _ (first_passes (fails (history_of log)) 0 (length log) (omega arith)))

-- An answer has one verdict.
verdict_of : Answer → Result ℕ Fault
verdict_of x =
    pick (eqb x.number 9) (Err WrongLength)
    (pick (eqb x.number 10) (Err Malformed)
    (pick (eqb x.number 11) (Err NoRoom)
    (pick (eqb x.number 12) (Err (NoOrder (get_or x.values 0 0))) (Ok (get_or x.values 0 0)))))

verdict_back : (v : Result ℕ Fault) → verdict_of (answer v) ≡ v
unfolding verdict_of
verdict_back (Ok n) = refl
verdict_back (Err WrongLength) = refl
verdict_back (Err Malformed) = refl
verdict_back (Err NoRoom) = refl
verdict_back (Err (NoOrder r)) = refl

pub one_verdict : (v w : Result ℕ Fault) → answer v ≡ answer w → v ≡ w
one_verdict v w e = sym (verdict_back v) ∙ ap verdict_of e ∙ verdict_back w

pub one_fault : (f g : Fault) → refusal f ≡ refusal g → f ≡ g
one_fault f g e =
    let v : Result ℕ Fault = Err f in
    let w : v ≡ Err g = one_verdict v (Err g) e in
    cc

-- "Two definitions, one verdict": where 0 is the number of the logs with an order, it is that of the logs that are atomic by either report.
by_reports : (log : List ℕ) → Formed log → (k : ℕ) → (k ≡ 0) ↔ ((l : List ℕ) × Orders log l) → BothReports log k
by_reports log F k i =
    let d = two_definitions log (tested F) in
    let s = serial_shrinking log (tested F) in
    record {
      ordered = i;
      cs_r8704 = (λ z. d.1 (i.0 z), λ A. i.1 (d.0 A));
      cs_r8628 = (λ z. s.1 (i.0 z), λ A. i.1 (s.0 A));
    }

-- What is answered by definition, with the places that it leaves, means what document 01 says.
module _ (log o : List ℕ) where
  means_12 : Roomy log o → missing (history_of log) < length log → order_of log o ≡ o → No12 log o (order_of log o) (missing (history_of log))
  means_12 R a e =
      let L = laws log (tested R.log_ok) in
      record {
        asked = R;
        read = missing_read log a;
        before = λ m c. (_, before_missing (history_of log) L m c);
        none = λ m c l O. none_with (history_of log) L m l a c O;
        reports =
            by_reports log R.log_ok 12
            (λ z. absurd (omega arith), λ t. absurd (none_with (history_of log) L (length log) t.0 a a t.1));
        same = e;
      }

  beyond_laid : (l : List ℕ) → drop (length l) (laid l o) ≡ drop (length l) o
  unfolding laid
  beyond_laid l = drop_at l (drop (length l) o) (length l) refl

  means_yes : Roomy log o → length log ≤ missing (history_of log) → order_of log o ≡ laid (listing log) o → Yes log o (order_of log o) (length (listing log))
  means_yes R a e =
      let w = tested R.log_ok in
      let O = before_missing (history_of log) (laws log w) (length log) a in
      let E = has_earliest log w _ O in
      let front : take (length (listing log)) (order_of log o) ≡ listing log = ap (take (length (listing log))) e ∙ laid_take (listing log) o in
      record {
        asked = R;
        order = rw front E;
        only = λ l C. at_most_one log w l (listing log) C E ∙ sym front;
        reports = by_reports log R.log_ok 0 (λ _. (_, O), λ _. refl);
        count = ap length (sym front);
        beyond = ap (drop (length (listing log))) e ∙ beyond_laid (listing log);
      }

  means_asked : Asked log (length o) → (v : Result ℕ Fault) → answer v ≡ answer_of log (length o) → Means log o (order_of log o) v
  unfolding answer_of order_of
  means_asked (no9 a) v e =
      rw (one_verdict v (Err WrongLength) (e ∙ cases_are log _ _ _ _ (no9 a))) (record { size = a; same = cases_are log _ _ _ _ (no9 a) })
  means_asked (no10 r w) v e =
      rw (one_verdict v (Err Malformed) (e ∙ cases_are log _ _ _ _ (no10 r w)))
      (record { size = r; malformed = untested w; same = cases_are log _ _ _ _ (no10 r w) })
  means_asked (no11 F a) v e =
      rw (one_verdict v (Err NoRoom) (e ∙ cases_are log _ _ _ _ (no11 F a))) (record { log_ok = F; room = a; same = cases_are log _ _ _ _ (no11 F a) })
  means_asked (no12 F a b) v e =
      rw (one_verdict v (Err (NoOrder _)) (e ∙ cases_are log _ _ _ _ (no12 F a b)))
      (means_12 (record { log_ok = F; room = a }) b (cases_are log _ _ _ _ (no12 F a b)))
  means_asked (none F a b) v e =
      rw (one_verdict v (Ok _) (e ∙ cases_are log _ _ _ _ (none F a b)))
      (means_yes (record { log_ok = F; room = a }) b (cases_are log _ _ _ _ (none F a b)))

-- What the judge says: a verdict with its answer, the places e that the places o have become, and what it means.
abbrev pub Says : List ℕ → List ℕ → List ℕ → Result ℕ Fault → Type 0
Says log o e v = record { answer : answer v ≡ answer_of log (length o); order : e ≡ order_of log o; meaning : Means log o e v }

-- the last follows from the others
pub says : (log o e : List ℕ) (v : Result ℕ Fault) → answer v ≡ answer_of log (length o) → e ≡ order_of log o → Says log o e v
says log o e v a b = record { answer = a; order = b; meaning = rw b (means_asked log o (ask log (length o)) v a) }

pub number_is : (log : List ℕ) (n : ℕ) (a : Asked log n) → (answer_of log n).number ≡ question_of a
unfolding answer_of
number_is log n a = asked_number log n _ (λ _. refl) a

-- With places enough a log is accepted exactly if it has an order.
pub accepted_if_ordered : (log : List ℕ) (n : ℕ) → begins_to log (length log) ≤ n → ((answer_of log n).number ≡ 0) ↔ Ordered log
accepted_if_ordered log n c = go (ask log n)
  where
    go : Asked log n → ((answer_of log n).number ≡ 0) ↔ Ordered log
    go (no9 a) = (λ z. absurd (omega (arith, number_is log n (no9 a))), λ O. absurd (a O.log_ok.size))
    go (no10 r w) = (λ z. absurd (omega (arith, number_is log n (no10 r w))), λ O. absurd (untested w O.log_ok.formed))
    go (no11 F a) = absurd (omega arith)
    go (no12 F a b) =
        (λ z. absurd (omega (arith, number_is log n (no12 F a b))), λ O. absurd (omega (arith, (ordered_if_swept log (tested F)).0 O.order)))
    go (none F a b) = (
      λ _. record { log_ok = F; order = (_, before_missing (history_of log) (laws log (tested F)) (length log) b) },
      λ _. number_is log n (none F a b),
    )

-- So it is where the number alone is asked for,
pub number_if_ordered : (log : List ℕ) → (number_of log ≡ 0) ↔ Ordered log
unfolding number_of
number_if_ordered log = accepted_if_ordered log (begins_to log (length log)) (omega arith)

-- of a log that passes questions 9 and 10, by both reports,
pub number_by_reports : (log : List ℕ) → Formed log → BothReports log (number_of log)
number_by_reports log F =
    let i = number_if_ordered log in
    by_reports log F (number_of log) (λ z. (i.0 z).order, λ t. i.1 (record { log_ok = F; order = t }))

-- The number by the question that is answered no,
say : (log : List ℕ) (P : ℕ → Type 0) → (¬ RightLength log → P 9) → (RightLength log → ¬ LogFormed log → P 10)
    → (Formed log → ((l : List ℕ) → ¬ Orders log l) → P 12) → (Ordered log → P 0) → P (number_of log)
unfolding number_of
say log P p9 p10 p12 p0 = at (begins_to log (length log)) (omega arith) (ask log _)
  where
    at : (n : ℕ) → begins_to log (length log) ≤ n → Asked log n → P (answer_of log n).number
    at n h (no9 a) = rw (number_is log n (no9 a)) (p9 a)
    at n h (no10 r w) = rw (number_is log n (no10 r w)) (p10 r (untested w))
    at n h (no11 F a) = absurd (omega arith)
    at n h (no12 F a b) = rw (number_is log n (no12 F a b)) (p12 F (λ l O. none_with (history_of log) (laws log (tested F)) (length log) l b b O))
    at n h (none F a b) =
        rw (number_is log n (none F a b))
        (p0 (record { log_ok = F; order = (_, before_missing (history_of log) (laws log (tested F)) (length log) b) }))

-- and of bytes.
pub bytes_mean : (b : List ℕ) → BytesMean b (bytes_number b)
unfolding bytes_number
bytes_mean b = eq_ind (BytesMean b) (length b % 8) 0 _ _
    (λ e. record {
      says = say (rows_of b) (BytesSay b) (λ a. says_9 (λ B. a B.size)) (λ r a. says_10 (record { whole = e; size = r }) a)
          (λ F a. says_12 (record { whole = e; size = F.size }) F.formed a) (λ O. says_0 (record { whole = e; size = O.log_ok.size }) O);
      reports = λ B F. number_by_reports (rows_of b) (record { size = B.size; formed = F });
    })
    (λ n. record { says = says_9 (λ B. n B.whole); reports = λ B F. absurd (n B.whole) })

pub bytes_says : (b : List ℕ) (r : ℕ) → r ≡ bytes_number b → record { number : r ≡ bytes_number b; meaning : BytesMean b r }
bytes_says b r e = record { number = e; meaning = subst (λ (k : ℕ). BytesMean b k) (sym e) (bytes_mean b) }
