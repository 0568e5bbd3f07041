-- Question 10 looks at each processor's own rows in their order, so it may be asked of the strips.
use Prim.Native.Nat.{ℕ, suc, zero, ◌≤◌, ◌<◌}
use native.Mathlib.Omega.{arith}
use native.Mathlib.Decide.{ℕ_discrete}
use mathlib.Core.Path.{◌≡◌, refl, sym, ap, ◌∙◌}
use mathlib.Core.Logic.{◌≢◌}
use mathlib.Core.Bool.{Bool, true, false, not, ◌&&◌, and-true, and_assoc}
use mathlib.Core.List.{List, [], ◌∷◌, ◌++◌, append-nil}
use lib.Dec.{T, ltb}
use lib.ListN.{length, get_or, take}
use lib.Seq.{take-suc, take-length}
use borrow.Author.Tests.{eq-eqb, ne_eqb, lt-ltb}
use Rattle.words.specs.Choice.{pick}
use Rattle.words.proofs.Laws.Choice.{and_T, T-left, T-right}
use Rattle.history.specs.Rows.{processor_of, begins, processor_at}
use Rattle.history.specs.WellFormed.{head_ok, fields_ok, open_at, alternates, row_ok, all, well_formed}
use Rattle.history.proofs.Tests.{Tests, restated}
use Rattle.storing.specs.Gather.{strip, gather}
use Rattle.storing.specs.Strips.{strip_rows, log_of}
use Rattle.storing.proofs.Gathered.{strip_append, strip_hit, strip_miss, strip_in}
use Rattle.storing.proofs.Onward.{gather_nil}
use Rattle.storing.proofs.Back.{processor_small}
use Rattle.storing.proofs.Matching.{Matched}
use Rattle.storing.proofs.RoundTrip.{strips_back}

-- the row w passes, of n readers; b says whether its processor's row before it begins
unfoldable turn : ℕ → Bool → ℕ → Bool
turn n b w = fields_ok w n && pick (begins w) (not b) b

-- the rows of one processor pass, behind such a one
unfoldable turns : ℕ → Bool → List ℕ → Bool
turns n b [] = true
turns n b (w ∷ l) = turn n b w && turns n (begins w) l

-- whether the last of them begins, or b where there is none
unfoldable last_begins : Bool → List ℕ → Bool
last_begins b [] = b
last_begins b (w ∷ l) = last_begins (begins w) l

-- One row more.
last_more : (b : Bool) (l : List ℕ) (w : ℕ) → last_begins b (l ++ (w ∷ [])) ≡ begins w
unfolding last_begins
last_more b [] w = refl
last_more b (x ∷ l) w = last_more (begins x) l w

turns_more : (n : ℕ) (b : Bool) (l : List ℕ) (w : ℕ) → turns n b (l ++ (w ∷ [])) ≡ (turns n b l && turn n (last_begins b l) w)
unfolding turns last_begins
turns_more n b [] w = and-true (turn n b w)
turns_more n b (x ∷ l) w = rw (turns_more n (begins x) l w) (sym (and_assoc (turn n b x) (turns n (begins x) l) _))

-- alternating asks only whether an operation is open
alternates_is : (w k : ℕ) → alternates w k ≡ pick (begins w) (not (ltb 0 k)) (ltb 0 k)
unfolding alternates
alternates_is w zero = refl
alternates_is w (suc k) = rw (ne_eqb (suc k) 0 (omega arith), lt-ltb 0 (suc k) (omega arith))

-- The rows after row 0, counted from 0.
module _ (r : List ℕ) where
  -- processor p's rows among the first i
  own : ℕ → ℕ → List ℕ
  own p i = strip processor_of p (take i r)

  own_next : (p i : ℕ) → i < length r → own p (suc i) ≡ own p i ++ strip processor_of p (get_or r i 0 ∷ [])
  unfolding own
  own_next p i a = ap (strip processor_of p) (take-suc r i 0 a) ∙ strip_append processor_of p (take i r) (get_or r i 0 ∷ [])

  own_hit : (p i : ℕ) → i < length r → processor_of (get_or r i 0) ≡ p → own p (suc i) ≡ own p i ++ (get_or r i 0 ∷ [])
  unfolding strip
  own_hit p i a e = own_next p i a ∙ ap (own p i ++◌) (strip_hit processor_of p (get_or r i 0) [] e)

  own_miss : (p i : ℕ) → i < length r → processor_of (get_or r i 0) ≢ p → own p (suc i) ≡ own p i
  unfolding strip
  own_miss p i a e = own_next p i a ∙ ap (own p i ++◌) (strip_miss processor_of p (get_or r i 0) [] e) ∙ append-nil (own p i)

-- a begin row, or 0 for none: whether there is one
above_0 : (b : Bool) (k : ℕ) → ltb 0 (pick b (suc k) 0) ≡ b
above_0 true k = lt-ltb 0 (suc k) (omega arith)
above_0 false k = refl

-- The log of row 0, h, and those rows.
module _ (h : ℕ) (r : List ℕ) where
  -- an operation is open where the processor's last row begins
  open_own : (p i : ℕ) → i ≤ length r → ltb 0 (open_at (h ∷ r) p (suc i)) ≡ last_begins false (own r p i)
  unfolding open_at last_begins own strip processor_at
  open_own p zero a = refl
  open_own p (suc i) a = elim (ℕ_discrete (processor_of (get_or r i 0)) p) [
    | yes e ↦ rw (eq-eqb (processor_of (get_or r i 0)) p e, own_hit r p i (omega arith) e, last_more false (own r p i) (get_or r i 0))
        (above_0 (begins (get_or r i 0)) i)
    | no e ↦ rw (ne_eqb (processor_of (get_or r i 0)) p e, own_miss r p i (omega arith) e) (open_own p i (omega arith))
  ]

  -- a row's test looks at its processor's rows before it only
  row_turn : (p i : ℕ) → i < length r → processor_of (get_or r i 0) ≡ p
      → row_ok (h ∷ r) (suc i) ≡ turn (processor_of h) (last_begins false (own r p i)) (get_or r i 0)
  unfolding row_ok turn processor_at
  row_turn p i a e = rw (alternates_is, e, open_own p i (omega arith))

  -- so the test of those rows and of one more
  turns_hit : (p i : ℕ) → i < length r → processor_of (get_or r i 0) ≡ p
      → turns (processor_of h) false (own r p (suc i)) ≡ (turns (processor_of h) false (own r p i) && row_ok (h ∷ r) (suc i))
  turns_hit p i a e = rw (own_hit r p i a e, row_turn p i a e) (turns_more (processor_of h) false (own r p i) (get_or r i 0))

  -- the first i rows pass exactly if those of each processor among them do
  abbrev Rows : ℕ → Type 0
  Rows i = Tests (all (row_ok (h ∷ r)) (suc i)) ((p : ℕ) → p < 256 → T (turns (processor_of h) false (own r p i)))

  rows_next : (i : ℕ) → i < length r → Rows i → Rows (suc i)
  unfolding all
  rows_next i a I = record {
    only_if = λ t p c.
        let u = I.only_if (T-left (all (row_ok (h ∷ r)) (suc i)) _ t) p c in
        elim (ℕ_discrete q p) [
          | yes e ↦ rw (turns_hit p i a e) (and_T (turns (processor_of h) false (own r p i)) _ u (T-right (all (row_ok (h ∷ r)) (suc i)) _ t))
          | no e ↦ rw (own_miss r p i a e) u
        ];
    if = λ f. and_T (all (row_ok (h ∷ r)) (suc i)) _
        (I.if (λ p c. elim (ℕ_discrete q p) [
          | yes e ↦ T-left (turns (processor_of h) false (own r p i)) _ (rw (turns_hit p i a e) at (f p c))
          | no e ↦ rw (own_miss r p i a e) at (f p c)
        ]))
        (T-right (turns (processor_of h) false (own r q i)) _ (rw (turns_hit q i a refl) at (f q (processor_small (get_or r i 0)))));
  }
    where
      q : ℕ
      q = processor_of (get_or r i 0)

  rows_to : (i : ℕ) → i ≤ length r → Rows i
  unfolding all turns own strip
  rows_to zero a = record { only_if = λ _ p _. tt; if = λ _. tt }
  rows_to (suc i) a = rows_next i a (rows_to i (omega arith))

  formed_is : well_formed (h ∷ r) ≡ (head_ok h && all (row_ok (h ∷ r)) (suc (length r)))
  unfolding well_formed
  formed_is = rw (lt-ltb 0 (suc (length r)) (omega arith))

-- Rows s with the strips of r: the test of all of them is one of those strips.
rows_by : (h : ℕ) (r s : List ℕ) → ((p : ℕ) → p < 256 → strip processor_of p s ≡ strip processor_of p r)
    → Tests (all (row_ok (h ∷ s)) (suc (length s))) ((p : ℕ) → p < 256 → T (turns (processor_of h) false (strip processor_of p r)))
unfolding own
rows_by h r s e =
    restated (rows_to h s (length s) (omega arith)) (λ f p a. rw (← e p a, ← take-length s) (f p a)) (λ f p a. rw (take-length s, e p a) (f p a))

-- tests of one statement are equal
same_test : {a b : Bool} {P : Type 0} → Tests a P → Tests b P → a ≡ b
same_test {a = true} {b = true} x y = refl
same_test {a = true} {b = false} x y = absurd (y.if (x.only_if tt))
same_test {a = false} {b = true} x y = absurd (x.if (y.only_if tt))
same_test {a = false} {b = false} x y = refl

-- Question 10, of a log and of its strips' rows.
pub formed_strips : (log : List ℕ) → well_formed (strip_rows log) ≡ well_formed log
unfolding strip_rows
formed_strips [] = rw (gather_nil processor_of 256)
formed_strips (h ∷ r) =
    let g = gather processor_of 256 r in
    formed_is h g
    ∙ ap (head_ok h &&◌) (same_test (rows_by h r g (λ p a. strip_in processor_of p 256 r a)) (rows_by h r r (λ p a. refl)))
    ∙ sym (formed_is h r)

-- and of strips and of the log they give
pub formed_back : (bytes rows : List ℕ) → Matched bytes rows → ((k : ℕ) → k < length bytes → get_or bytes k 0 < 256)
    → well_formed rows ≡ well_formed (log_of bytes rows)
formed_back bytes rows M small = ap well_formed (sym (strips_back bytes rows M small)) ∙ formed_strips (log_of bytes rows)
