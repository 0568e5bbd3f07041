-- A state that passed question 4 passes it again after the call.
use Prim.Native.Nat.{ℕ, ◌+◌, ◌-◌, ◌≤◌, ◌<◌}
use mathlib.Core.Path.{◌≡◌, refl, sym, subst, ap, ◌∙◌}
use mathlib.Core.List.{List}
use mathlib.Core.Bool.{Bool, true, false}
use native.Mathlib.Omega.{arith}
use lib.ListN.{length, length-set}
use Rattle.words.specs.Counting.{one}
use Rattle.words.proofs.Laws.Choice.{le_ind, eq_ind, pick_ind}
use Rattle.words.proofs.Laws.Counting.{count_one}
use Rattle.common.specs.declared.Head.{Head}
use Rattle.common.specs.declared.Writer.{Writer}
use Rattle.common.specs.declared.Reader.{Reader}
use Rattle.common.specs.declared.State.{State}
use Rattle.common.specs.Calls.{Call, write, read, step, retire}
use Rattle.common.specs.Effects.{AtMostOne, as_it_was, one_set, Passes}
use Rattle.common.specs.Head.{head_with}
use Rattle.common.specs.State.{reader_at, is_retired, as_counted, open_in, with_writer, with_reader, writer_begins, reader_begins, retires}
use Rattle.common.specs.Rules.{Rules, state_ok, InRange}
use Rattle.common.specs.SetUp.{Outcome}
use Rattle.common.specs.Register.{begin_write_of, begin_read_of, step_writer, step_reader, step_of, retire_of, call_of}
use Rattle.common.proofs.Effects.{retires_still}
use Rattle.common.proofs.HeadLaws.{head_moves, head_steps}
use Rattle.common.proofs.LogRows.{pick_length}
use Rattle.common.proofs.Lawful.{Lawful}
use Rattle.common.proofs.Replaced.{retired_at, reader_own, reader_other, each_place}
use Rattle.common.proofs.Asked.{as_processor_lem, counts}
use Rattle.common.proofs.Range.{test_range, range_test, stands, reader_ok_lem, reader_open, writer_open}

-- A list with at most one place set has its length.
pub one_length : (b : ℕ) (l m : List ℕ) → AtMostOne b l m → length m ≡ length l
one_length b l m as_it_was = refl
one_length b l m (one_set k w h) = length-set l k w

-- What is known of a state with its buffers.
pub record Good (R : Rules) (s : State) (cells log : ℕ) : Type 0 where
  pub sized : length s.readers ≡ 16
  pub ok : InRange R s cells log

module _ (R : Rules) (s : State) (cells log : ℕ) (g : Good R s cells log) where
  -- The writer is replaced, a row added or not, and the number of open operations goes with its write.
  with_writer_lem : (w : Writer) (used opens : ℕ) → R.writer_ok s.head.n w ≡ true → s.head.used ≤ used
      → opens + one s.writer.active ≡ s.head.opens + one w.active → used + opens ≤ s.head.rows → Good R (with_writer s w (head_with s.head used opens)) cells log
  with_writer_lem w used opens k l e f = record {
    sized = g.sized;
    ok = record {
      head_good = head_moves _ s.head (open_in s) cells log used opens _ l (omega (arith, e, g.ok.head_good.opens_is)) f g.ok.head_good;
      writer_passes = k;
      readers_pass = g.ok.readers_pass;
    };
  }

  -- The same of a reader.
  module _ (i : ℕ) (r : Reader) (h : i < s.head.n) where
    place : i < length s.readers
    place = omega (arith, g.sized, g.ok.head_good.n_high)

    -- the operations that count as open, in the old state and in the new one
    opens_with : (h' : Head) → h'.n ≡ s.head.n
        → open_in (with_reader s i r h') + one (as_counted (reader_at s i)).active ≡ open_in s + one (as_counted r).active
    opens_with h' e =
        let f : ℕ → Bool = λ j. (as_counted (reader_at (with_reader s i r h') j)).active in
        rw e
        (omega (
          arith,
          count_one s.head.n f (λ j. (as_counted (reader_at s j)).active) i h (λ j e. ap (λ (x : Reader). (as_counted x).active) (reader_other s i r h' j e)),
          ap (λ (x : Reader). one (as_counted x).active) (reader_own s i r h' place),
        ))

    with_reader_lem : (used opens : ℕ) → R.reader_ok s.head.n (as_counted r) ≡ true → s.head.used ≤ used
        → opens + one (as_counted (reader_at s i)).active ≡ s.head.opens + one (as_counted r).active → used + opens ≤ s.head.rows
        → Good R (with_reader s i r (head_with s.head used opens)) cells log
    with_reader_lem used opens k l e f = record {
      sized = simp length-set g.sized;
      ok = record {
        head_good = head_moves _ s.head (open_in s) cells log used opens _ l (omega (arith, e, g.ok.head_good.opens_is, opens_with (head_with s.head used opens) refl)) f g.ok.head_good;
        writer_passes = g.ok.writer_passes;
        readers_pass =
            each_place s i r (head_with s.head used opens) place (λ j x. j < s.head.n → R.reader_ok s.head.n (as_counted x) ≡ true) (λ _. k)
            (λ j _. g.ok.readers_pass j);
      };
    }

-- After a call.
pub record Stays (R : Rules) (s : State) (t l : List ℕ) (o : Outcome) : Type 0 where
  pub n_same : o.state.head.n ≡ s.head.n
  pub cells_same : length o.table ≡ length t
  pub rows_same : length o.log ≡ length l
  pub good : Good R o.state (length t) (length l)

module _ (R : Rules) (W : Lawful R) (s : State) (t l : List ℕ) (g : Good R s (length t) (length l)) where
  abbrev St : Outcome → Type 0
  St = Stays R s t l

  abbrev n : ℕ
  n = s.head.n

  same : (o : Outcome) → o.state ≡ s → o.table ≡ t → o.log ≡ l → St o
  same o a b c = record {
    n_same = ap (λ (x : State). x.head.n) a;
    cells_same = ap length b;
    rows_same = ap length c;
    good = subst (λ (x : State). Good R x (length t) (length l)) (sym a) g;
  }

  write_stays : (v : ℕ) → St (begin_write_of R s t l v)
  unfolding begin_write_of
  write_stays v = pick_ind St (state_ok R s (length t) (length l)) _ _ (λ _. pick_ind St s.writer.active _ _ (λ _. same _ refl refl refl)
      (λ a. le_ind St (s.head.used + s.head.opens + 2) s.head.rows _ _
      (λ h. pick_ind St (R.may_write s.writer) _ _
      (λ q. record {
        n_same = refl;
        cells_same = refl;
        rows_same = simp length-set;
        good = with_writer_lem R s _ _ g (writer_begins s.writer v) _ _ (W.writer_begins_lem n v s.writer g.ok.head_good.n_low g.ok.writer_passes q) (omega arith)
            (omega (arith, ap one a)) (omega arith);
      })
      (λ _. same _ refl refl refl))
      (λ _. same _ refl refl refl))) (λ _. same _ refl refl refl)

  -- Reader p, which is not retired, is replaced by one that is not either.
  goes_on : (p : ℕ) → 1 ≤ p → p ≤ s.head.n → is_retired s p ≡ false → (r : Reader) (used opens : ℕ) → r.retired ≡ (reader_at s (p - 1)).retired
      → R.reader_ok s.head.n r ≡ true → s.head.used ≤ used
      → opens + one (reader_at s (p - 1)).active ≡ s.head.opens + one r.active → used + opens ≤ s.head.rows
      → Good R (with_reader s (p - 1) r (head_with s.head used opens)) (length t) (length l)
  goes_on p p1 pn free r used opens e k h o f =
      let old = stands s p p1 free in
      let new = counts r (e ∙ sym (retired_at s p (omega arith)) ∙ free) in
      with_reader_lem R s _ _ g (p - 1) r (omega arith) used opens (subst (λ (q : Reader). R.reader_ok s.head.n q ≡ true) (sym new) k) h
      (omega (arith, o, ap (λ (q : Reader). one q.active) new, ap (λ (q : Reader). one q.active) old)) f

  read_stays : (p : ℕ) → St (begin_read_of R s t l p)
  unfolding begin_read_of
  read_stays p = pick_ind St (state_ok R s (length t) (length l)) _ _ (λ _. as_processor_lem St s t l (same _ refl refl refl) (same _ refl refl refl) 1 p _ λ p1 pn free.
      pick_ind St (reader_at s (p - 1)).active _ _ (λ _. same _ refl refl refl)
      (λ a. le_ind St (s.head.used + s.head.opens + 2) s.head.rows _ _
      (λ h. record {
        n_same = refl;
        cells_same = refl;
        rows_same = simp length-set;
        good = goes_on p p1 pn free (reader_begins (reader_at s (p - 1))) _ _ refl
            (W.reader_begins_lem n (reader_at s (p - 1)) g.ok.head_good.n_low (reader_ok_lem s p p1 free pn R _ _ g.ok)) (omega arith) (omega (arith, ap one a)) (omega arith);
      })
      (λ _. same _ refl refl refl))) (λ _. same _ refl refl refl)

  step_w_stays : s.writer.active ≡ true → St (step_writer R s t l)
  unfolding step_writer
  step_w_stays a =
      let q = R.write_step n s.writer t in
      let f = head_steps s.head s.writer.active q.writer.active g.ok.head_good.room a (writer_open s R _ _ g.ok) in
      record {
        n_same = refl;
        cells_same = one_length (R.cells n) t q.table (W.write_cell n s.writer t g.ok.head_good.n_low g.ok.writer_passes a);
        rows_same = pick_length l q.writer.active _ _;
        good = with_writer_lem R s _ _ g q.writer _ _ (W.writer_turn n s.writer t g.ok.head_good.n_low g.ok.head_good.n_high g.ok.writer_passes a) f.0 f.1 f.2;
      }

  step_r_stays : (p : ℕ) → 1 ≤ p → p ≤ n → is_retired s p ≡ false → (reader_at s (p - 1)).active ≡ true → St (step_reader R s t l p)
  unfolding step_reader
  step_r_stays p h1 h2 free a =
      let r = reader_at s (p - 1) in
      let q = R.read_step n p r t in
      let k = reader_ok_lem s p h1 free h2 R _ _ g.ok in
      let f = head_steps s.head r.active q.reader.active g.ok.head_good.room a (reader_open s p h1 free h2 R _ _ g.ok) in
      record {
        n_same = refl;
        cells_same = one_length (R.cells n) t q.table (W.read_cell n p r t h1 h2 k a);
        rows_same = pick_length l q.reader.active _ _;
        good = goes_on p h1 h2 free q.reader _ _ (W.retired_stays n p r t) (W.reader_turn n p r t g.ok.head_good.n_low g.ok.head_good.n_high k a) f.0 f.1 f.2;
      }

  step_stays : (p : ℕ) → St (step_of R s t l p)
  unfolding step_of
  step_stays p = pick_ind St (state_ok R s (length t) (length l)) _ _
      (λ _. as_processor_lem St s t l (same _ refl refl refl) (same _ refl refl refl) 0 p _ λ _ pn free.
      eq_ind St p 0 _ _ (λ _. pick_ind St s.writer.active _ _ step_w_stays (λ _. same _ refl refl refl))
      (λ ne. pick_ind St (reader_at s (p - 1)).active _ _ (step_r_stays p (omega arith) pn free) (λ _. same _ refl refl refl)))
      (λ _. same _ refl refl refl)

  -- A retirement leaves the buffers as they are, and of the state its operation counts no more.
  abbrev After : Outcome → Type 0
  After o = (o.state.head.n ≡ n) × Good R o.state (length t) (length l)

  retires_good : (p : ℕ) → After (retire_of R s t l p)
  unfolding retire_of
  retires_good p = pick_ind After (state_ok R s (length t) (length l)) _ _
      (λ _. as_processor_lem After s t l (refl, g) (refl, g) 1 p _ λ p1 pn free. (
        refl,
        with_reader_lem R s _ _ g (p - 1) (retires (reader_at s (p - 1))) (omega arith) _ _
            (W.reader_retires n (reader_at s (p - 1)) (reader_ok_lem s p p1 free pn R _ _ g.ok)) (omega arith)
            (omega (arith, reader_open s p p1 free pn R _ _ g.ok, ap (λ (r : Reader). one r.active) (stands s p p1 free)))
            (omega (arith, g.ok.head_good.room)),
      ))
      (λ _. (refl, g))

  retire_stays : (p : ℕ) → St (retire_of R s t l p)
  retire_stays p =
      let k = retires_good p in
      let still = retires_still R s t l p in
      record { n_same = k.0; cells_same = ap length still.0; rows_same = ap length still.1; good = k.1 }

  pub call_stays : (c : Call) → St (call_of R s t l c)
  unfolding call_of
  call_stays (write v) = write_stays v
  call_stays (read p) = read_stays p
  call_stays (step p) = step_stays p
  call_stays (retire p) = retire_stays p

-- "a state that passed 4 passes it again after the call", and its number of open operations is the count
pub passes_again : (R : Rules) → Lawful R → (s : State) (t l : List ℕ) (c : Call) → length s.readers ≡ 16 → state_ok R s (length t) (length l) ≡ true
    → Passes R (call_of R s t l c)
passes_again R W s t l c z e =
    let k = call_stays R W s t l (record { sized = z; ok = test_range R s _ _ e }) c in
    record { is_in_range = rw (k.cells_same, k.rows_same) (range_test R _ _ _ k.good.ok); opens_is = k.good.ok.head_good.opens_is }
