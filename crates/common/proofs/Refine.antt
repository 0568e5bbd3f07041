-- A register against its book: the relation, and each call.
use Rattle.std.specs.Prelude.{Ok}
use Prim.Native.Nat.{ℕ, suc, ◌+◌, ◌-◌, ◌≤◌, ◌<◌}
use mathlib.Core.Path.{◌≡◌, refl, sym, subst, ap, ◌∙◌, fun_ext}
use mathlib.Core.List.{List, [], ◌∷◌, ◌++◌}
use mathlib.Core.Bool.{Bool, true, false, not}
use native.Mathlib.Omega.{arith}
use lib.ListN.{length, set, drop}
use lib.Dec.{leb}
use borrow.Author.Tests.{leb-true}
use Rattle.words.specs.Choice.{pick}
use Rattle.words.specs.Row.{row_of}
use Rattle.words.specs.Update.{upd}
use Rattle.words.proofs.Laws.Choice.{pick_ind, pick_two, pick_both, pick_yes, pick_no, eq_two, left, right, never}
use Rattle.words.proofs.Laws.Counting.{count_same}
use Rattle.words.proofs.Laws.Update.{upd_same, upd_other, upd_own}
use Rattle.common.specs.Calls.{Call, write, read, step, retire}
use Rattle.common.specs.declared.Done.TheVariants.{Accepted, Moved}
use Rattle.common.specs.declared.Refusal.{Refusal}
use Rattle.common.specs.declared.Refusal.TheVariants.{Range, Processor, Retired, Busy, Full, Idle, Spent}
use Rattle.common.specs.declared.Head.{Head}
use Rattle.common.specs.declared.Writer.{Writer}
use Rattle.common.specs.declared.Reader.{Reader}
use Rattle.common.specs.declared.State.{State}
use Rattle.common.specs.Head.{is_processor, has_room, head_with, began, freed}
use Rattle.common.specs.State.{reader_at, is_retired, still_open, as_counted, open_in, with_writer, with_reader, writer_begins, reader_begins, retires, value_in}
use Rattle.common.specs.Rules.{WriteStep, ReadStep, Rules, state_ok}
use Rattle.common.specs.SetUp.{Outcome, refused}
use Rattle.common.specs.Register.{as_processor, begin_write_of, begin_read_of, step_writer, step_reader, step_of, retire_of, call_of}
use Rattle.common.specs.Book.{Operation, idle, open_with, is_open, Model, Turn, Telling, Told, open_at, open_count, declined, begun, of_processor, begins, begins_write, moves_write, moves_read, withdrawn, told}
use Rattle.common.proofs.LogRows.{rows_rel, row_same}
use Rattle.common.proofs.Range.{range_test, reader_ok_lem, reader_room, writer_room}
use Rattle.common.proofs.Replaced.{retired_at, each_reader, each_retired}
use Rattle.common.proofs.Keep.{Good}
use Rattle.common.proofs.Lawful.{Lawful, WTurnRel, RTurnRel, Simulates}

module _ {Stamp Cell : Type 0} (R : Rules) (B : Telling Stamp Cell) (WIs : ℕ → Writer → Stamp → Operation Cell → Type 0)
    (RIs : ℕ → Reader → Stamp → Operation Cell → Type 0) where
  -- X: the cells behind the table's; L: the log as set-up left it.
  pub record Rel (X L : List ℕ) (s : State) (t l : List ℕ) (b : Model Stamp Cell) : Type 0 where
    pub table_is : t ≡ b.table ++ X
    pub size_is : length b.table ≡ R.cells s.head.n
    pub used_is : s.head.used ≡ length b.rows
    pub log_is : l ≡ b.rows ++ drop (length b.rows) L
    pub writer_is : WIs s.head.n s.writer (b.stamp 0) (b.op 0)
    pub readers_are : (p : ℕ) → 1 ≤ p → p ≤ s.head.n → RIs s.head.n (reader_at s (p - 1)) (b.stamp p) (b.op p)
    pub retired_are : (p : ℕ) → p ≤ s.head.n → is_retired s p ≡ b.retired p

  pub record CallRel (X L : List ℕ) (o : Outcome) (x : Told Stamp Cell) : Type 0 where
    pub answer_is : o.answer ≡ x.answer
    pub rel : Rel X L o.state o.table o.log x.model

  module _ (W : Lawful R) (S : Simulates R B WIs RIs) (X L : List ℕ) (s : State) (t l : List ℕ) (b : Model Stamp Cell) (g : Good R s (length t) (length l)) (A : Rel X L s t l b)
      (full : length L ≡ s.head.rows) where
    abbrev n : ℕ
    n = s.head.n

    active_w : s.writer.active ≡ is_open (b.op 0)
    active_w = S.open_w n s.writer (b.stamp 0) (b.op 0) A.writer_is

    active_r : (p : ℕ) → 1 ≤ p → p ≤ n → (reader_at s (p - 1)).active ≡ is_open (b.op p)
    active_r p h1 h2 = S.open_r n _ (b.stamp p) (b.op p) (A.readers_are p h1 h2)

    -- what counts as open of a reader
    counts_r : (p : ℕ) → 1 ≤ p → p ≤ n → (as_counted (reader_at s (p - 1))).active ≡ open_at b p
    counts_r p h1 h2 =
        let gone : (reader_at s (p - 1)).retired ≡ b.retired p = sym (retired_at s p (omega arith)) ∙ A.retired_are p h2 in
        let active = active_r p h1 h2 in
        λ i. still_open (gone i) (active i)

    -- the number of open operations, in the state and in the book
    pub open_is : open_in s ≡ open_count n b
    open_is = rw (
      active_w,
      count_same n (λ i. (as_counted (reader_at s i)).active) (λ i. open_at b (suc i))
          (λ i h. let e : suc i - 1 ≡ i = omega arith in rw e at (counts_r (suc i) (omega arith) (omega arith))),
    )

    -- Rows with or without one more.
    added : (a : Bool) (x : ℕ) → (a ≡ false → s.head.used < s.head.rows)
        → (pick a s.head.used (s.head.used + 1) ≡ length (pick a b.rows (b.rows ++ x ∷ [])))
        × (pick a l (set l s.head.used x) ≡ pick a b.rows (b.rows ++ x ∷ []) ++ drop (length (pick a b.rows (b.rows ++ x ∷ []))) L)
    added a x h = rows_rel L l b.rows s.head.used A.used_is A.log_is a x (λ e. omega (arith, h e))

    -- The book with another table, a row more or not, and processor p's stamp and operation.
    abbrev book : ℕ → List ℕ → Bool → ℕ → Stamp → Operation Cell → Model Stamp Cell
    book p T' a x st q = record { table = T'; rows = pick a b.rows (b.rows ++ x ∷ []); stamp = upd b.stamp p st; op = upd b.op p q; retired = b.retired }

    -- The head with a row more or not, and any number of open operations.
    abbrev after : Bool → ℕ → Head
    after a opens = head_with s.head (pick a s.head.used (s.head.used + 1)) opens

    -- The writer, and nothing else of the state and of the book's processors, is replaced.
    module _ (w : Writer) (a : Bool) (opens x : ℕ) (room : a ≡ false → s.head.used < s.head.rows) (t' T' : List ℕ) (te : t' ≡ T' ++ X) (sz : length T' ≡ R.cells n)
        (st : Stamp) (q : Operation Cell) (k : WIs n w st q) where
      put_w : Rel X L (with_writer s w (after a opens)) t' (pick a l (set l s.head.used x)) (book 0 T' a x st q)
      put_w = let y = added a x room in record {
        table_is = te;
        size_is = sz;
        used_is = y.0;
        log_is = y.1;
        writer_is = rw (upd_same b.stamp 0 st, upd_same b.op 0 q) k;
        readers_are = λ p h1 h2. rw (upd_other b.stamp 0 st p (omega arith), upd_other b.op 0 q p (omega arith)) (A.readers_are p h1 h2);
        retired_are = A.retired_are;
      }

    place : (p : ℕ) → 1 ≤ p → p ≤ n → p - 1 < length s.readers
    place p p1 pn = omega (arith, g.sized, g.ok.head_good.n_high)

    -- The same of reader p, which is as retired as it was.
    module _ (p : ℕ) (p1 : 1 ≤ p) (pn : p ≤ n) (r : Reader) (a : Bool) (opens x : ℕ) (room : a ≡ false → s.head.used < s.head.rows) (t' T' : List ℕ) (te : t' ≡ T' ++ X)
        (sz : length T' ≡ R.cells n) (st : Stamp) (q : Operation Cell) (k : RIs n r st q) (kept : r.retired ≡ (reader_at s (p - 1)).retired) where
      put_r : Rel X L (with_reader s (p - 1) r (after a opens)) t' (pick a l (set l s.head.used x)) (book p T' a x st q)
      put_r = let y = added a x room in record {
        table_is = te;
        size_is = sz;
        used_is = y.0;
        log_is = y.1;
        writer_is = rw (upd_other b.stamp p st 0 (omega arith), upd_other b.op p q 0 (omega arith)) A.writer_is;
        readers_are =
            each_reader s p r (after a opens) p1 (place p p1 pn) (λ j y. j ≤ n → RIs n y (upd b.stamp p st j) (upd b.op p q j))
            (λ _. rw (upd_same b.stamp p st, upd_same b.op p q) k)
            (λ j e j1 h. rw (upd_other b.stamp p st j e, upd_other b.op p q j e) (A.readers_are j j1 h));
        retired_are = each_retired s p r (after a opens) p1 (place p p1 pn) b.retired n (kept ∙ sym (retired_at s p (omega arith)) ∙ A.retired_are p pn) (λ j _. A.retired_are j);
      }

    abbrev C : Outcome → Told Stamp Cell → Type 0
    C = CallRel X L

    same : (k : Refusal) → C (refused k s t l) (declined k b)
    same k = record { answer_is = refl; rel = A }

    step_w : (q : Operation Cell) → b.op 0 ≡ q → C (pick s.writer.active (step_writer R s t l) (refused Idle s t l)) (moves_write B n b q)
    unfolding step_writer
    step_w idle e = pick_ind (λ (o : Outcome). C o (declined Idle b)) s.writer.active _ _ (λ a. never (sym a ∙ active_w ∙ ap is_open e)) (λ _. same Idle)
    step_w (open_with v m cells) e = pick_ind (λ (o : Outcome). C o (moves_write B n b (open_with v m cells))) s.writer.active _ _ at (λ a. never (sym (active_w ∙ ap is_open e) ∙ a))
      where
        K : WIs n s.writer (b.stamp 0) (open_with v m cells)
        K = subst (WIs n s.writer (b.stamp 0)) e A.writer_is

        x : Turn Stamp Cell
        x = B.write_turn n b.table (b.stamp 0) v m cells

        T : WTurnRel R B WIs RIs n X (R.write_step n s.writer t) x
        T = subst (λ (y : List ℕ). WTurnRel R B WIs RIs n X (R.write_step n s.writer y) x) (sym A.table_is)
            (S.turn_w n g.ok.head_good.n_low g.ok.head_good.n_high b.table X A.size_is s.writer (b.stamp 0) v m cells g.ok.writer_passes K)

        q : WriteStep
        q = R.write_step n s.writer t

        at : s.writer.active ≡ true → C (step_writer R s t l) (moves_write B n b (open_with v m cells))
        at a = record {
          answer_is = ap (λ (j : ℕ). Ok (Moved (j + 1))) (S.moved_w n s.writer (b.stamp 0) v m cells K);
          rel =
              subst (λ (y : ℕ). Rel X L (step_writer R s t l).state q.table (step_writer R s t l).log (book 0 x.table (is_open x.op) (row_of 2 0 y) x.stamp x.op))
              (sym (S.write_value n b.table (b.stamp 0) v m cells))
              (subst (λ (c : Bool). Rel X L (step_writer R s t l).state q.table (step_writer R s t l).log (book 0 x.table c (row_of 2 0 0) x.stamp x.op))
              (S.open_w n q.writer x.stamp x.op T.is)
              (put_w q.writer q.writer.active _ (row_of 2 0 0) (λ _. writer_room s R _ _ g.ok a) q.table x.table T.table_is T.size_is x.stamp x.op T.is));
        }

    module _ (p : ℕ) (p1 : 1 ≤ p) (pn : p ≤ n) (free : is_retired s p ≡ false) where
      abbrev r₀ : Reader
      r₀ = reader_at s (p - 1)

      step_r : (q : Operation Cell) → b.op p ≡ q → C (pick r₀.active (step_reader R s t l p) (refused Idle s t l)) (moves_read B n b p q)
      unfolding step_reader
      step_r idle e = pick_ind (λ (o : Outcome). C o (declined Idle b)) r₀.active _ _ (λ a. never (sym a ∙ active_r p p1 pn ∙ ap is_open e)) (λ _. same Idle)
      step_r (open_with v m cells) e = pick_ind (λ (o : Outcome). C o (moves_read B n b p (open_with v m cells))) r₀.active _ _ at (λ a. never (sym (active_r p p1 pn ∙ ap is_open e) ∙ a))
        where
          K : RIs n r₀ (b.stamp p) (open_with v m cells)
          K = subst (RIs n r₀ (b.stamp p)) e (A.readers_are p p1 pn)

          x : Turn Stamp Cell
          x = B.read_turn n p b.table (b.stamp p) m cells

          T : RTurnRel R B WIs RIs n X (R.read_step n p r₀ t) x
          T = subst (λ (y : List ℕ). RTurnRel R B WIs RIs n X (R.read_step n p r₀ y) x) (sym A.table_is)
              (S.turn_r n p g.ok.head_good.n_high p1 pn b.table X A.size_is r₀ (b.stamp p) v m cells (reader_ok_lem s p p1 free pn R _ _ g.ok) K)

          q : ReadStep
          q = R.read_step n p r₀ t

          still : q.reader.active ≡ is_open x.op
          still = S.open_r n q.reader x.stamp x.op T.is

          at : r₀.active ≡ true → C (step_reader R s t l p) (moves_read B n b p (open_with v m cells))
          at a = record {
            answer_is = ap (λ (j : ℕ). Ok (Moved (j + 1))) (S.moved_r n r₀ (b.stamp p) v m cells K);
            rel =
                subst (λ (k : List ℕ). Rel X L (step_reader R s t l p).state q.table k (book p x.table (is_open x.op) (row_of 4 p x.value) x.stamp x.op))
                (sym (row_same q.reader.active (value_in q.reader.result) x.value (λ e. T.value_is (sym still ∙ e)) l (λ y. set l s.head.used (row_of 4 p y))))
                (subst (λ (c : Bool). Rel X L (step_reader R s t l p).state q.table (pick q.reader.active l (set l s.head.used (row_of 4 p x.value))) (book p x.table c (row_of 4 p x.value) x.stamp x.op))
                still
                (put_r p p1 pn q.reader q.reader.active _ (row_of 4 p x.value) (λ _. reader_room s p p1 free pn R _ _ g.ok a) q.table x.table T.table_is T.size_is x.stamp x.op T.is (W.retired_stays n p r₀ t)));
          }

    -- What is asked of a call by processor p.
    as_processor_lem : (least p : ℕ) (o : Outcome) (x : Told Stamp Cell) → (least ≤ p → p ≤ n → is_retired s p ≡ false → C o x) → C (as_processor s t l least p o) (of_processor n b least p x)
    as_processor_lem least p o x f =
        pick_two C (is_processor s.head least p) _ _ _ _
        (λ e. let pn = leb-true p n (right (leb least p) (leb p n) e) in
        pick_both C _ _ _ _ _ _ (A.retired_are p pn) (λ _. same Retired) (f (leb-true least p (left (leb least p) (leb p n) e)) pn)) (λ _. same Processor)

    passes : state_ok R s (length t) (length l) ≡ true
    passes = range_test R s (length t) (length l) g.ok

    step_rel : (p : ℕ) → C (step_of R s t l p) (told B n s.head.rows b (step p))
    unfolding step_of told
    step_rel p = rw (passes, pick_yes true _ (refused Range s t l) refl)
        (as_processor_lem 0 p _ _ λ _ pn free. eq_two C p 0 _ _ _ _ (λ _. step_w (b.op 0) refl) (λ ne. step_r p (omega arith) pn free (b.op p) refl))

    room_is : has_room s.head ≡ leb (length b.rows + open_count n b + 2) s.head.rows
    room_is = ap (λ (k : ℕ). leb k s.head.rows) (omega (arith, A.used_is, g.ok.head_good.opens_is, open_is))

    idle_is : (p : ℕ) (q : Operation Cell) → b.op p ≡ q → is_open (b.op p) ≡ false → b.op p ≡ idle
    idle_is p idle e f = e
    idle_is p (open_with u m cells) e f = never (sym (ap is_open e) ∙ f)

    -- The book behind a begin: no stamp has changed.
    begun_is : (p kind v : ℕ) (s' : State) (l' : List ℕ) → Rel X L s' t l' (book p b.table false (row_of kind p v) (b.stamp p) (open_with v 0 []))
        → Rel X L s' t l' (begun b p kind v).model
    begun_is p kind v s' l' =
        subst
        (λ (st : ℕ → Stamp). Rel X L s' t l' (record { table = b.table; rows = b.rows ++ row_of kind p v ∷ []; stamp = st; op = upd b.op p (open_with v 0 []); retired = b.retired }))
        (fun_ext (upd_own b.stamp p))

    write_rel : (v : ℕ) → C (begin_write_of R s t l v) (told B n s.head.rows b (write v))
    unfolding begin_write_of told begins
    write_rel v = rw (passes, pick_yes true _ (refused Range s t l) refl) (pick_both C _ _ _ _ _ _ active_w (λ _. same Busy)
        (λ a. pick_both C _ _ _ _ _ _ room_is (λ h. may (R.may_write s.writer) refl a (leb-true _ _ h)) (λ _. same Full)))
      where
        accepted : Outcome
        accepted = record { answer = Ok Accepted; state = with_writer s (writer_begins s.writer v) (began s.head); table = t; log = set l s.head.used (row_of 1 0 v) }

        opens : s.head.used + s.head.opens + 2 ≤ s.head.rows → s.writer.active ≡ false → R.may_write s.writer ≡ true
            → Rel X L accepted.state t accepted.log (begun b 0 1 v).model
        opens h a q =
            begun_is 0 1 v accepted.state accepted.log
            (put_w (writer_begins s.writer v) false _ (row_of 1 0 v) (λ _. omega arith) t b.table A.table_is A.size_is (b.stamp 0) (open_with v 0 [])
            (S.begin_w n v s.writer (b.stamp 0) g.ok.head_good.n_low (subst (WIs n s.writer (b.stamp 0)) (idle_is 0 (b.op 0) refl (sym active_w ∙ a)) A.writer_is) q))

        -- the book's stamp is spent exactly if the writer may not write
        spent : (y : Bool) → R.may_write s.writer ≡ y → B.spent (b.stamp 0) ≡ not y
        spent y e = S.spent_is n s.writer (b.stamp 0) (b.op 0) A.writer_is ∙ ap not e

        may : (y : Bool) → R.may_write s.writer ≡ y → s.writer.active ≡ false → s.head.used + s.head.opens + 2 ≤ s.head.rows
            → C (pick y accepted (refused Spent s t l)) (begins_write B b v)
        may true e a h = rw (pick_no (B.spent (b.stamp 0)) (declined Spent b) (begun b 0 1 v) (spent true e)) (record { answer_is = refl; rel = opens h a e })
        may false e a h = rw (pick_yes (B.spent (b.stamp 0)) (declined Spent b) (begun b 0 1 v) (spent false e)) (same Spent)

    read_rel : (p : ℕ) → C (begin_read_of R s t l p) (told B n s.head.rows b (read p))
    unfolding begin_read_of told begins
    read_rel p = rw (passes, pick_yes true _ (refused Range s t l) refl) (as_processor_lem 1 p _ _ λ p1 pn _.
        pick_both C _ _ _ _ _ _ (active_r p p1 pn) (λ _. same Busy)
        (λ a. pick_both C _ _ _ _ _ _ room_is (λ h. record { answer_is = refl; rel = opens p1 pn a (leb-true _ _ h) }) (λ _. same Full)))
      where
        next : Reader
        next = reader_begins (reader_at s (p - 1))

        opens : 1 ≤ p → p ≤ n → (reader_at s (p - 1)).active ≡ false → s.head.used + s.head.opens + 2 ≤ s.head.rows
            → Rel X L (with_reader s (p - 1) next (began s.head)) t (set l s.head.used (row_of 3 p 0)) (begun b p 3 0).model
        opens p1 pn a h =
            begun_is p 3 0 _ _
            (put_r p p1 pn next false _ (row_of 3 p 0) (λ _. omega arith) t b.table A.table_is A.size_is (b.stamp p) (open_with 0 0 [])
            (S.begin_r n (reader_at s (p - 1)) (b.stamp p) g.ok.head_good.n_low
            (subst (RIs n (reader_at s (p - 1)) (b.stamp p)) (idle_is p (b.op p) refl (sym (active_r p p1 pn) ∙ a)) (A.readers_are p p1 pn))) refl)

    retire_rel : (p : ℕ) → C (retire_of R s t l p) (told B n s.head.rows b (retire p))
    unfolding retire_of told
    retire_rel p = rw (passes, pick_yes true _ (refused Range s t l) refl) (as_processor_lem 1 p _ _ λ p1 pn _. record { answer_is = refl; rel = gone p1 pn })
      where
        next : Reader
        next = retires (reader_at s (p - 1))

        h' : Head
        h' = freed s.head (reader_at s (p - 1)).active

        gone : 1 ≤ p → p ≤ n → Rel X L (with_reader s (p - 1) next h') t l (withdrawn b p)
        gone p1 pn = record {
          table_is = A.table_is;
          size_is = A.size_is;
          used_is = A.used_is;
          log_is = A.log_is;
          writer_is = A.writer_is;
          readers_are =
              each_reader s p next h' p1 (place p p1 pn) (λ j y. j ≤ n → RIs n y (b.stamp j) (b.op j))
              (λ _. S.retire_r n (reader_at s (p - 1)) (b.stamp p) (b.op p) (A.readers_are p p1 pn)) (λ j _ j1. A.readers_are j j1);
          retired_are =
              each_retired s p next h' p1 (place p p1 pn) (upd b.retired p true) n (sym (upd_same b.retired p true))
              (λ j e h. A.retired_are j h ∙ sym (upd_other b.retired p true j e));
        }

    pub call_rel : (c : Call) → C (call_of R s t l c) (told B n s.head.rows b c)
    unfolding call_of
    call_rel (write v) = write_rel v
    call_rel (read p) = read_rel p
    call_rel (step p) = step_rel p
    call_rel (retire p) = retire_rel p
