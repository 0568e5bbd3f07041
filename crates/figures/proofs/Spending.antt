-- Each call's words, against what its operations cost; and so those of a list.
use Rattle.std.specs.Prelude.{Ok}
use Prim.Native.Nat.{ℕ, zero, suc, ◌+◌, ◌*◌, ◌≤◌}
use mathlib.Core.Path.{◌≡◌, refl, sym, ap, subst, ◌∙◌}
use mathlib.Core.Logic.{◌≢◌}
use mathlib.Core.Bool.{false}
use mathlib.Core.List.{List, []}
use native.Mathlib.Omega.{arith}
use native.Mathlib.Nat.{mul-add}
use Rattle.words.specs.Counting.{one}
use Rattle.words.specs.Update.{upd}
use Rattle.words.proofs.Laws.Update.{upd_same, upd_other, upd_first, upd_elim}
use Rattle.common.specs.Calls.{is_write, is_read, is_retirement}
use Rattle.common.specs.declared.calls.Call.{Call}
use Rattle.common.specs.declared.calls.Call.TheVariants.{Write as write, Read as read, Step as step}
use Rattle.common.specs.declared.Done.TheVariants.{Moved}
use Rattle.common.specs.Book.{Operation, idle, open_with, is_open, Model, Turn, Telling, Told, begun, entered, told, kept, fresh_model}
use Rattle.common.proofs.Follows.{is_idle}
use Rattle.figures.specs.Counts.{NoRetirement, write_begun, read_begun, word_moved, writes_in, reads_in, words_in}
use Rattle.figures.proofs.Sums.{sum, sum_same, sum_none, sum_one}
use Rattle.figures.proofs.Lists.{list_ind}
use Rattle.figures.proofs.Cases.{no_begin, cases}
use Rattle.figures.proofs.CostModel.{left, CostModel}

-- sums over the readers, with one processor's value replaced
module _ {A : Type 0} (n : ℕ) (op : ℕ → A) (o : A) where
  sum_writer : (f : ℕ → A → ℕ) → sum n (λ i. f (suc i) (upd op 0 o (suc i))) ≡ sum n (λ i. f (suc i) (op (suc i)))
  sum_writer f = sum_same n _ _ (λ i _. ap (f (suc i)) (upd_first op o i))

  sum_reader : (f g : ℕ → A → ℕ) (p : ℕ) → 1 ≤ p → p ≤ n → ((q : ℕ) → 1 ≤ q → q ≤ n → q ≢ p → (x : A) → f q x ≡ g q x)
      → sum n (λ i. f (suc i) (upd op p o (suc i))) + g p (op p) ≡ sum n (λ i. g (suc i) (op (suc i))) + f p o
  sum_reader f g zero p1 pn h = absurd (omega arith)
  sum_reader f g (suc i) p1 pn h =
      omega (
        arith,
        sum_one n (λ j. f (suc j) (upd op (suc i) o (suc j))) (λ j. g (suc j) (op (suc j))) i (omega arith)
            (λ j l ne. ap (f (suc j)) (upd_other op (suc i) o (suc j) (omega arith)) ∙ h (suc j) (omega arith) (omega arith) (omega arith) (op (suc j))),
        ap (f (suc i)) (upd_same op (suc i) o),
      )

module _ {Stamp Cell : Type 0} (B : Telling Stamp Cell) (n len W R L : ℕ) (M : CostModel B n W R L) where
  abbrev pub read_left : ℕ → Operation Cell → ℕ
  read_left p o = left (R + L * M.second o) o

  -- in a book: the words to come; the reads that are stale; those that are undecided
  abbrev pub due : Model Stamp Cell → ℕ
  due b = left W (b.op 0) + sum n (λ i. read_left (suc i) (b.op (suc i)))

  abbrev pub stale_reads : Model Stamp Cell → ℕ
  stale_reads b = sum n (λ i. M.stale (suc i) b.table (b.op (suc i)))

  abbrev pub undecided_reads : Model Stamp Cell → ℕ
  undecided_reads b = sum n (λ i. M.undecided (b.op (suc i)))

  pub record AllOk (b : Model Stamp Cell) : Type 0 where
    pub writer : M.WOk (b.op 0)
    pub reader : (p : ℕ) → 1 ≤ p → p ≤ n → M.ROk (b.op p)

  -- From b to b' with w writes and r reads begun and x words moved: so many reads have gone to their second attempt.
  pub record Spends (b b' : Model Stamp Cell) (w r x : ℕ) : Type 0 where
    pub lates : ℕ
    pub words_are : x + due b' ≡ due b + W * w + R * r + L * lates
    pub late_reads : lates + undecided_reads b' ≤ undecided_reads b + r
    pub late_stores : lates + stale_reads b' + M.stores (b'.op 0) ≤ stale_reads b + M.stores (b.op 0) + n * w

  nothing : (b : Model Stamp Cell) → Spends b b 0 0 0
  nothing b = record { lates = 0; words_are = omega arith; late_reads = omega arith; late_stores = omega arith }

  more : (b b' b'' : Model Stamp Cell) (w r x w' r' x' : ℕ) → Spends b b' w r x → Spends b' b'' w' r' x' → Spends b b'' (w + w') (r + r') (x + x')
  more b b' b'' w r x w' r' x' P Q = record {
    lates = P.lates + Q.lates;
    words_are = omega (arith, P.words_are, Q.words_are, mul-add W w w', mul-add R r r', mul-add L P.lates Q.lates);
    late_reads = omega (arith, P.late_reads, Q.late_reads);
    late_stores = omega (arith, P.late_stores, Q.late_stores, mul-add n w w');
  }

  module _ (b : Model Stamp Cell) (ok : AllOk b) where
    abbrev To : Call → Told Stamp Cell → Type 0
    To c x = AllOk x.model × Spends b x.model (one (write_begun c x.answer)) (one (read_begun c x.answer)) (one (word_moved c x.answer))

    refuses : (w r : ℕ) → w ≡ 0 → r ≡ 0 → Spends b b w r 0
    refuses w r e f = record { lates = 0; words_are = rw (e, f) (omega arith); late_reads = omega arith; late_stores = omega (arith, ap (λ (k : ℕ). n * k) e) }

    ok_upd : (p : ℕ) (o : Operation Cell) → (p ≡ 0 → M.WOk o) → (1 ≤ p → M.ROk o) → (t : List ℕ) (rows : List ℕ) (stamp : ℕ → Stamp)
        → AllOk (record { table = t; rows = rows; stamp = stamp; op = upd b.op p o; retired = b.retired })
    ok_upd p o w r t rows stamp = record {
      writer = upd_elim (λ j q. j ≡ 0 → M.WOk q) b.op p o (λ e. w e) (λ j _ e. subst (λ (k : ℕ). M.WOk (b.op k)) (sym e) ok.writer) 0 refl;
      reader = upd_elim (λ j q. 1 ≤ j → j ≤ n → M.ROk q) b.op p o (λ h _. r h) (λ j _. ok.reader j);
    }

    write_begun_lem : (v : ℕ) → is_open (b.op 0) ≡ false → To (write v) (begun b 0 1 v)
    write_begun_lem v shut = (
      ok_upd 0 (open_with v 0 []) (λ _. M.w_begun v) (λ h. absurd (omega arith)) _ _ _,
      record {
        lates = 0;
        words_are = omega (arith, sum_writer n b.op (open_with v 0 []) read_left, was, now_left);
        late_reads = omega (arith, sum_writer n b.op (open_with v 0 []) (λ _. M.undecided));
        late_stores = omega (arith, sum_writer n b.op (open_with v 0 []) (λ p. M.stale p b.table), ap M.stores (upd_same b.op 0 (open_with v 0 [])), M.stores_begun v);
      },
    )
      where
        was : left W (b.op 0) ≡ 0
        was = ap (left W) (is_idle (b.op 0) shut)

        now_left : left W (upd b.op 0 (open_with v 0 []) 0) ≡ W
        now_left = ap (left W) (upd_same b.op 0 (open_with v 0 [])) ∙ omega arith

    read_begun_lem : (p : ℕ) → 1 ≤ p → p ≤ n → is_open (b.op p) ≡ false → To (read p) (begun b p 3 0)
    read_begun_lem p p1 pn shut = (
      ok_upd p (open_with 0 0 []) (λ e. absurd (omega arith)) (λ _. M.r_begun) _ _ _,
      record {
        lates = 0;
        words_are = omega (
          arith,
          sum_reader n b.op (open_with 0 0 []) read_left read_left p p1 pn (λ _ _ _ _ _. refl),
          ap (read_left p) (is_idle (b.op p) shut),
          writer_left,
          ap (λ (k : ℕ). L * k) M.second_begun,
        );
        late_reads = omega (
          arith,
          sum_reader n b.op (open_with 0 0 []) (λ _. M.undecided) (λ _. M.undecided) p p1 pn (λ _ _ _ _ _. refl),
          ap M.undecided (is_idle (b.op p) shut) ∙ M.undecided_idle,
          M.undecided_begun,
        );
        late_stores = omega (
          arith,
          sum_reader n b.op (open_with 0 0 []) (λ q. M.stale q b.table) (λ q. M.stale q b.table) p p1 pn (λ _ _ _ _ _. refl),
          ap (M.stale p b.table) (is_idle (b.op p) shut) ∙ M.stale_idle p b.table,
          M.stale_begun p b.table,
          ap M.stores (upd_other b.op p (open_with 0 0 []) 0 (omega arith)),
        );
      },
    )
      where
        writer_left : left W (upd b.op p (open_with 0 0 []) 0) ≡ left W (b.op 0)
        writer_left = ap (left W) (upd_other b.op p (open_with 0 0 []) 0 (omega arith))

    write_moved : (k v m : ℕ) (cells : List Cell) → b.op 0 ≡ open_with v m cells
        → To (step 0) (record { answer = Ok (Moved k); model = entered b 0 2 (B.write_turn n b.table (b.stamp 0) v m cells) })
    write_moved k v m cells e = (
      ok_upd 0 x.op (λ _. M.write_ok b.table (b.stamp 0) v m cells is) (λ h. absurd (omega arith)) _ _ _,
      record {
        lates = 0;
        words_are = omega (
          arith,
          sum_writer n b.op x.op read_left,
          ap (left W) (upd_same b.op 0 x.op),
          ap (left W) e,
          M.write_left b.table (b.stamp 0) v m cells is,
        );
        late_reads = omega (arith, sum_writer n b.op x.op (λ _. M.undecided));
        late_stores = omega (
          arith,
          sum_writer n b.op x.op (λ p. M.stale p x.table),
          ap M.stores (upd_same b.op 0 x.op),
          ap M.stores e,
          M.write_makes_stale b.table (b.stamp 0) v m cells is b.op,
        );
      },
    )
      where
        x : Turn Stamp Cell
        x = B.write_turn n b.table (b.stamp 0) v m cells

        is : M.WOk (open_with v m cells)
        is = subst M.WOk e ok.writer

    read_moved : (p : ℕ) → 1 ≤ p → p ≤ n → (k v m : ℕ) (cells : List Cell) → b.op p ≡ open_with v m cells
        → To (step p) (record { answer = Ok (Moved k); model = entered b p 4 (B.read_turn n p b.table (b.stamp p) m cells) })
    read_moved p p1 pn k v m cells e = (
      ok_upd p x.op (λ z. absurd (omega arith)) (λ _. M.read_ok p p1 pn b.table (b.stamp p) v m cells is) _ _ _,
      record {
        lates = M.late p b.table m cells;
        words_are = omega (
          arith,
          sum_reader n b.op x.op read_left read_left p p1 pn (λ _ _ _ _ _. refl),
          ap (read_left p) e,
          ap (left W) (upd_other b.op p x.op 0 (omega arith)),
          M.left_read p p1 pn b.table (b.stamp p) v m cells is,
        );
        late_reads = omega (
          arith,
          sum_reader n b.op x.op (λ _. M.undecided) (λ _. M.undecided) p p1 pn (λ _ _ _ _ _. refl),
          ap M.undecided e,
          M.read_undecided p p1 pn b.table (b.stamp p) v m cells is,
        );
        late_stores = omega (
          arith,
          sum_reader n b.op x.op (λ q. M.stale q x.table) (λ q. M.stale q b.table) p p1 pn
              (M.read_others p p1 pn b.table (b.stamp p) m cells),
          ap (M.stale p b.table) e,
          M.read_stale p p1 pn b.table (b.stamp p) v m cells is,
          ap M.stores (upd_other b.op p x.op 0 (omega arith)),
        );
      },
    )
      where
        x : Turn Stamp Cell
        x = B.read_turn n p b.table (b.stamp p) m cells

        is : M.ROk (open_with v m cells)
        is = subst M.ROk e (ok.reader p p1 pn)

    pub call_spends : (c : Call) → is_retirement c ≡ false → To c (told B n len b c)
    call_spends = cases B n len b To (record {
      refused = λ c r _. (ok, refuses _ _ (no_begin (is_write c)) (no_begin (is_read c)));
      full = λ c _. (ok, refuses _ _ (no_begin (is_write c)) (no_begin (is_read c)));
      write_begun_lem = λ v shut _. write_begun_lem v shut;
      read_begun_lem = λ p p1 pn _ shut _. read_begun_lem p p1 pn shut;
      write_moved = λ v m cells e. write_moved (m + 1) v m cells e;
      read_moved = λ p p1 pn _ v m cells e. read_moved p p1 pn (m + 1) v m cells e;
    })

  pub list_spends : (cs : List Call) (b : Model Stamp Cell) → NoRetirement cs → AllOk b
      → let z = kept B n len b cs in AllOk z.model × Spends b z.model (writes_in cs z.answers) (reads_in cs z.answers) (words_in cs z.answers)
  list_spends = list_ind B n len Spends AllOk nothing (λ b c e ok. call_spends b ok c e) more

  pub fresh_ok : (v fresh : ℕ) → AllOk (fresh_model B n v fresh)
  fresh_ok v fresh = record { writer = M.w_idle; reader = λ _ _ _. M.r_idle }

  -- where no operation is open, and in a fresh book
  module _ (b : Model Stamp Cell) (shut : (p : ℕ) → p ≤ n → b.op p ≡ idle) where
    pub none_due : due b ≡ 0
    none_due = omega (arith, ap (left W) (shut 0 (omega arith)), sum_none n (λ i. read_left (suc i) (b.op (suc i))) (λ i h. ap (read_left (suc i)) (shut (suc i) (omega arith))))

    pub none_undecided : undecided_reads b ≡ 0
    none_undecided = sum_none n _ (λ i h. ap M.undecided (shut (suc i) (omega arith)) ∙ M.undecided_idle)

    pub none_stale : stale_reads b ≡ 0
    none_stale = sum_none n _ (λ i h. ap (M.stale (suc i) b.table) (shut (suc i) (omega arith)) ∙ M.stale_idle (suc i) b.table)

  -- A list in which all operations end: the words are those of the writes and reads and of the second attempts, of which there are at most as
  -- many as reads, and as stores.
  pub record Sum (v fresh : ℕ) (cs : List Call) : Type 0 where
    pub lates : ℕ
    pub words_are : let z = kept B n len (fresh_model B n v fresh) cs in words_in cs z.answers ≡ W * writes_in cs z.answers + R * reads_in cs z.answers + L * lates
    pub late_reads : lates ≤ reads_in cs (kept B n len (fresh_model B n v fresh) cs).answers
    pub late_stores : lates ≤ n * writes_in cs (kept B n len (fresh_model B n v fresh) cs).answers

  pub all_sum : (v fresh : ℕ) (cs : List Call) → NoRetirement cs
      → ((p : ℕ) → p ≤ n → is_open ((kept B n len (fresh_model B n v fresh) cs).model.op p) ≡ false) → Sum v fresh cs
  all_sum v fresh cs h e =
      let b = fresh_model B n v fresh in
      let z = (kept B n len b cs).model in
      let S = list_spends cs b h (fresh_ok v fresh) in
      let shut : (p : ℕ) → p ≤ n → z.op p ≡ idle = λ p l. is_idle (z.op p) (e p l) in
      record {
        lates = S.1.lates;
        words_are = omega (arith, S.1.words_are, none_due b (λ _ _. refl), none_due z shut);
        late_reads = omega (arith, S.1.late_reads, none_undecided b (λ _ _. refl));
        late_stores = omega (arith, S.1.late_stores, none_stale b (λ _ _. refl), M.stores_idle);
      }
