-- What every cell of the table keeps, through any list of calls.
use Rattle.std.specs.Prelude.{Ok}
use Prim.Native.Nat.{ℕ, ◌+◌, ◌-◌, ◌*◌, ◌^◌, ◌≤◌, ◌<◌}
use mathlib.Core.Path.{◌≡◌, refl, sym, ap, subst, ◌∙◌}
use mathlib.Core.Logic.{◌≢◌, ◌⊎◌, inl, inr}
use mathlib.Core.List.{List, [], ◌∷◌, ◌++◌}
use mathlib.Core.Bool.{Bool, true, false}
use native.Mathlib.Omega.{arith}
use lib.ListN.{length}
use lib.Seq.{get_or-set_same}
use lib.Dec.{eqb}
use borrow.Author.Tests.{eqb-true, eqb-false}
use Rattle.words.specs.declared.cell.Cell.{Cell}
use Rattle.words.specs.Stamp.{none}
use Rattle.words.specs.Cell.{pack_cell, unpack_cell}
use Rattle.words.specs.Index.{index, Pair, other}
use Rattle.words.proofs.Laws.Choice.{pick_ind, lt_ind, eq_ind}
use Rattle.words.proofs.Laws.Cell.{packed_zero, packed_none}
use Rattle.words.proofs.Laws.Index.{index_low, other_valid}
use Rattle.common.specs.declared.Writer.{Writer}
use Rattle.common.specs.declared.Reader.{Reader}
use Rattle.common.specs.declared.State.{State}
use Rattle.common.specs.declared.Done.TheVariants.{Accepted}
use Rattle.common.specs.Rules.{WriteStep, ReadStep, state_ok, InRange}
use Rattle.common.specs.State.{reader_at}
use Rattle.common.specs.SetUp.{Outcome, set_up_of}
use Rattle.common.specs.Head.{has_room}
use Rattle.common.specs.Register.{begin_write_of, begin_read_of, step_writer, step_reader, step_of, retire_of, call_of, run_of, ran_from}
use Rattle.common.specs.Book.{kept}
use Rattle.common.specs.declared.calls.Call.{Call}
use Rattle.common.specs.declared.calls.Call.TheVariants.{Write as write, Read as read, Step as step, Retire as retire}
use Rattle.common.proofs.Asked.{as_processor_lem}
use Rattle.common.proofs.Range.{test_range}
use Rattle.common.proofs.Run.{from_set_up}
use Rattle.common.proofs.Keep.{Good, call_stays}
use Rattle.common.proofs.Places.{Size, view_other, view_front}
use Rattle.protocol.specs.Table.{view, store}
use Rattle.protocol.specs.Write.{write_step}
use Rattle.protocol.specs.Read.{attempt_step, result_step, since, read_step}
use Rattle.protocol.specs.Reference.{start_cell, fresh_table, book}
use Rattle.protocol.specs.Effects.{CellsKept}
use Rattle.protocol.specs.Rules.{ticket_rules}
use Rattle.protocol.proofs.Table.{places, fresh_length, fresh_writer_lem, fresh_reader_lem}
use Rattle.protocol.proofs.Range.{writer_in}
use Rattle.protocol.proofs.WriterRel.{WIs}
use Rattle.protocol.proofs.ReaderRel.{RIs}
use Rattle.protocol.proofs.Laws.{lawful}
use Rattle.protocol.proofs.Simulates.{simulates}

same_or : (a b : ℕ) → (a ≡ b) ⊎ (a ≢ b)
same_or a b = by (eqb a b) refl
  where
    by : (x : Bool) → eqb a b ≡ x → (a ≡ b) ⊎ (a ≢ b)
    by true e = inl (eqb-true a b e)
    by false e = inr (eqb-false a b e)

-- Behind a store each cell is the one stored or as it was.
module _ (n i j : ℕ) (t : List ℕ) (c : Cell) (v : Pair n i j) (h : Size (places n) t) (P : Cell → Type 0) where
  at_store : (k l : ℕ) → Pair n k l → (i ≡ k → j ≡ l → P (unpack_cell (pack_cell c))) → P (view n t k l)
      → P (view n (store n t i j c) k l)
  at_store k l w here there = by (same_or i k) (same_or j l)
    where
      elsewhere : (i ≢ k) ⊎ (j ≢ l) → P (view n (store n t i j c) k l)
      elsewhere d = subst P (sym (view_other (places n) i j t c v k l w d)) there

      by : (i ≡ k) ⊎ (i ≢ k) → (j ≡ l) ⊎ (j ≢ l) → P (view n (store n t i j c) k l)
      by (inl e) (inl f) =
          let q : view n (store n t i j c) i j ≡ unpack_cell (pack_cell c)
          = ap unpack_cell (get_or-set_same t (index n i j) (pack_cell c) 0 (omega (arith, index_low n i j v))) in
          subst (λ (k : ℕ). P (view n (store n t i j c) k l)) e
          (subst (λ (l : ℕ). P (view n (store n t i j c) i l)) f (subst P (sym q) (here e f)))
      by (inl e) (inr g) = elsewhere (inr g)
      by (inr g) f = elsewhere (inl g)

module _ (n i j : ℕ) (t : List ℕ) (c : Cell) (v : Pair n i j) (h : Size (places n) t) where
  keeps : (j ≡ 0 → c.value ≡ 0) → (1 ≤ j → c.announced ≡ none) → CellsKept n t → CellsKept n (store n t i j c)
  keeps z a k = record {
    to_writer = λ p w. at_store n i j t c v h (λ (x : Cell). x.value ≡ 0) p 0 w (λ _ f. packed_zero c (z f)) (k.to_writer p w);
    to_reader = λ p q w l. at_store n i j t c v h (λ (x : Cell). x.announced ≡ none) p q w (λ _ f. packed_none c (a (omega arith))) (k.to_reader p q w l);
  }

-- A sub-step of a write.
module _ (n : ℕ) (t : List ℕ) (h : Size (places n) t) (k : CellsKept n t) where
  write_keeps : (w : Writer) → 1 ≤ n → w.moved < 2 * n → CellsKept n (write_step n w t).table
  unfolding write_step
  write_keeps w nl m =
      lt_ind (λ (q : WriteStep). CellsKept n q.table) w.moved n _ _ (λ _. k)
      (λ g. keeps n 0 (w.moved - n + 1) t _ (omega arith) h (λ z. absurd (omega arith)) (λ _. refl) k)

  -- A sub-step of a read.
  module _ (p : ℕ) (p1 : 1 ≤ p) (pn : p ≤ n) (r : Reader) where
    abbrev Kept : ReadStep → Type 0
    Kept q = CellsKept n q.table

    to_writer : Pair n p 0
    to_writer = omega arith

    attempt_keeps : (l : ℕ) → Kept (attempt_step n p l r t)
    unfolding attempt_step
    attempt_keeps l =
        eq_ind Kept l 0 _ _ (λ _. k)
        (λ _. eq_ind Kept l 1 _ _ (λ _. keeps n p 0 t _ to_writer h (λ _. refl) (λ z. absurd (omega arith)) k)
        (λ _. eq_ind Kept l 2 _ _ (λ _. k) (λ _. lt_ind Kept l (n + 2) _ _ (λ _. k) (λ _. k))))

    result_keeps : (m : ℕ) → Kept (result_step n p m r t)
    unfolding result_step
    result_keeps m =
        lt_ind Kept (m + 1) n _ _
        (λ g.
        let o = other_valid n p m p1 pn g in
        keeps n p (other p m) t _ (record { from = pn; dest = o.1; apart = o.2 }) h (λ z. absurd (omega (arith, o.0))) (λ _. refl) k)
        (λ _. keeps n p 0 t _ to_writer h (λ _. refl) (λ z. absurd (omega arith)) k)

    read_keeps : Kept (read_step n p r t)
    unfolding read_step
    read_keeps = lt_ind Kept (since n r) (n + 3) _ _ (λ _. attempt_keeps (since n r)) (λ _. result_keeps (since n r - (n + 3)))

-- A call, and a list of calls.
module _ (s : State) (t l : List ℕ) (k : CellsKept s.head.n t) where
  abbrev Keeps : Outcome → Type 0
  Keeps o = CellsKept s.head.n o.table

  begin_write_keeps : (v : ℕ) → Keeps (begin_write_of ticket_rules s t l v)
  unfolding begin_write_of
  begin_write_keeps v =
      pick_ind Keeps (state_ok ticket_rules s (length t) (length l)) _ _
      (λ _. pick_ind Keeps s.writer.active _ _ (λ _. k) (λ _. pick_ind Keeps (has_room s.head) _ _ (λ _. k) (λ _. k))) (λ _. k)

  begin_read_keeps : (p : ℕ) → Keeps (begin_read_of ticket_rules s t l p)
  unfolding begin_read_of
  begin_read_keeps p =
      pick_ind Keeps (state_ok ticket_rules s (length t) (length l)) _ _
      (λ _. as_processor_lem Keeps s t l k k 1 p _ λ _ _ _.
      pick_ind Keeps (reader_at s (p - 1)).active _ _ (λ _. k) (λ _. pick_ind Keeps (has_room s.head) _ _ (λ _. k) (λ _. k)))
      (λ _. k)

  writer_keeps : InRange ticket_rules s (length t) (length l) → s.writer.active ≡ true → Keeps (step_writer ticket_rules s t l)
  unfolding step_writer
  writer_keeps z a = write_keeps s.head.n t z.head_good.cells_are k s.writer z.head_good.n_low ((writer_in s.head.n s.writer z.writer_passes).moved_low a)

  reader_keeps : InRange ticket_rules s (length t) (length l) → (p : ℕ) → 1 ≤ p → p ≤ s.head.n → Keeps (step_reader ticket_rules s t l p)
  unfolding step_reader
  reader_keeps z p p1 pn = read_keeps s.head.n t z.head_good.cells_are k p p1 pn (reader_at s (p - 1))

  step_keeps : (p : ℕ) → Keeps (step_of ticket_rules s t l p)
  unfolding step_of
  step_keeps p =
      pick_ind Keeps (state_ok ticket_rules s (length t) (length l)) _ _
      (λ e.
      let z = test_range ticket_rules s (length t) (length l) e in
      as_processor_lem Keeps s t l k k 0 p _ λ _ pn _. eq_ind Keeps p 0 _ _
      (λ _. pick_ind Keeps s.writer.active _ _ (writer_keeps z) (λ _. k))
      (λ ne. pick_ind Keeps (reader_at s (p - 1)).active _ _ (λ _. reader_keeps z p (omega arith) pn) (λ _. k)))
      (λ _. k)

  retire_keeps : (p : ℕ) → Keeps (retire_of ticket_rules s t l p)
  unfolding retire_of
  retire_keeps p = pick_ind Keeps (state_ok ticket_rules s (length t) (length l)) _ _ (λ _. as_processor_lem Keeps s t l k k 1 p _ λ _ _ _. k) (λ _. k)

  call_keeps : (c : Call) → Keeps (call_of ticket_rules s t l c)
  unfolding call_of
  call_keeps (write v) = begin_write_keeps v
  call_keeps (read p) = begin_read_keeps p
  call_keeps (step p) = step_keeps p
  call_keeps (retire p) = retire_keeps p

run_keeps : (n : ℕ) (cs : List Call) (s : State) (t l : List ℕ) → s.head.n ≡ n → Good ticket_rules s (length t) (length l) → CellsKept n t
    → CellsKept n (run_of ticket_rules s t l cs).table
unfolding run_of
run_keeps n [] s t l e g k = k
run_keeps n (c ∷ cs) s t l e g k =
    let o = call_of ticket_rules s t l c in
    let z = call_stays ticket_rules lawful s t l g c in
    let k' : CellsKept n (call_of ticket_rules s t l c).table = subst (λ (m : ℕ). CellsKept m (call_of ticket_rules s t l c).table) e (call_keeps s t l (subst (λ (m : ℕ). CellsKept m t) (sym e) k) c) in
    run_keeps n cs o.state o.table o.log (z.n_same ∙ e) (rw (z.cells_same, z.rows_same) z.good) k'

fresh_keeps : (n v : ℕ) (x : List ℕ) → v < 2 ^ 32 → CellsKept n (fresh_table n v ++ x)
fresh_keeps n v x low = record {
  to_writer = λ i w. ap (λ (c : Cell). c.value) (front i 0 w ∙ fresh_reader_lem n i 0 v (omega (arith, w.apart)) w);
  to_reader = λ i j w h. by i j w h (same_or i 0);
}
  where
    front : (i j : ℕ) → Pair n i j → view n (fresh_table n v ++ x) i j ≡ view n (fresh_table n v) i j
    front i j w = view_front (places n) (fresh_table n v) x (fresh_length n v) i j w

    by : (i j : ℕ) → Pair n i j → 1 ≤ j → (i ≡ 0) ⊎ (i ≢ 0) → (view n (fresh_table n v ++ x) i j).announced ≡ none
    by i j w h (inl e) =
        ap (λ (c : Cell). c.announced)
        (front i j w ∙ subst (λ (i : ℕ). view n (fresh_table n v) i j ≡ start_cell v) (sym e) (fresh_writer_lem n j v low h w.dest))
    by i j w h (inr g) = ap (λ (c : Cell). c.announced) (front i j w ∙ fresh_reader_lem n i j v (omega arith) w)

-- From every accepted set-up, behind every list of calls.
pub cells_kept : (n v : ℕ) (t l : List ℕ) (cs : List Call) → v < 2 ^ 32 → (set_up_of ticket_rules n v 0 t l).answer ≡ Ok Accepted
    → CellsKept n (ran_from ticket_rules n v 0 t l cs).table
unfolding run_of kept
cells_kept n v t l cs low e =
    let z = from_set_up ticket_rules book WIs RIs lawful simulates n v 0 (omega arith) t l [] e in
    let o = set_up_of ticket_rules n v 0 t l in
    run_keeps n cs o.state o.table o.log z.n_is z.runs.good
    (subst (λ (t : List ℕ). CellsKept n t) (sym z.runs.rel.table_is) (fresh_keeps n v _ low))
