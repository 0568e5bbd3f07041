-- What a reader's step leaves: the simulation of a book in which one reader's phase, operation and at most one of its cells changed.
use Prim.Native.Nat.{ℕ, suc, ◌<◌}
use mathlib.Core.Path.{◌≡◌, ◌∙◌}
use mathlib.Core.Logic.{◌≢◌, inl, inr}
use mathlib.Core.List.{List}
use native.Mathlib.Omega.{arith}
use Rattle.words.specs.declared.stamp.Stamp.{Stamp}
use Rattle.words.specs.declared.cell.Cell.{Cell}
use Rattle.words.specs.Update.{upd}
use Rattle.words.proofs.Laws.Update.{upd_elim, upd_same, upd_other}
use Rattle.numbered.proofs.Machine.{Phase, Reader, St, Inv}
use Rattle.numbered.proofs.Attempt.{to}
use Rattle.numbered.proofs.Log.{LogRel}
use Rattle.common.specs.Book.{idle, open_with}
use Rattle.common.proofs.Places.{view_same, view_other, size_store}
use Rattle.common.proofs.Follows.{open_value}
use Rattle.protocol.specs.Table.{view, store}
use Rattle.protocol.specs.Reference.{Operation, Model}
use Rattle.protocol.proofs.Table.{places}
use Rattle.protocol.proofs.Atomic.Cells.{Low, stamp_of, back_of, fits_back}
use Rattle.protocol.proofs.Atomic.Sim.{ReadSim, WriteSim, Sim}

module _ (n : ℕ) (c val : ℕ → ℕ) where
  -- The writer's part does not look at F and x.
  pub w_same : (s : St) (F : ℕ) (x : ℕ → ℕ → ℕ) (op : Operation) → WriteSim n c val s op
      → WriteSim n c val (record { K = s.K; D = s.D; F = F; wk = s.wk; B = s.B; w = s.w; x = x }) op
  w_same s F x idle h = h
  w_same s F x (open_with v m cells) h = h

  -- a book that some numbered state with the same newest number is behind
  abbrev pub Go : Model → St → Type 0
  Go b s = (t : St) × (me : ℕ → Reader) × Sim n c val b t me × (t.K ≡ s.K)

  module _ (b : Model) (s : St) (me : ℕ → Reader) (i : ℕ) (z : Sim n c val b s me) where
    pub apart : {A : Type 0} (f : ℕ → A) (v : A) (j : ℕ) → j ≢ i → upd f (suc i) v (suc j) ≡ f (suc j)
    apart f v j ne = upd_other f (suc i) v (suc j) (omega arith)

    -- The operations' part.
    pub ops : (r : Reader) (op : Operation) → ReadSim n c val i op r.ph → (j : ℕ) → j < n → ReadSim n c val j (upd b.op (suc i) op (suc j)) (upd me i r j).ph
    ops r op h =
        upd_elim (λ j y. j < n → ReadSim n c val j (upd b.op (suc i) op (suc j)) y.ph) me i r
        (λ _. rw (upd_same b.op (suc i)) h) (λ j ne g. rw (apart b.op op j ne) (z.readers j g))

    -- The phase and the operation alone change.
    pub local_sim : (op : Operation) (ph : Phase) (rows : List ℕ) (st : ℕ → Stamp) → ((j : ℕ) → st j ≡ b.stamp j)
        → Inv n c s (upd me i (to (me i) ph)) → ReadSim n c val i op ph
        → LogRel n val rows s.K s.D s.F s.wk (upd me i (to (me i) ph)) (open_value (b.op 0))
        → Sim n c val (record { table = b.table; rows = rows; stamp = st; op = upd b.op (suc i) op; retired = b.retired }) s (upd me i (to (me i) ph))
    local_sim op ph rows st es v r lg = record {
      inv = v;
      size = z.size;
      to_reader = z.to_reader;
      to_writer = upd_elim (λ j y. j < n → view n b.table (suc j) 0 ≡ back_of c y.o y.a) me i _ (z.to_writer i) (λ j _. z.to_writer j);
      between = z.between;
      own_w = es 0 ∙ z.own_w;
      own_r = upd_elim (λ j y. j < n → st (suc j) ≡ stamp_of c y.o) me i _ (λ h. es (suc i) ∙ z.own_r i h) (λ j _ h. es (suc j) ∙ z.own_r j h);
      readers = ops (to (me i) ph) op r;
      writer = rw (upd_other b.op (suc i) op 0 (omega arith)) z.writer;
      log_ok = rw (upd_other b.op (suc i) op 0 (omega arith)) lg;
    }

    -- The reader's cell to the writer changes too, and its stamp.
    pub back_sim : i < n → Low c val → (r : Reader) (F : ℕ) (op : Operation) (x : Cell) (st : ℕ → Stamp) (rows : List ℕ)
        → let s' : St = record { K = s.K; D = s.D; F = F; wk = s.wk; B = s.B; w = s.w; x = s.x } in
        Inv n c s' (upd me i r) → ReadSim n c val i op r.ph → x ≡ back_of c r.o r.a
        → st 0 ≡ b.stamp 0 → st (suc i) ≡ stamp_of c r.o → ((j : ℕ) → j ≢ i → st (suc j) ≡ b.stamp (suc j))
        → LogRel n val rows s.K s.D F s.wk (upd me i r) (open_value (b.op 0))
        → Sim n c val (record { table = store n b.table (suc i) 0 x; rows = rows; stamp = st; op = upd b.op (suc i) op; retired = b.retired }) s' (upd me i r)
    back_sim hi low r F op x st rows v rs ex e0 e1 e2 lg = record {
      inv = v;
      size = size_store (places n) (suc i) 0 b.table x z.size;
      to_reader = λ j h. view_other (places n) (suc i) 0 b.table x (omega arith) 0 (suc j) (omega arith) (inl (omega arith)) ∙ z.to_reader j h;
      to_writer = upd_elim (λ j y. j < n → view n (store n b.table (suc i) 0 x) (suc j) 0 ≡ back_of c y.o y.a) me i _
          (λ _. view_same (places n) (suc i) 0 b.table x (omega arith) (rw ex (fits_back c val low r.o r.a)) z.size ∙ ex)
          (λ j ne h. view_other (places n) (suc i) 0 b.table x (omega arith) (suc j) 0 (omega arith) (inl (omega arith)) ∙ z.to_writer j h);
      between = λ j k hj hk ne. view_other (places n) (suc i) 0 b.table x (omega arith) (suc j) (suc k) (omega arith) (inr (omega arith)) ∙ z.between j k hj hk ne;
      own_w = e0 ∙ z.own_w;
      own_r = upd_elim (λ j y. j < n → st (suc j) ≡ stamp_of c y.o) me i _ (λ _. e1) (λ j ne h. e2 j ne ∙ z.own_r j h);
      readers = ops r op rs;
      writer = rw (upd_other b.op (suc i) op 0 (omega arith)) (w_same s F s.x (b.op 0) z.writer);
      log_ok = rw (upd_other b.op (suc i) op 0 (omega arith)) lg;
    }
