-- A read's stores of its result in the book, and its end, are the numbered machine's.
use Prim.Native.Nat.{ℕ, suc, ◌+◌, ◌≤◌, ◌<◌, max}
use mathlib.Core.Path.{◌≡◌, refl, ◌∙◌, ap}
use mathlib.Core.Logic.{◌≢◌, inl, inr}
use mathlib.Core.List.{List}
use native.Mathlib.Omega.{arith}
use lib.Dec.{ltb}
use borrow.Author.Tests.{lt-ltb, le-ltb}
use Rattle.words.specs.declared.cell.Cell.{Cell}
use Rattle.words.specs.Index.{Pair}
use Rattle.words.specs.Update.{upd}
use Rattle.words.proofs.Laws.Choice.{pick_yes, pick_no}
use Rattle.words.proofs.Laws.Update.{upd_elim, upd_same, upd_other, upd_own}
use Rattle.numbered.proofs.Machine.{rest, storing, Reader, St}
use Rattle.numbered.proofs.Attempt.{to}
use Rattle.numbered.proofs.Stores.{r_put, r_done, r_store_inv, r_end_inv, r_end_order}
use Rattle.numbered.proofs.Log.{log_keep, log_r_ends}
use Rattle.numbered.proofs.Peers.{peer, other_peer, peer_ne, peer_lt, peer_last, peer_next, peer_up}
use Rattle.common.specs.Book.{idle, open_with}
use Rattle.common.proofs.Places.{view_same, view_other, size_store}
use Rattle.protocol.specs.Table.{view, store, plain}
use Rattle.protocol.specs.Reference.{Model, Turn, shown, stores_to, result_turn}
use Rattle.protocol.proofs.Table.{places}
use Rattle.protocol.proofs.Atomic.Cells.{Low, stamp_of, back_of, cell_of, fits_cell}
use Rattle.protocol.proofs.Atomic.Sim.{Storing, Sim}
use Rattle.protocol.proofs.Atomic.Frames.{w_same, apart, ops, back_sim}
use Rattle.protocol.proofs.Atomic.Attempts.{Goes}

module _ (n : ℕ) (few : n ≤ 16) (c val : ℕ → ℕ) (low : Low c val) (b : Model) (s : St) (me : ℕ → Reader) (i : ℕ) (hi : i < n)
    (z : Sim n c val b s me) where
  abbrev pub Next : Turn → Type 0
  Next = Goes n c val low b s me i hi z

  module _ (m f p m' k : ℕ) (cells : List Cell) (e : (me i).ph ≡ storing f p m' k) (t : Storing n c val i cells m p m' k) where
    abbrev pub q : ℕ
    q = t.q

    -- the reader stored to, and the table behind it
    abbrev pub dest : ℕ
    dest = suc (peer i q)

    abbrev stored : List ℕ
    stored = store n b.table (suc i) dest (shown t.x)

    there : suc q < n → Pair n (suc i) dest
    there more = omega (arith, peer_lt i q n more, peer_ne i q)

    old : suc q < n → (a d : ℕ) → Pair n a d → (a ≢ suc i) → view n stored a d ≡ view n b.table a d
    old more a d v ne = view_other (places n) (suc i) dest b.table _ (there more) a d v (inl (λ h. ne (rw h)))

    tab_between : suc q < n → (j l : ℕ) → j < n → l < n → l ≢ j → view n stored (suc j) (suc l) ≡ cell_of c val (upd s.x i (upd (s.x i) k p) j l)
    tab_between more j l hj hl ne =
        upd_elim (λ j y. j < n → l ≢ j → view n stored (suc j) (suc l) ≡ cell_of c val (y l)) s.x i (upd (s.x i) k p)
        (λ _ ne. upd_elim (λ l y. l < n → l ≢ i → view n stored (suc i) (suc l) ≡ cell_of c val y) (s.x i) k p
        (λ _ _. ap (λ (j : ℕ). view n stored (suc i) (suc j)) t.k_is
        ∙ view_same (places n) (suc i) dest b.table _ (there more) (rw t.shown_is (fits_cell c val low p)) z.size ∙ t.shown_is)
        (λ l nk hl ne. view_other (places n) (suc i) dest b.table _ (there more) (suc i) (suc l) (omega arith) (inr (omega (arith, t.k_is))) ∙ z.between i l hi hl ne) l hl ne)
        (λ j ni hj ne. old more (suc j) (suc l) (omega arith) (omega arith) ∙ z.between j l hj hl ne) j hj ne

    pub put_sim : suc q < n → Next (stores_to n (suc i) b.table (b.stamp (suc i)) m cells dest (shown t.x))
    put_sim more = (
      r_put n c s i k p,
      upd me i (to (me i) (storing f p m' (peer i (suc q)))),
      record {
        inv = r_store_inv n c s me i hi z.inv f p m' k (peer i (suc q)) (λ j ne h. rw t.k_is (peer_next i q j ne h)) (omega (arith, peer_up i q (suc q) (omega arith), t.k_is))
            (rw t.k_is (peer_ne i q)) (rw t.k_is (peer_lt i q n more)) e;
        size = size_store (places n) (suc i) dest b.table _ z.size;
        to_reader = λ j h. old more 0 (suc j) (omega arith) (omega arith) ∙ z.to_reader j h;
        to_writer = upd_elim (λ j y. j < n → view n stored (suc j) 0 ≡ back_of c y.o y.a) me i _ (back i) (λ j _. back j);
        between = tab_between more;
        own_w = upd_own b.stamp (suc i) 0 ∙ z.own_w;
        own_r = upd_elim (λ j y. j < n → upd b.stamp (suc i) (b.stamp (suc i)) (suc j) ≡ stamp_of c y.o) me i _
            (λ h. upd_own b.stamp (suc i) (suc i) ∙ z.own_r i h) (λ j _ h. upd_own b.stamp (suc i) (suc j) ∙ z.own_r j h);
        readers = ops n c val b s me i z (to (me i) (storing f p m' (peer i (suc q)))) (open_with 0 (m + 1) cells) (record {
          q = suc q;
          M = t.M;
          x = t.x;
          low = more;
          k_is = refl;
          m_is = omega (arith, t.m_is);
          out = t.out;
          value_is = t.value_is;
          stamp_is = t.stamp_is;
          shown_is = t.shown_is;
        });
        writer = rw (upd_other b.op (suc i) (open_with 0 (m + 1) cells) 0 (omega arith)) (w_same n c val s s.F (r_put n c s i k p).x (b.op 0) z.writer);
        log_ok = rw (upd_other b.op (suc i) (open_with 0 (m + 1) cells) 0 (omega arith)) (log_keep n val _ _ _ _ _ me _ z.log_ok i _ (rw e));
      },
      refl,
    )
      where
        back : (j : ℕ) → j < n → view n stored (suc j) 0 ≡ back_of c (me j).o (me j).a
        back j h = view_other (places n) (suc i) dest b.table _ (there more) (suc j) 0 (omega arith) (inr (omega arith)) ∙ z.to_writer j h

    -- the turn at the read's end
    abbrev pub ended : Turn
    ended = record { op = idle; stamp = t.x.stamp; table = store n b.table (suc i) 0 (plain 0 t.x.stamp); value = t.x.value }

    pub end_sim : n ≡ suc q → Next ended
    end_sim last =
        let e' : (me i).ph ≡ storing f p m' n = e ∙ ap (λ (k : ℕ). storing f p m' k) (t.k_is ∙ peer_last i q n hi last) in
        let fm = r_end_order n c s me i hi z.inv f p m' e' in (
          r_done n c s me i hi z.inv m',
          upd me i (record { o = p; a = 0; ph = rest }),
          back_sim n c val b s me i z hi low (record { o = p; a = 0; ph = rest }) (max s.F m') idle _ _ _
              (r_end_inv n c s me i hi z.inv f p m' e') tt (rw t.stamp_is) (upd_other b.stamp (suc i) _ 0 (omega arith))
              (upd_same b.stamp (suc i) _ ∙ t.stamp_is) (λ j ne. apart n c val b s me i z b.stamp _ j ne)
              (log_r_ends n val _ _ _ _ _ me _ z.log_ok few i f m' t.x.value _ hi (rw e) refl fm.0 fm.1 z.inv.F-K t.value_is
              (rw t.value_is (low.value_low m'))),
          refl,
        )

    -- The result goes to the other readers in rising order, and last of all to the writer.
    abbrev pub at_q : Turn
    at_q = result_turn n (suc i) b.table (b.stamp (suc i)) m cells q t.x

    pub put_is : suc q < n → at_q ≡ stores_to n (suc i) b.table (b.stamp (suc i)) m cells dest (shown t.x)
    unfolding result_turn
    put_is more =
        pick_yes (ltb (q + 1) n) _ _ (lt-ltb (q + 1) n (omega arith))
        ∙ ap (λ (j : ℕ). stores_to n (suc i) b.table (b.stamp (suc i)) m cells j (shown t.x)) (other_peer i q)

    pub end_is : n ≡ suc q → at_q ≡ ended
    unfolding result_turn
    end_is last = pick_no (ltb (q + 1) n) _ _ (le-ltb (q + 1) n (omega arith))
