-- A write's sub-steps in the book are the numbered machine's.
use Prim.Native.Nat.{ℕ, suc, ◌+◌, ◌-◌, ◌*◌, ◌^◌, ◌≤◌, ◌<◌}
use mathlib.Core.Path.{◌≡◌, refl, ◌∙◌, sym, ap}
use mathlib.Core.Logic.{◌≢◌, ◌⊎◌, inl, inr}
use mathlib.Core.List.{List, [], ◌∷◌, ◌++◌}
use native.Mathlib.Numerals.{add-one}
use native.Mathlib.Omega.{arith}
use lib.Dec.{ltb}
use Rattle.words.specs.declared.stamp.Stamp.{Stamp}
use Rattle.words.specs.declared.cell.Cell.{Cell}
use Rattle.words.specs.Choice.{pick}
use Rattle.words.specs.Update.{upd}
use Rattle.words.specs.Index.{Pair}
use Rattle.words.specs.Row.{row_of}
use Rattle.words.proofs.Laws.Choice.{lt_ind}
use Rattle.words.proofs.Laws.Update.{upd_elim, upd_same, upd_first}
use Rattle.numbered.proofs.Machine.{Reader, St}
use Rattle.numbered.proofs.Writer.{w_begin, w_begin_inv, w_read, w_read_inv, w_ticket, w_ticket_inv, w_store, w_store_inv, w_end, w_end_inv}
use Rattle.numbered.proofs.Log.{log_w_begins, log_look, log_ticket, log_w_ends, floor_low}
use Rattle.common.specs.Book.{idle, open_with, entered}
use Rattle.common.proofs.Places.{view_same, view_other, size_store}
use Rattle.protocol.specs.Table.{view, store, plain}
use Rattle.protocol.specs.Reference.{Model, cell_read, Turn, excluded_tickets, ticket_after, stamp_after, write_turn}
use Rattle.protocol.proofs.NewTicket.{new_ticket_new}
use Rattle.protocol.proofs.Table.{places}
use Rattle.protocol.proofs.Atomic.Cells.{Low, stamp_of, back_of, cell_of, stamp_cur, fits_cell}
use Rattle.protocol.proofs.Atomic.Barred.{bar_old, bar_new, bars_of, bars_some, own_tickets}
use Rattle.protocol.proofs.Atomic.Sim.{Reading, Writing, SimWith, Sim}

module _ (n : ℕ) (pos : 1 ≤ n) (c val : ℕ → ℕ) (low : Low c val) where
  module _ (b : Model) (s : St) (me : ℕ → Reader) where
    -- A write begins.
    abbrev pub begun_write : ℕ → Model
    begun_write v = record b { rows = b.rows ++ (row_of 1 0 v ∷ []); op = upd b.op 0 (open_with v 0 []) }

    pub w_begin_sim : (v : ℕ) → v < 2 ^ 32 → b.op 0 ≡ idle → Sim n c val b s me → Sim n c val (begun_write v) (w_begin n c s) me
    w_begin_sim v vl e z =
        let q : (s.K ≡ s.D) × (s.wk ≡ 0) = rw e at z.writer in
        record {
          inv = w_begin_inv n c s me z.inv q.0;
          size = z.size;
          to_reader = z.to_reader;
          to_writer = z.to_writer;
          between = z.between;
          own_w = z.own_w;
          own_r = z.own_r;
          readers = λ i h. rw (upd_first b.op _ i) (z.readers i h);
          writer = rw (upd_same b.op 0) (inl (record {
            at = omega arith;
            wk_is = refl;
            B-is = rw q.0 (sym (own_tickets c val low s.D z.inv.D-pos));
          }));
          log_ok = rw (upd_same b.op 0) (log_w_begins n val _ _ _ _ _ me _ z.log_ok q.0 v vl);
        }

  -- What its sub-steps leave.
  module _ (b : Model) (v m : ℕ) (cells : List Cell) where
    abbrev new : Stamp
    new = stamp_after n (b.stamp 0) cells

    abbrev stored : List ℕ
    stored = store n b.table 0 (m - n + 1) (plain v new)

    abbrev seen : List Cell
    seen = cells ++ (cell_read n b.table m ∷ [])

    abbrev reads : Turn
    reads = record { op = open_with v (m + 1) seen; stamp = b.stamp 0; table = b.table; value = 0 }

    abbrev stores : Turn
    stores = record { op = open_with v (m + 1) cells; stamp = b.stamp 0; table = stored; value = 0 }

    abbrev ends : Turn
    ends = record { op = idle; stamp = new; table = stored; value = 0 }

  module _ (b : Model) (me : ℕ → Reader) (v m : ℕ) (cells : List Cell) (e : b.op 0 ≡ open_with v m cells) where
    -- It reads a cell.
    w_look_sim : (s : St) → m < n → Sim n c val b s me
        → Sim n c val (entered b 0 2 (reads b v m cells)) (w_read n c s (excluded_tickets (stamp_of c s.D) (seen b v m cells))) me
    w_look_sim s h z = go (rw e at z.writer)
      where
        cell_is : cell_read n b.table m ≡ back_of c (me m).o (me m).a
        cell_is = ap (λ (k : ℕ). view n b.table k 0) (add-one m) ∙ z.to_writer m h

        go : Reading n c val s.D s.wk s.B m cells ⊎ ((n < m) × Writing n c val s.K s.D s.wk s.w v m cells)
            → Sim n c val (entered b 0 2 (reads b v m cells)) (w_read n c s (excluded_tickets (stamp_of c s.D) (seen b v m cells))) me
        go (inr w) = absurd (omega arith)
        go (inl r) = record {
          inv = w_read_inv n c s me m _ z.inv r.wk_is
              (λ t g. bar_old (stamp_of c s.D) cells _ t (rw r.B-is at g))
              (λ t g. bar_new (stamp_of c s.D) cells _ t (bars_some n c val low _ _ t g) (rw cell_is (bars_of n c _ _ t g)));
          size = z.size;
          to_reader = z.to_reader;
          to_writer = z.to_writer;
          between = z.between;
          own_w = upd_same b.stamp 0 _ ∙ z.own_w;
          own_r = λ i h. upd_first b.stamp _ i ∙ z.own_r i h;
          readers = λ i h. rw (upd_first b.op _ i) (z.readers i h);
          writer = rw (upd_same b.op 0) (inl (record { at = omega arith; wk_is = omega (arith, r.wk_is); B-is = refl }));
          log_ok = rw (upd_same b.op 0) (log_look n val _ _ _ _ _ me v (rw e at z.log_ok) (omega (arith, r.wk_is)));
        }

    -- It takes its ticket; nothing of the book changes yet.
    abbrev Midway : St → Type 0
    Midway s = SimWith n c val b s me (λ _. Writing n c val s.K s.D s.wk s.w v m cells)

    w_ticket_sim : (s : St) → m ≡ n → c (suc s.K) ≡ ticket_after n (b.stamp 0) cells → val (suc s.K) ≡ v
        → Sim n c val b s me → Reading n c val s.D s.wk s.B m cells → Midway (w_ticket n c s)
    w_ticket_sim s q et ev z r =
        let t : c (suc s.K) ≡ ticket_after n (stamp_of c s.D) cells = et ∙ ap (λ (x : Stamp). ticket_after n x cells) z.own_w in
        record {
          inv = w_ticket_inv n c s me z.inv (r.wk_is ∙ ap suc q) (rw (t, r.B-is) (new_ticket_new n (stamp_of c s.D).cur (excluded_tickets (stamp_of c s.D) cells)));
          size = z.size;
          to_reader = z.to_reader;
          to_writer = z.to_writer;
          between = z.between;
          own_w = z.own_w;
          own_r = z.own_r;
          readers = z.readers;
          writer = record {
            from = omega arith;
            upto = omega arith;
            ahead = ap suc (z.inv.writer (omega (arith, r.wk_is))).0;
            wk_is = refl;
            done = λ i h. absurd (omega arith);
            ticket = t;
            value_is = ev;
          };
          log_ok = log_ticket n val _ _ _ _ _ me _ z.log_ok (omega (arith, r.wk_is)) z.inv.F-K
              (λ i f h g. floor_low n c s i _ _ (me i).ph f (z.inv.rd i h).phase g) (rw e ev);
        }

    module _ (s : St) (z : Midway s) where
      w : Writing n c val s.K s.D s.wk s.w v m cells
      w = z.writer

      -- What it stores is the cell of its number, and its stamp that number's.
      new_is : new b v m cells ≡ stamp_of c s.K
      new_is =
          let e : (b.stamp 0).cur ≡ c s.D = rw z.own_w (stamp_cur c s.D z.inv.D-pos) in
          let t : ticket_after n (b.stamp 0) cells ≡ c (suc s.D) =
          ap (λ (x : Stamp). ticket_after n x cells) z.own_w ∙ sym w.ticket ∙ ap c w.ahead in
          rw w.ahead (λ i. record { cur = t i; prev = e i })

      cell_is : plain v (new b v m cells) ≡ cell_of c val s.K
      cell_is =
          let r : v ≡ val (suc s.D) = sym w.value_is ∙ ap val w.ahead in
          rw (new_is, w.ahead) (ap (λ (x : ℕ). plain x (stamp_of c (suc s.D))) r)

      here : Pair n 0 (m - n + 1)
      here = omega (arith, w.from, w.upto)

      tab_reader : (i : ℕ) → i < n → view n (stored b v m cells) 0 (suc i) ≡ cell_of c val (upd s.w (m - n) s.K i)
      tab_reader i h =
          upd_elim (λ i y. i < n → view n (stored b v m cells) 0 (suc i) ≡ cell_of c val y) s.w (m - n) s.K
          (λ _. ap (λ (k : ℕ). view n (stored b v m cells) 0 k) (sym (add-one (m - n)))
          ∙ view_same (places n) 0 (m - n + 1) b.table _ here (rw cell_is (fits_cell c val low s.K)) z.size ∙ cell_is)
          (λ i ne h. view_other (places n) 0 (m - n + 1) b.table _ here 0 (suc i) (omega arith) (inr (omega arith)) ∙ z.to_reader i h)
          i h

      tab_other : (i j : ℕ) → Pair n (suc i) j → view n (stored b v m cells) (suc i) j ≡ view n b.table (suc i) j
      tab_other i j o = view_other (places n) 0 (m - n + 1) b.table _ here (suc i) j o (inl (omega arith))

      all_stored : (i : ℕ) → i < suc (m - n) → upd s.w (m - n) s.K i ≡ s.K
      all_stored = upd_elim (λ i y. i < suc (m - n) → y ≡ s.K) s.w (m - n) s.K (λ _. refl) (λ i ne h. w.done i (omega arith))

      w_put_sim : m + 1 < 2 * n → Sim n c val (entered b 0 2 (stores b v m cells)) (w_store n c s (m - n)) me
      w_put_sim h = record {
        inv = w_store_inv n c s me (m - n) z.inv;
        size = size_store (places n) 0 (m - n + 1) b.table _ z.size;
        to_reader = tab_reader;
        to_writer = λ i h. tab_other i 0 (omega arith) ∙ z.to_writer i h;
        between = λ i j hi hj ne. tab_other i (suc j) (omega arith) ∙ z.between i j hi hj ne;
        own_w = upd_same b.stamp 0 _ ∙ z.own_w;
        own_r = λ i h. upd_first b.stamp _ i ∙ z.own_r i h;
        readers = λ i h. rw (upd_first b.op _ i) (z.readers i h);
        writer = rw (upd_same b.op 0) (inr (
          omega (arith, w.from),
          record {
            from = omega (arith, w.from);
            upto = h;
            ahead = w.ahead;
            wk_is = w.wk_is;
            done = λ i g. all_stored i (omega (arith, w.from));
            ticket = w.ticket;
            value_is = w.value_is;
          },
        ));
        log_ok = rw (upd_same b.op 0) (rw e at z.log_ok);
      }

      w_fin_sim : 2 * n ≤ m + 1 → Sim n c val (entered b 0 2 (ends b v m cells)) (w_end n c (w_store n c s (m - n))) me
      w_fin_sim h = record {
        inv = w_end_inv n c (w_store n c s (m - n)) me (w_store_inv n c s me (m - n) z.inv) (λ i hi. all_stored i (omega arith));
        size = size_store (places n) 0 (m - n + 1) b.table _ z.size;
        to_reader = tab_reader;
        to_writer = λ i h. tab_other i 0 (omega arith) ∙ z.to_writer i h;
        between = λ i j hi hj ne. tab_other i (suc j) (omega arith) ∙ z.between i j hi hj ne;
        own_w = upd_same b.stamp 0 _ ∙ new_is;
        own_r = λ i h. upd_first b.stamp _ i ∙ z.own_r i h;
        readers = λ i h. rw (upd_first b.op _ i) (z.readers i h);
        writer = rw (upd_same b.op 0) (refl, refl);
        log_ok = rw (upd_same b.op 0) (log_w_ends n val _ _ _ _ _ me _ z.log_ok w.ahead z.inv.F-K 0);
      }

  -- A sub-step of a write; K grows where it takes its ticket.
  module _ (b : Model) (s : St) (me : ℕ → Reader) (v m : ℕ) (cells : List Cell) where
    abbrev Goes : Turn → Type 0
    Goes x = (t : St) × Sim n c val (entered b 0 2 x) t me × (m ≡ n → t.K ≡ suc s.K) × (m ≢ n → t.K ≡ s.K)

    pub w_step_sim : b.op 0 ≡ open_with v m cells → Sim n c val b s me
        → (m ≡ n → (c (suc s.K) ≡ ticket_after n (b.stamp 0) cells) × (val (suc s.K) ≡ v))
        → Goes (write_turn n b.table (b.stamp 0) v m cells)
    unfolding write_turn
    w_step_sim e z future =
        lt_ind Goes m n _ _
        (λ h. (_, w_look_sim b me v m cells e s h z, (λ g. absurd (omega arith)), (λ _. refl)))
        (λ h. from h (rw e at z.writer))
      where
        store_goes : (s' : St) → Midway b me v m cells e s' → (m ≡ n → s'.K ≡ suc s.K) → (m ≢ n → s'.K ≡ s.K)
            → Goes (pick (ltb (m + 1) (2 * n)) (stores b v m cells) (ends b v m cells))
        store_goes s' z' k1 k2 =
            lt_ind Goes (m + 1) (2 * n) _ _
            (λ h. (_, w_put_sim b me v m cells e s' z' h, k1, k2))
            (λ h. (_, w_fin_sim b me v m cells e s' z' h, k1, k2))

        from : n ≤ m → Reading n c val s.D s.wk s.B m cells ⊎ ((n < m) × Writing n c val s.K s.D s.wk s.w v m cells)
            → Goes (pick (ltb (m + 1) (2 * n)) (stores b v m cells) (ends b v m cells))
        from h (inl r) =
            let q : m ≡ n = omega (arith, r.at) in
            store_goes (w_ticket n c s) (w_ticket_sim b me v m cells e s q (future q).0 (future q).1 z r) (λ _. refl) (λ g. absurd (g q))
        from h (inr w) =
            store_goes s (record {
              inv = z.inv;
              size = z.size;
              to_reader = z.to_reader;
              to_writer = z.to_writer;
              between = z.between;
              own_w = z.own_w;
              own_r = z.own_r;
              readers = z.readers;
              writer = w.1;
              log_ok = z.log_ok;
            })
            (λ q. absurd (omega (arith, w.0))) (λ _. refl)
