-- A write's begin and its sub-steps in the book are the machine's.
use Prim.Native.Nat.{ℕ, suc, ◌+◌, ◌^◌, ◌≤◌, ◌<◌}
use mathlib.Core.Path.{◌≡◌, refl, ◌∙◌, sym, ap}
use mathlib.Core.Logic.{◌≢◌, inl, inr}
use mathlib.Core.List.{List}
use native.Mathlib.Numerals.{add-one}
use native.Mathlib.Omega.{arith}
use Rattle.words.specs.Update.{upd}
use Rattle.words.proofs.Laws.Choice.{lt_ind}
use Rattle.words.proofs.Laws.Update.{upd_elim, upd_same, upd_first}
use Rattle.numbered.proofs.Machine.{Reader, St}
use Rattle.numbered.proofs.Writer.{w_ticket, w_store, w_store_inv, w_end, w_end_inv}
use Rattle.numbered.proofs.Distinct.{itself, w_number_inv}
use Rattle.numbered.proofs.Log.{log_w_begins, log_ticket, log_w_ends, floor_low}
use Rattle.common.specs.Book.{idle, open_with, begun, entered}
use Rattle.common.proofs.Places.{view_same, view_other, size_store}
use Rattle.counted.specs.Steps.{write_steps}
use Rattle.counted.specs.declared.Cell.{Cell}
use Rattle.counted.specs.Table.{Link, view, store}
use Rattle.counted.specs.State.{last_stamp}
use Rattle.counted.specs.Reference.{Model, Turn, write_turn}
use Rattle.counted.proofs.Table.{places}
use Rattle.counted.proofs.Atomic.Sim.{cell_of, stamp_of, value_is, fits_cell, Writing, Shows, Sim}

module _ (n : ℕ) (pos : 1 ≤ n) (S : ℕ) (val : ℕ → ℕ) (low : (k : ℕ) → val k < 2 ^ 32) (b : Model) (s : St) (me : ℕ → Reader) (z : Sim n S val b s me) where
  -- A write begins: it gets the next number.
  pub w_begin_sim : (v : ℕ) → v < 2 ^ 32 → b.op 0 ≡ idle → b.stamp 0 ≢ last_stamp → val (suc s.K) ≡ v
      → Sim n S val (begun b 0 1 v).model (w_ticket n itself s) me
  w_begin_sim v vl e spent ev =
      let q : s.K ≡ s.D = rw e at z.writer in
      let D-pos : 1 ≤ s.D = z.inv.D-pos in
      record {
        inv = w_number_inv n s me z.quiet z.inv q;
        quiet = refl;
        fits = omega (arith, z.fits, z.stamp_is);
        shows = z.shows;
        stamp_is = z.stamp_is;
        writer = rw (upd_same b.op 0) (record { upto = pos; ahead = ap suc q; value_is = ev; done = λ i h. absurd (omega arith) });
        readers = λ i h. rw (upd_first b.op _ i) (z.readers i h);
        log_ok = rw (upd_same b.op 0)
            (log_ticket n val _ _ _ _ _ me v (log_w_begins n val _ _ _ _ _ me _ z.log_ok q v vl) (omega arith) z.inv.F-K
            (λ i f h g. floor_low n itself s i _ _ (me i).ph f (z.inv.rd i h).phase g) ev);
      }

  -- Its sub-step stores to reader m + 1, and the last one ends it.
  module _ (v m : ℕ) (cells : List Cell) (e : b.op 0 ≡ open_with v m cells) where
    w : Writing n S val s.K s.D s.w v m
    w = rw e at z.writer

    abbrev new : Cell
    new = record { value = v; stamp = b.stamp 0 + 1 }

    abbrev stored : List ℕ
    stored = store n b.table 0 (m + 1) new

    here : Link n 0 (m + 1)
    here = omega (arith, w.upto)

    new_is : new ≡ cell_of S val s.K
    new_is =
        let g : v ≡ (cell_of S val s.K).value = sym w.value_is ∙ sym (value_is S val s.K (omega (arith, w.ahead))) in
        let h : b.stamp 0 + 1 ≡ stamp_of S val s.K = omega (arith, z.stamp_is, w.ahead, z.inv.D-pos) in
        λ i. record { value = g i; stamp = h i }

    tab_reader : (i : ℕ) → i < n → view n stored 0 (suc i) ≡ cell_of S val (upd s.w m s.K i)
    tab_reader =
        upd_elim (λ i y. i < n → view n stored 0 (suc i) ≡ cell_of S val y) s.w m s.K
        (λ _. ap (λ (k : ℕ). view n stored 0 k) (sym (add-one m))
        ∙ view_same (places n) 0 (m + 1) b.table new here (rw new_is (fits_cell S val low s.K s.K (omega arith) z.fits)) z.shows.size ∙ new_is)
        (λ i ne h. view_other (places n) 0 (m + 1) b.table new here 0 (suc i) (omega arith) (inr (omega arith)) ∙ z.shows.to_reader i h)

    tab_other : (i j : ℕ) → i < n → j < n → j ≢ i → view n stored (suc i) (suc j) ≡ cell_of S val (s.x i j)
    tab_other i j hi hj ne =
        view_other (places n) 0 (m + 1) b.table new here (suc i) (suc j) (omega arith) (inl (omega arith)) ∙ z.shows.between i j hi hj ne

    all_stored : (i : ℕ) → i < m + 1 → upd s.w m s.K i ≡ s.K
    all_stored = upd_elim (λ i y. i < m + 1 → y ≡ s.K) s.w m s.K (λ _. refl) (λ i ne h. w.done i (omega arith))

    shown : Shows n S val stored (upd s.w m s.K) s.x
    shown = record { size = size_store (places n) 0 (m + 1) b.table new z.shows.size; to_reader = tab_reader; between = tab_other }

    abbrev Goes : Turn → Type 0
    Goes x = (t : St) × Sim n S val (entered b 0 2 x) t me × (t.K ≡ s.K)

    pub w_step_sim : Goes (write_turn n b.table (b.stamp 0) v m cells)
    unfolding write_turn
    w_step_sim =
        lt_ind Goes (m + 1) (write_steps n) _ _
        (λ h. (
          w_store n itself s m,
          record {
            inv = w_store_inv n itself s me m z.inv;
            quiet = z.quiet;
            fits = z.fits;
            shows = shown;
            stamp_is = upd_same b.stamp 0 _ ∙ z.stamp_is;
            writer = rw (upd_same b.op 0) (record { upto = omega arith; ahead = w.ahead; value_is = w.value_is; done = all_stored });
            readers = λ i h. rw (upd_first b.op _ i) (z.readers i h);
            log_ok = rw (upd_same b.op 0) (rw e at z.log_ok);
          },
          refl,
        ))
        (λ h. (
          w_end n itself (w_store n itself s m),
          record {
            inv = w_end_inv n itself (w_store n itself s m) me (w_store_inv n itself s me m z.inv) (λ i hi. all_stored i (omega arith));
            quiet = refl;
            fits = z.fits;
            shows = shown;
            stamp_is = upd_same b.stamp 0 _ ∙ omega (arith, z.stamp_is, w.ahead, z.inv.D-pos);
            writer = rw (upd_same b.op 0) refl;
            readers = λ i h. rw (upd_first b.op _ i) (z.readers i h);
            log_ok = rw (upd_same b.op 0) (log_w_ends n val _ _ _ _ _ me _ z.log_ok w.ahead z.inv.F-K 0);
          },
          refl,
        ))
