-- Every list of calls leaves a log that can be swept.
use Prim.Native.Nat.{ℕ, suc, ◌^◌, ◌≤◌, ◌<◌}
use mathlib.Core.Path.{◌≡◌, refl, ap}
use mathlib.Core.List.{List, ◌∷◌, ◌++◌}
use native.Mathlib.Omega.{arith}
use lib.ListN.{get_or}
use Rattle.words.specs.declared.cell.Cell.{Cell}
use Rattle.words.proofs.Laws.Choice.{eq_ind}
use Rattle.history.specs.Stepwise.{Stepwise}
use Rattle.numbered.proofs.Machine.{Reader, St}
use Rattle.numbered.proofs.Start.{fresh_st, fresh_me, start_inv}
use Rattle.numbered.proofs.Log.{log_start}
use Rattle.common.specs.Book.{open_with, entered, fresh_model, kept}
use Rattle.common.specs.Calls.{LowCalls}
use Rattle.common.specs.declared.calls.Call.{Call}
use Rattle.common.proofs.Follows.{all_at, Future, from_start, Follows, calls_follow}
use Rattle.protocol.specs.Reference.{Model, book}
use Rattle.protocol.proofs.Table.{fresh_length, fresh_writer_lem, fresh_reader_lem}
use Rattle.protocol.proofs.Atomic.Cells.{Low}
use Rattle.protocol.proofs.Atomic.Sim.{Sim}
use Rattle.protocol.proofs.Atomic.Writes.{w_begin_sim, w_step_sim}
use Rattle.protocol.proofs.Atomic.Reads.{r_begin_sim, r_step_sim}
use Rattle.protocol.proofs.Atomic.Taken.{Taken, no_ticket, Small, at_begin, at_step, tickets, tickets_low}

module _ (n : ℕ) (pos : 1 ≤ n) (few : n ≤ 16) (len : ℕ) (given : ℕ → Taken) where
  abbrev State : Type 0
  State = St × (ℕ → Reader)

  abbrev c : ℕ → ℕ
  c k = (given k).ticket

  abbrev val : ℕ → ℕ
  val k = (given k).value

  -- a state behind the book, and the rest of the tickets
  abbrev After : List Taken → Model → Type 0
  After xs b = (s : State) × Sim n c val b s.0 s.1 × Future given s.0.K xs

  module _ (low : Low c val) where
    steps_write : (b : Model) (s : State) (xs : List Taken) (v m : ℕ) (cells : List Cell) → b.op 0 ≡ open_with v m cells → Sim n c val b s.0 s.1
        → Future given s.0.K (at_step n b v m cells ++ xs) → After xs (entered b 0 2 (book.write_turn n b.table (b.stamp 0) v m cells))
    steps_write b s xs v m cells e z =
        eq_ind
        (λ (l : List Taken). Future given s.0.K (l ++ xs) → After xs (entered b 0 2 (book.write_turn n b.table (b.stamp 0) v m cells))) m n _ _
        (λ q f.
        let r = w_step_sim n pos c val low b s.0 s.1 v m cells e z (λ _. (ap (λ (x : Taken). x.ticket) f.0, ap (λ (x : Taken). x.value) f.0)) in
        ((r.0, s.1), r.1, rw (r.2 q) f.1))
        (λ q f. let r = w_step_sim n pos c val low b s.0 s.1 v m cells e z (λ g. absurd (q g)) in ((r.0, s.1), r.1, rw (r.3 q) f))

    follows : Follows book n len at_begin (at_step n) given (λ (s : State). s.0.K) (λ b s. Sim n c val b s.0 s.1)
    follows = record {
      write_begins = λ b s xs v vl e _ z f. ((_, s.1), w_begin_sim n pos c val low b s.0 s.1 v vl e z, f);
      write_steps_lem = steps_write;
      read_begins = λ b s i h e z. let r = r_begin_sim n few c val low b s.0 s.1 i h z e in ((r.0, r.1), r.2, r.3);
      read_steps_lem = λ b s i v m cells h e z. let r = r_step_sim n few c val low b s.0 s.1 i h z v m cells e in ((r.0, r.1), r.2, r.3);
      retires = λ b s p z. record {
        inv = z.inv;
        size = z.size;
        to_reader = z.to_reader;
        to_writer = z.to_writer;
        between = z.between;
        own_w = z.own_w;
        own_r = z.own_r;
        readers = z.readers;
        writer = z.writer;
        log_ok = z.log_ok;
      };
    }

-- The start counts as write 1, with ticket 0 behind ticket 1.
module _ (n len v : ℕ) (cs : List Call) (pos : 1 ≤ n) (few : n ≤ 16) (v_low : v < 2 ^ 32) (lows : LowCalls cs) where
  all : List Taken
  all = record { ticket = 1; value = v } ∷ record { ticket = 0; value = v } ∷ tickets n len (fresh_model book n v 0) cs

  given : ℕ → Taken
  given k = get_or all k no_ticket

  abbrev c₀ : ℕ → ℕ
  c₀ k = (given k).ticket

  abbrev val₀ : ℕ → ℕ
  val₀ k = (given k).value

  low : Low c₀ val₀
  unfolding given all
  low =
      let h : (k : ℕ) → Small (given k) =
      λ k. all_at Small no_ticket (omega arith) all k ((omega arith, v_low), ((omega arith, v_low), tickets_low n few len (fresh_model book n v 0) cs lows refl)) in
      record { ticket_low = λ k. (h k).0; value_low = λ k. (h k).1 }

  fresh_sim : Sim n c₀ val₀ (fresh_model book n v 0) fresh_st fresh_me
  unfolding given all
  fresh_sim = record {
    inv = start_inv n c₀ (omega arith);
    size = omega (arith, fresh_length n v);
    to_reader = λ i h. fresh_writer_lem n (suc i) v v_low (omega arith) (omega arith);
    to_writer = λ i h. fresh_reader_lem n (suc i) 0 v (omega arith) (omega arith);
    between = λ i j hi hj ne. fresh_reader_lem n (suc i) (suc j) v (omega arith) (omega arith);
    own_w = refl;
    own_r = λ i _. refl;
    readers = λ i _. tt;
    writer = (refl, refl);
    log_ok = log_start n val₀ v v_low refl refl;
  }

  pub model_swept : (F : ℕ) × (fl : ℕ → ℕ) × (w : ℕ) × Stepwise (kept book n len (fresh_model book n v 0) cs).model.rows F fl w
  unfolding given all
  model_swept =
      let r =
      calls_follow book n len at_begin (at_step n) given _ _ (follows n pos few len given low) (fresh_model book n v 0) (fresh_st, fresh_me) cs lows fresh_sim
      (from_start no_ticket (record { ticket = 1; value = v }) (record { ticket = 0; value = v }) (tickets n len (fresh_model book n v 0) cs)) in
      (_, _, _, r.1.log_ok.swept)
