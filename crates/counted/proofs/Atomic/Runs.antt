-- Every list of calls leaves a book that a state of the machine is behind; so its log can be swept.
use Prim.Native.Nat.{ℕ, zero, suc, ◌+◌, ◌^◌, ◌≤◌, ◌<◌}
use mathlib.Core.Path.{◌≡◌, refl, ◌∙◌}
use mathlib.Core.Logic.{◌⊎◌}
use mathlib.Core.List.{List, [], ◌∷◌, ◌++◌}
use native.Mathlib.Omega.{arith}
use lib.ListN.{get_or}
use borrow.Author.Tests.{eqb-false}
use Rattle.history.specs.Stepwise.{Stepwise}
use Rattle.numbered.proofs.Machine.{Reader, St}
use Rattle.numbered.proofs.Start.{fresh_st, fresh_me, start_inv}
use Rattle.numbered.proofs.Log.{log_start}
use Rattle.numbered.proofs.Distinct.{itself}
use Rattle.common.specs.Calls.{LowCalls}
use Rattle.common.specs.declared.calls.Call.{Call}
use Rattle.common.specs.Book.{open_with, fresh_model, kept}
use Rattle.common.proofs.Follows.{gains, all_at, gains_all, from_start, Follows, calls_follow}
use Rattle.counted.specs.declared.Cell.{Cell}
use Rattle.counted.specs.Table.{view}
use Rattle.counted.specs.State.{last_stamp}
use Rattle.counted.specs.Reference.{Model, nth, at_writer, top_of, looks_at, book}
use Rattle.counted.proofs.Table.{fresh_length, fresh_writer_lem, fresh_reader_lem}
use Rattle.counted.proofs.Atomic.Sim.{Sim}
use Rattle.counted.proofs.Atomic.Writes.{w_begin_sim, w_step_sim}
use Rattle.counted.proofs.Atomic.Reads.{r_begin_sim, r_step_sim, meets_next}

-- A write is given its number at its begin; the values of the writes that a list begins.
abbrev at_begin : ℕ → List ℕ
at_begin v = v ∷ []

abbrev at_step : Model → ℕ → ℕ → List Cell → List ℕ
at_step b v m cells = []

abbrev written : ℕ → ℕ → Model → List Call → List ℕ
written n len = gains book n len at_begin at_step

module _ (n : ℕ) (pos : 1 ≤ n) (few : n ≤ 16) (len S : ℕ) (val : ℕ → ℕ) (low : (k : ℕ) → val k < 2 ^ 32) where
  abbrev State : Type 0
  State = St × (ℕ → Reader)

  follows : Follows book n len at_begin at_step val (λ (s : State). s.0.K) (λ b s. Sim n S val b s.0 s.1)
  follows = record {
    write_begins = λ b s xs v vl e g z f.
        ((_, s.1), w_begin_sim n pos S val low b s.0 s.1 z v vl e (eqb-false (b.stamp 0) last_stamp g) f.0, f.1);
    write_steps_lem = λ b s xs v m cells e z f. let r = w_step_sim n pos S val low b s.0 s.1 z v m cells e in ((r.0, s.1), r.1, rw r.2 f);
    read_begins = λ b s i h e z. let r = r_begin_sim n few S val low b s.0 s.1 i h z e in ((r.0, r.1), r.2, r.3);
    read_steps_lem = λ b s i v m cells h e z. let r = r_step_sim n few S val low b s.0 s.1 i h z v m cells e in ((r.0, r.1), r.2, r.3);
    retires = λ b s p z. record {
      inv = z.inv;
      quiet = z.quiet;
      fits = z.fits;
      shows = z.shows;
      stamp_is = z.stamp_is;
      writer = z.writer;
      readers = z.readers;
      log_ok = z.log_ok;
    };
  }

-- The start counts as write 1.
module _ (n len v S : ℕ) (cs : List Call) (pos : 1 ≤ n) (few : n ≤ 16) (v_low : v < 2 ^ 32) (S-low : S < 2 ^ 32) (lows : LowCalls cs) where
  all : List ℕ
  all = v ∷ v ∷ written n len (fresh_model book n v S) cs

  val : ℕ → ℕ
  val k = get_or all k 0

  low : (k : ℕ) → val k < 2 ^ 32
  unfolding val all
  low k =
      all_at (λ x. x < 2 ^ 32) 0 (omega arith) all k
      (v_low, (v_low, gains_all book n len at_begin at_step (λ x. x < 2 ^ 32) (λ _. Unit {0}) (λ v h. (h, tt)) (λ _ _ _ _ _ _. tt) (λ _ _ _ _. tt) (fresh_model book n v S) cs lows tt))

  fresh_sim : Sim n S val (fresh_model book n v S) fresh_st fresh_me
  unfolding val all
  fresh_sim =
      let e : S ≡ S + 0 = omega arith in
      record {
        inv = start_inv n itself (omega arith);
        quiet = refl;
        fits = omega arith;
        shows = record {
          size = omega (arith, fresh_length n v S pos);
          to_reader = λ i h. fresh_writer_lem n v S (suc i) (omega arith) (omega arith) ∙ (λ j. record { value = v; stamp = e j });
          between = λ i j hi hj ne. fresh_reader_lem n v S (suc i) (suc j) (omega arith) (omega arith) (omega arith) ∙ (λ k. record { value = 0; stamp = e k });
        };
        stamp_is = e;
        writer = refl;
        readers = λ i _. tt;
        log_ok = log_start n val v v_low refl refl;
      }

  abbrev b : Model
  b = (kept book n len (fresh_model book n v S) cs).model

  model_sim : (s : St × (ℕ → Reader)) × Sim n S val b s.0 s.1
  unfolding val all
  model_sim =
      calls_follow book n len at_begin at_step val _ _ (follows n pos few len S val low) (fresh_model book n v S) (fresh_st, fresh_me) cs lows fresh_sim
      (from_start 0 v v (written n len (fresh_model book n v S) cs))

  pub model_swept : (F : ℕ) × (fl : ℕ → ℕ) × (w : ℕ) × Stepwise (kept book n len (fresh_model book n v S) cs).model.rows F fl w
  model_swept = (_, _, _, model_sim.1.log_ok.swept)

  -- "the largest stamp a read meets is the one it finds at the writer or one more"
  pub model_meets : (p : ℕ) → 1 ≤ p → p ≤ n → (u m : ℕ) (cells : List Cell) → b.op p ≡ open_with u m cells → m + 1 ≡ n
      → let all = cells ++ (view n b.table (looks_at n p m) p ∷ []) in
      let x = nth all (at_writer n) in (top_of all ≡ x.stamp) ⊎ (top_of all ≡ x.stamp + 1)
  model_meets zero p1 pn u m cells e last = absurd (omega arith)
  model_meets (suc i) p1 pn u m cells e last = meets_next n few S val low b model_sim.0.0 model_sim.0.1 i pn model_sim.1 u m cells e last
