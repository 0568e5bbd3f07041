-- Demand 3, as far as it is the same for both registers.
use Rattle.std.specs.Prelude.{Ok, Err}
use Prim.Native.Nat.{ℕ, ◌+◌, ◌^◌, ◌≤◌, ◌<◌}
use native.Mathlib.Omega.{arith}
use mathlib.Core.Bool.{true, false}
use mathlib.Core.Path.{◌≡◌, refl, sym, subst, ap, ◌∙◌}
use mathlib.Core.List.{List}
use lib.Dec.{T}
use lib.ListN.{length, length-set}
use lib.Seq.{take_at, drop_at}
use Rattle.words.specs.Counting.{one}
use Rattle.history.specs.Stepwise.{Stepwise}
use Rattle.history.specs.WellFormed.{well_formed}
use Rattle.history.proofs.Theorems.{swept_ordered, swept_without_bands}
use Rattle.common.specs.Calls.{Call, step, retire, CallBy}
use Rattle.common.specs.Moves.{Moves}
use Rattle.common.specs.declared.Done.TheVariants.{Accepted}
use Rattle.common.specs.declared.Refusal.TheVariants.{Retired}
use Rattle.common.specs.declared.Writer.{Writer}
use Rattle.common.specs.declared.Reader.{Reader}
use Rattle.common.specs.State.{is_retired}
use Rattle.common.specs.Effects.{Stand}
use Rattle.common.specs.Rules.{Rules}
use Rattle.common.specs.SetUp.{set_up_of}
use Rattle.common.specs.Register.{call_of, Ran, ran_from}
use Rattle.common.specs.Book.{Operation, is_open, Model, Telling, open_count, told, fresh_model}
use Rattle.common.specs.Whole.{model_of, still, next, AsBook}
use Rattle.common.proofs.Lawful.{Lawful, Wired, Simulates}
use Rattle.common.proofs.Range.{range_test, reader_open}
use Rattle.common.proofs.Run.{FromSetUp, from_set_up, kept_fine}
use Rattle.common.proofs.Formed.{rows_formed}
use Rattle.common.proofs.Refine.{open_is, call_rel}
use Rattle.common.proofs.Counts.{out_told, retires_to}
use Rattle.common.proofs.Effects.{retires_still}
use Rattle.common.proofs.Stands.{call_stands}

module _ {Stamp Cell : Type 0} (R : Rules) (B : Telling Stamp Cell) (WIs : ℕ → Writer → Stamp → Operation Cell → Type 0)
    (RIs : ℕ → Reader → Stamp → Operation Cell → Type 0) (W : Lawful R) (S : Simulates R B WIs RIs)
    (n v fresh : ℕ) (low : fresh < 2 ^ 32) (t l : List ℕ) (cs : List Call) (e : (set_up_of R n v fresh t l).answer ≡ Ok Accepted) where
  abbrev r : Ran
  r = ran_from R n v fresh t l cs

  abbrev b : Model Stamp Cell
  b = (model_of B n v fresh l cs).model

  pub start : FromSetUp R B WIs RIs n v fresh t l (set_up_of R n v fresh t l) cs
  start = from_set_up R B WIs RIs W S n v fresh low t l cs e

  pub n_is : (ran_from R n v fresh t l cs).state.head.n ≡ n
  n_is = start.runs.n_same ∙ start.n_is

  pub rows_is : (ran_from R n v fresh t l cs).state.head.rows ≡ length l
  rows_is = start.runs.rows_same ∙ start.rows_is

  pub full : length (set_up_of R n v fresh t l).log ≡ (ran_from R n v fresh t l cs).state.head.rows
  full = ap length start.log_is ∙ length-set l 0 _ ∙ sym rows_is

  size : length (model_of B n v fresh l cs).model.table ≡ R.cells n
  size = start.runs.rel.size_is ∙ ap R.cells n_is

  -- The sub-step that follows, with the state's n and rows as set-up had them: it ends at f n.
  pub as_set_up : (p m : ℕ) (f : ℕ → ℕ)
      → Moves (call_of R r.state r.table r.log (step p)).answer (is_open ((told B r.state.head.n r.state.head.rows b (step p)).model.op p)) m (f r.state.head.n)
      → Moves (next R n v fresh t l cs (step p)).answer (still B n v fresh l cs p) m (f n)
  as_set_up p m f h =
      subst (λ (k : ℕ). Moves (call_of R r.state r.table r.log (step p)).answer (is_open ((told B k (length l) b (step p)).model.op p)) m (f k)) n_is
      (subst (λ (k : ℕ). Moves (call_of R r.state r.table r.log (step p)).answer (is_open ((told B r.state.head.n k b (step p)).model.op p)) m (f r.state.head.n)) rows_is h)

  formed : T (well_formed (model_of B n v fresh l cs).model.rows)
  formed = rows_formed B n start.n_high (length l) (S.write_value n) v fresh cs start.n_low

  retired_are : (p : ℕ) → p ≤ n → is_retired (ran_from R n v fresh t l cs).state p ≡ (model_of B n v fresh l cs).model.retired p
  retired_are p h = start.runs.rel.retired_are p (omega (arith, n_is))

  -- A retired reader's call is refused.
  out_13 : (p : ℕ) → 1 ≤ p → p ≤ n → b.retired p ≡ true → (c : Call) → CallBy p c → (next R n v fresh t l cs c).answer ≡ Err Retired
  out_13 p p1 pn gone c by =
      (call_rel R B WIs RIs W S _ _ r.state r.table r.log b start.runs.good start.runs.rel full c).answer_is
      ∙ out_told B r.state.head.n r.state.head.rows b p p1 (omega (arith, n_is)) gone c by

  -- A retirement moves no word and adds no row.
  quiet : (p : ℕ)
      → ((next R n v fresh t l cs (retire p)).table ≡ (ran_from R n v fresh t l cs).table) × ((next R n v fresh t l cs (retire p)).log ≡ (ran_from R n v fresh t l cs).log)
  unfolding call_of
  quiet p = retires_still R r.state r.table r.log p

  -- The number of open operations is the count, and the book's.
  opens_in_book : (ran_from R n v fresh t l cs).state.head.opens ≡ open_count n (model_of B n v fresh l cs).model
  opens_in_book =
      start.runs.good.ok.head_good.opens_is
      ∙ open_is R B WIs RIs W S _ _ r.state r.table r.log b start.runs.good start.runs.rel full
      ∙ ap (λ (k : ℕ). open_count k b) n_is

  -- A retirement takes the reader's operation out of it.
  frees : (p : ℕ) → 1 ≤ p → p ≤ n → b.retired p ≡ false
      → (next R n v fresh t l cs (retire p)).state.head.opens + one (is_open (b.op p)) ≡ (ran_from R n v fresh t l cs).state.head.opens
  frees p p1 pn free =
      let s = r.state in
      let g = start.runs.good in
      let h : p ≤ r.state.head.n = omega (arith, n_is) in
      let out = retired_are p pn ∙ free in
      rw (retires_to R s r.table r.log p (range_test R _ _ _ g.ok) p1 h out, ← S.open_r _ _ _ _ (start.runs.rel.readers_are p p1 h))
      (omega (arith, reader_open s p p1 out h R _ _ g.ok))

  module _ (place : ℕ → ℕ → ℕ → ℕ) (Has : ℕ → ℕ → ℕ → Type 0) (D : Wired R place Has) where
    remains : (p : ℕ) → p ≤ n → b.retired p ≡ true → (c : Call)
        → Stand (place r.state.head.n) (Has r.state.head.n) p r.table (next R n v fresh t l cs c).table × (is_retired (next R n v fresh t l cs c).state p ≡ true)
    remains p h gone c = call_stands R place Has D r.state r.table r.log p (retired_are p h ∙ gone) c

    pub cells_stand : (p : ℕ) → p ≤ n → b.retired p ≡ true → (c : Call)
        → Stand (place n) (Has n) p (ran_from R n v fresh t l cs).table (next R n v fresh t l cs c).table
    cells_stand p h gone c = subst (λ (k : ℕ). Stand (place k) (Has k) p r.table (next R n v fresh t l cs c).table) n_is (remains p h gone c).0

    -- A log that is swept row by row has an order, and no row of it is a band.
    pub as_book : (F : ℕ) × (fl : ℕ → ℕ) × (w : ℕ) × Stepwise b.rows F fl w → AsBook R B n v fresh t l cs
    as_book swept =
        let A = start.runs.rel in
        record {
          answers_are = start.runs.answers_are;
          cells_are = rw A.table_is (take_at b.table _ (R.cells n) size);
          used_is = A.used_is;
          rows_are = rw (A.log_is, A.used_is) (take_at b.rows _ _ refl);
          retired_are = retired_are;
          moves_nothing = quiet;
          opens_is = start.runs.good.ok.head_good.opens_is;
          opens_in_book = opens_in_book;
          frees = frees;
          out = λ p p1 pn gone. record { thirteen = out_13 p p1 pn gone; for_good = λ c. (remains p pn gone c).1 };
          cells_beyond = rw A.table_is (drop_at b.table _ (R.cells n) size ∙ sym start.beyond);
          rows_beyond = rw (A.log_is, A.used_is) (drop_at b.rows _ _ refl);
          question_4 = rw start.runs.answers_are (kept_fine B n (length l) (fresh_model B n v fresh) cs);
          passes_4 = range_test R _ _ _ start.runs.good.ok;
          formed = formed;
          ordered = swept_ordered _ formed swept.3;
          no_bands = swept_without_bands _ formed swept.3;
        }
