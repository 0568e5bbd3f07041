-- Whole runs: from an accepted set-up, the calls and the book stay related.
use Rattle.std.specs.Prelude.{Ok}
use Prim.Native.Nat.{ℕ, zero, suc, ◌-◌, ◌^◌, ◌≤◌, ◌<◌}
use mathlib.Core.Path.{◌≡◌, refl, sym, ap, ◌∙◌}
use mathlib.Core.List.{List, [], ◌∷◌, ◌++◌}
use mathlib.Core.Bool.{Bool, true, false, not, ◌&&◌}
use native.Mathlib.Omega.{arith}
use lib.ListN.{length, get_or, set, drop, replicate, length-set, length-append, length-drop, get_or-replicate}
use lib.Seq.{drop_at, drop-set-lt}
use lib.Dec.{eqb}
use Rattle.words.proofs.Laws.Choice.{pick_ind, le_ind}
use Rattle.words.proofs.Laws.Counting.{count_nowhere}
use Rattle.common.specs.Answers.{number_of, never4}
use Rattle.common.specs.Calls.{Call, write, read, step, retire}
use Rattle.common.specs.declared.Done.TheVariants.{Accepted}
use Rattle.common.specs.declared.Writer.{Writer}
use Rattle.common.specs.declared.Reader.{Reader}
use Rattle.common.specs.declared.State.{State}
use Rattle.common.specs.Effects.{SetsUp}
use Rattle.common.specs.State.{blank, reader_at, is_retired, as_counted}
use Rattle.common.specs.Rules.{Rules}
use Rattle.common.specs.SetUp.{Outcome, fresh_reader, fresh_state, start_row, set_up_of}
use Rattle.common.specs.Register.{call_of, Ran, run_of}
use Rattle.common.specs.Book.{Operation, idle, open_with, is_open, Model, Telling, Told, Kept, begun, of_processor, begins, begins_write, moves_write, moves_read, told, fresh_model, kept}
use Rattle.common.specs.Whole.{model_of}
use Rattle.common.proofs.SetUpMeaning.{set_up_if, set_up_leaves}
use Rattle.common.proofs.LogRows.{start_rows}
use Rattle.common.proofs.Range.{range_test}
use Rattle.common.proofs.Lawful.{Lawful, Simulates}
use Rattle.common.proofs.Asked.{of_processor_lem}
use Rattle.common.proofs.Keep.{Good, call_stays}
use Rattle.common.proofs.Refine.{Rel, call_rel}

all_alike : (i : ℕ) → i < 16 → get_or (replicate 16 fresh_reader) i blank ≡ fresh_reader
all_alike i h = get_or-replicate 16 i fresh_reader blank h

module _ {Stamp Cell : Type 0} (R : Rules) (B : Telling Stamp Cell) (WIs : ℕ → Writer → Stamp → Operation Cell → Type 0)
    (RIs : ℕ → Reader → Stamp → Operation Cell → Type 0) where
  -- After a list of calls. X: the cells behind the table's; L: the log as set-up left it.
  pub record RunRel (X L : List ℕ) (s : State) (r : Ran) (k : Kept Stamp Cell) : Type 0 where
    pub answers_are : r.answers ≡ k.answers
    pub n_same : r.state.head.n ≡ s.head.n
    pub rows_same : r.state.head.rows ≡ s.head.rows
    pub rel : Rel R B WIs RIs X L r.state r.table r.log k.model
    pub good : Good R r.state (length r.table) (length r.log)

  -- What an accepted set-up leads to.
  pub record FromSetUp (n v fresh : ℕ) (t l : List ℕ) (o : Outcome) (cs : List Call) : Type 0 where
    pub runs : RunRel (drop (R.cells n) t) o.log o.state (run_of R o.state o.table o.log cs) (model_of B n v fresh l cs)
    pub beyond : drop (R.cells n) o.table ≡ drop (R.cells n) t
    pub n_is : o.state.head.n ≡ n
    pub rows_is : o.state.head.rows ≡ length l
    pub log_is : o.log ≡ set l 0 (start_row n v)
    pub n_low : 1 ≤ n
    pub n_high : n ≤ 16

  module _ (W : Lawful R) (S : Simulates R B WIs RIs) where
    run_rel : (X L : List ℕ) (cs : List Call) (s : State) (t l : List ℕ) (b : Model Stamp Cell) → Good R s (length t) (length l) → Rel R B WIs RIs X L s t l b
        → length L ≡ s.head.rows → RunRel X L s (run_of R s t l cs) (kept B s.head.n s.head.rows b cs)
    unfolding run_of kept
    run_rel X L [] s t l b g A full = record { answers_are = refl; n_same = refl; rows_same = refl; rel = A; good = g }
    run_rel X L (c ∷ cs) s t l b g A full =
        let o = call_of R s t l c in
        let x = told B s.head.n s.head.rows b c in
        let k = call_stays R W s t l g c in
        let C = call_rel R B WIs RIs W S X L s t l b g A full c in
        let rs : o.state.head.rows ≡ s.head.rows = sym k.good.ok.head_good.log_is ∙ g.ok.head_good.log_is in
        let g' : Good R o.state (length o.table) (length o.log) = rw (k.cells_same, k.rows_same) k.good in
        let z = run_rel X L cs o.state o.table o.log x.model g' C.rel (full ∙ sym rs) in
        let z' : RunRel X L o.state (run_of R o.state o.table o.log cs) (kept B s.head.n s.head.rows x.model cs) = rw (k.n_same, rs) at z in
        record {
          answers_are = (λ i. C.answer_is i ∷ z'.answers_are i);
          n_same = z'.n_same ∙ k.n_same;
          rows_same = z'.rows_same ∙ rs;
          rel = z'.rel;
          good = z'.good;
        }

    -- The fresh state.
    module _ (n v fresh : ℕ) (t l : List ℕ) (n1 : 1 ≤ n) (n16 : n ≤ 16) (low : fresh < 2 ^ 32) (ct : R.cells n ≤ length t) (l3 : 3 ≤ length l) (l4 : length l ≤ 4096) where
      abbrev s₀ : State
      s₀ = fresh_state R.counted n fresh (length l)

      abbrev t₀ : List ℕ
      t₀ = R.fresh_cells n v fresh ++ drop (R.cells n) t

      abbrev l₀ : List ℕ
      l₀ = set l 0 (start_row n v)

      t_long : length t₀ ≡ length t
      t_long = simp (length-append, length-drop) (omega (arith, W.fresh_length n v fresh n1))

      fresh_good : Good R s₀ (length t₀) (length l₀)
      fresh_good = record {
        sized = refl;
        ok = record {
          head_good = record {
            n_low = n1;
            n_high = n16;
            cells_are = omega (arith, t_long);
            log_is = simp length-set;
            rows_low = l3;
            rows_high = l4;
            used_low = omega arith;
            opens_is = omega (arith, count_nowhere n (λ i. (as_counted (reader_at s₀ i)).active) (λ i h. ap (λ (r : Reader). (as_counted r).active) (all_alike i (omega arith))));
            room = omega arith;
          };
          writer_passes = W.fresh_writer_lem n fresh;
          readers_pass = λ i h. rw (all_alike i (omega arith)) (W.fresh_reader_lem n);
        };
      }

      fresh_rel : Rel R B WIs RIs (drop (R.cells n) t) l₀ s₀ t₀ l₀ (fresh_model B n v fresh)
      fresh_rel = record {
        table_is = ap (λ (c : List ℕ). c ++ drop (R.cells n) t) (S.fresh_table_lem n v fresh n1);
        size_is = ap length (sym (S.fresh_table_lem n v fresh n1)) ∙ W.fresh_length n v fresh n1;
        used_is = refl;
        log_is = start_rows l (start_row n v) l3;
        writer_is = S.fresh_w n fresh low;
        readers_are = λ p h1 h2. rw (all_alike (p - 1) (omega arith)) (S.fresh_r n fresh p h1);
        retired_are = λ p h. none p h;
      }
        where
          none : (p : ℕ) → p ≤ n → is_retired s₀ p ≡ false
          none zero h = refl
          none (suc k) h = rw (all_alike (suc k - 1) (omega arith)) (at (eqb (suc k) 0))
            where
              at : (b : Bool) → (not b && false) ≡ false
              at true = refl
              at false = refl

    pub from_set_up : (n v fresh : ℕ) → fresh < 2 ^ 32 → (t l : List ℕ) (cs : List Call) → (set_up_of R n v fresh t l).answer ≡ Ok Accepted
        → FromSetUp n v fresh t l (set_up_of R n v fresh t l) cs
    from_set_up n v fresh low t l cs e =
        let F = (set_up_if R n v fresh t l).0 (ap number_of e) in
        let n1 = F.readers.low in
        let n16 = F.readers.high in
        let l3 = F.log.low in
        let l4 = F.log.high in
        rw (set_up_leaves R n v fresh t l F)
        (record {
          runs = run_rel (drop (R.cells n) t) (set l 0 (start_row n v)) cs (fresh_state R.counted n fresh (length l)) (R.fresh_cells n v fresh ++ drop (R.cells n) t) (set l 0 (start_row n v)) (fresh_model B n v fresh)
              (fresh_good n v fresh t l n1 n16 low F.enough l3 l4) (fresh_rel n v fresh t l n1 n16 low F.enough l3 l4) (simp length-set);
          beyond = drop_at (R.fresh_cells n v fresh) (drop (R.cells n) t) (R.cells n) (W.fresh_length n v fresh n1);
          n_is = refl;
          rows_is = refl;
          log_is = refl;
          n_low = n1;
          n_high = n16;
        })

    -- "Set-up writes row 0 only", "The fresh state passes 4 with its table and log"
    pub sets_up : (n v fresh : ℕ) (t l : List ℕ) → fresh < 2 ^ 32 → (set_up_of R n v fresh t l).answer ≡ Ok Accepted → SetsUp R n t l (set_up_of R n v fresh t l)
    unfolding run_of
    sets_up n v fresh t l low e =
        let z = from_set_up n v fresh low t l [] e in
        record {
          cells_beyond = z.beyond;
          rows_beyond = ap (drop 1) z.log_is ∙ drop-set-lt 1 l 0 (start_row n v) (omega arith);
          passes = record { is_in_range = range_test R _ _ _ z.runs.good.ok; opens_is = z.runs.good.ok.head_good.opens_is };
        }

-- The book never gives refusal 4.
module _ {Stamp Cell : Type 0} (B : Telling Stamp Cell) (n len : ℕ) where
  abbrev Fine : Told Stamp Cell → Type 0
  Fine x = not (eqb (number_of x.answer) 4) ≡ true

  begins_fine : (b : Model Stamp Cell) (p : ℕ) (x : Told Stamp Cell) → Fine x → Fine (begins n len b p x)
  unfolding begins
  begins_fine b p x h = pick_ind Fine (is_open (b.op p)) _ _ (λ _. refl) (λ _. le_ind Fine _ len _ _ (λ _. h) (λ _. refl))

  of_fine : (b : Model Stamp Cell) (least p : ℕ) (x : Told Stamp Cell) → Fine x → Fine (of_processor n b least p x)
  of_fine b least p x h = of_processor_lem Fine n b refl refl least p x (λ _ _ _. h)

  told_fine : (b : Model Stamp Cell) (c : Call) → Fine (told B n len b c)
  unfolding told
  told_fine b (write v) = begins_fine b 0 (begins_write B b v) (pick_ind Fine (B.spent (b.stamp 0)) _ _ (λ _. refl) (λ _. refl))
  told_fine b (read p) = of_fine b 1 p _ (begins_fine b p (begun b p 3 0) refl)
  told_fine b (step p) = of_fine b 0 p _ (pick_ind Fine (eqb p 0) _ _ (λ _. at_w (b.op 0)) (λ _. at_r (b.op p)))
    where
      at_w : (q : Operation Cell) → Fine (moves_write B n b q)
      at_w idle = refl
      at_w (open_with v m cells) = refl

      at_r : (q : Operation Cell) → Fine (moves_read B n b p q)
      at_r idle = refl
      at_r (open_with v m cells) = refl
  told_fine b (retire p) = of_fine b 1 p _ refl

  pub kept_fine : (b : Model Stamp Cell) (cs : List Call) → never4 (kept B n len b cs).answers ≡ true
  unfolding kept
  kept_fine b [] = refl
  kept_fine b (c ∷ cs) = rw (told_fine b c, kept_fine (told B n len b c).model cs)
