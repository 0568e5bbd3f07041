-- The recursions in the loops' direction, and the test of the rows.
use Prim.Native.Nat.{ℕ, suc, zero, ◌≤◌, ◌<◌, ◌+◌, max}
use native.Mathlib.Omega.{arith}
use native.Mathlib.Numerals.{add-one}
use native.Mathlib.Decide.{ℕ_discrete, dec_lt}
use mathlib.Core.Path.{◌≡◌, refl, sym, ap}
use mathlib.Core.Bool.{true, false}
use mathlib.Core.List.{List, []}
use lib.Dec.{T, eqb, leb, ltb, leb→le, ltb→lt, lt→ltb}
use lib.ListN.{length, get_or, set, replicate, length-set, get_or-replicate, get_or-eq_default}
use lib.Seq.{get_or-set_same, get_or-set_other}
use borrow.Author.Tests.{eq-eqb, ne_eqb, le-ltb}
use Rattle.words.specs.Choice.{pick}
use Rattle.words.proofs.Laws.Choice.{pick_T, and_T, T-left, T-right, T→true, not→false}
use Rattle.judging.proofs.FoldLaws.{up_to_one, up_to_suc}
use Rattle.history.specs.Rows.{processor_at, begins_at, begins, kind_bits, kind_of, processor_of}
use Rattle.history.specs.WellFormed.{open_at, head_ok, is_reader, fields_ok, alternates, row_ok, all, well_formed}
use Rattle.history.proofs.Operations.{fields→}
use Rattle.history.proofs.WellFormed.{row_passes}
use Rattle.words.specs.Row.{zero_bits}
use Rattle.judging.specs.Fold.{up_to}
use Rattle.judging.specs.Rowwise.{processors, Sweep, open_after, opens_to, row_place, place_row, floor_after, missing_after, next_state, fresh_sweep, sweep_to}
use Rattle.judging.specs.Answer.{count_after, begins_to}
use Rattle.judging.specs.Keys.{add_key, keys_to}

module _ (log : List ℕ) where
  pub opens_suc : (k : ℕ) → 0 < k → opens_to log (k + 1) ≡ set (opens_to log k) (processor_of (get_or log k 0)) (open_after (get_or log k 0) k)
  unfolding opens_to
  opens_suc k a = up_to_suc _ _ k a

  pub begins_suc : (k : ℕ) → 0 < k → begins_to log (k + 1) ≡ count_after (get_or log k 0) (begins_to log k)
  unfolding begins_to
  begins_suc k a = up_to_suc _ _ k a

  pub begins_one : begins_to log 1 ≡ 0
  unfolding begins_to
  begins_one = up_to_one _ _

  pub sweep_one : sweep_to log 1 ≡ fresh_sweep (length log)
  unfolding sweep_to
  sweep_one = up_to_one _ _

  pub sweep_suc : (k : ℕ) → 0 < k → sweep_to log (k + 1) ≡ next_state (sweep_to log k) (get_or log k 0) k (row_place log (sweep_to log k) k)
  unfolding sweep_to
  sweep_suc k a = up_to_suc _ _ k a

  pub begins_next : (k : ℕ) → 0 < k → (sweep_to log (k + 1)).begins ≡ set (sweep_to log k).begins (processor_of (get_or log k 0)) (open_after (get_or log k 0) k)
  unfolding next_state
  begins_next k a = ap (λ (s : Sweep). s.begins) (sweep_suc k a)

  pub floors_next : (k : ℕ) → 0 < k
      → (sweep_to log (k + 1)).floors ≡ set (sweep_to log k).floors (processor_of (get_or log k 0)) (floor_after (get_or log k 0) (get_or (sweep_to log k).floors (processor_of (get_or log k 0)) 0) (sweep_to log k).top)
  unfolding next_state
  floors_next k a = ap (λ (s : Sweep). s.floors) (sweep_suc k a)

  pub top_next : (k : ℕ) → 0 < k → (sweep_to log (k + 1)).top ≡ max (sweep_to log k).top (row_place log (sweep_to log k) k)
  unfolding next_state
  top_next k a = ap (λ (s : Sweep). s.top) (sweep_suc k a)

  pub missing_next : (k : ℕ) → 0 < k
      → (sweep_to log (k + 1)).missing ≡ missing_after (get_or log k 0) k (row_place log (sweep_to log k) k) (get_or (sweep_to log k).begins (processor_of (get_or log k 0)) 0) (sweep_to log k).missing
  unfolding next_state
  missing_next k a = ap (λ (s : Sweep). s.missing) (sweep_suc k a)

  -- Where there is no row, nothing is raised.
  pub place_outside : (k b f : ℕ) → length log ≤ k → 0 ≡ place_row log k b f
  unfolding place_row kind_of
  place_outside k b f a = rw (get_or-eq_default log 0 a)

  pub keys_one : keys_to log 1 ≡ []
  unfolding keys_to
  keys_one = up_to_one _ _

  pub keys_suc : (k : ℕ) → 0 < k
      → keys_to log (k + 1) ≡ add_key (get_or log k 0) (get_or (sweep_to log k).begins (processor_of (get_or log k 0)) 0) (row_place log (sweep_to log k) k) (keys_to log k)
  unfolding keys_to
  keys_suc k a = up_to_suc _ _ k a

  pub opens_one : opens_to log 1 ≡ replicate processors 0
  unfolding opens_to
  opens_one = up_to_one _ _

  pub length_opens : (k : ℕ) → 0 < k → length (opens_to log k) ≡ processors
  length_opens zero a = absurd (omega arith)
  length_opens (suc zero) a = rw opens_one
  length_opens (suc (suc k)) a = rw (← add-one (suc k), opens_suc (suc k) (omega arith), length-set) (length_opens (suc k) (omega arith))

  -- The array holds what the definition says of each processor.
  pub opens_at : (i k : ℕ) → i < processors → 0 < k → get_or (opens_to log k) i 0 ≡ open_at log i k
  unfolding open_at open_after processor_at
  opens_at i zero a b = absurd (omega arith)
  opens_at i (suc zero) a b = rw opens_one (get_or-replicate processors i 0 0 a)
  opens_at i (suc (suc k)) a b =
      rw (← add-one (suc k), opens_suc (suc k) (omega arith))
      (go (ℕ_discrete i (processor_at log (suc k))) (opens_at i (suc k) a (omega arith)))
    where
      open_is : open_after (get_or log (suc k) 0) (suc k) ≡ pick (begins_at log (suc k)) (suc k) 0
      open_is = refl

      p_is : processor_of (get_or log (suc k) 0) ≡ processor_at log (suc k)
      p_is = refl

      go : Dec (i ≡ processor_at log (suc k)) → get_or (opens_to log (suc k)) i 0 ≡ open_at log i (suc k)
          → get_or (set (opens_to log (suc k)) (processor_of (get_or log (suc k) 0)) (open_after (get_or log (suc k) 0) (suc k))) i 0
          ≡ pick (eqb (processor_at log (suc k)) i) (pick (begins_at log (suc k)) (suc k) 0) (open_at log i (suc k))
      go (yes e) f =
          rw (p_is, ← e, eq-eqb i i refl, get_or-set_same (opens_to log (suc k)) i _ 0 (omega (arith, length_opens (suc k) (omega arith)))) open_is
      go (no n) f =
          rw (p_is, ne_eqb (processor_at log (suc k)) i (λ e. n (sym e)), get_or-set_other (opens_to log (suc k)) (processor_at log (suc k)) i _ 0 n) f

  -- A row's processor is in range.
  pub proc_small : (y : ℕ) → T (head_ok (get_or log 0 0)) → T (fields_ok y (processor_at log 0)) → processor_of y < processors
  unfolding head_ok kind_of processor_at
  proc_small y a b =
      let u : T (is_reader (processor_of (get_or log 0 0)) 16) = T-right (eqb (zero_bits (get_or log 0 0)) 0) _ (T-right (eqb (kind_bits (get_or log 0 0)) 5) _ a) in
      let n : processor_of (get_or log 0 0) ≤ 16 = leb→le _ _ (T-right (leb 1 (processor_of (get_or log 0 0))) _ u) in
      let f = fields→ _ _ _ _ _ b in
      elim (dec_lt (kind_of y) 3) [ yes c ↦ omega (arith, f.writer (omega arith)) | no c ↦ omega (arith, f.reader (omega arith)) ]

  pub head_of : T (well_formed log) → T (head_ok (get_or log 0 0))
  unfolding well_formed
  head_of w = T-left (head_ok (get_or log 0 0)) _ (T-right (ltb 0 (length log)) _ w)

  pub some : T (well_formed log) → 1 ≤ length log
  unfolding well_formed
  some w = omega (arith, ltb→lt 0 (length log) (T-left (ltb 0 (length log)) _ w))

  pub proc_in : T (well_formed log) → (k : ℕ) → 0 < k → k < length log → processor_of (get_or log k 0) < processors
  unfolding row_ok
  proc_in w k a b = proc_small (get_or log k 0) (head_of w) (T-left (fields_ok (get_or log k 0) (processor_at log 0)) _ (row_passes log w k a b))

  -- The test of the rows.
  pub all_one : T (all (row_ok log) 1)
  unfolding all
  all_one = tt

  pub all_suc : (k : ℕ) → 0 < k → T (all (row_ok log) k) → T (row_ok log k) → T (all (row_ok log) (k + 1))
  unfolding all
  all_suc zero a t u = absurd (omega arith)
  all_suc (suc k) a t u = rw (add-one (suc k)) (and_T (all (row_ok log) (suc k)) _ t u)

  pub formed_none : length log < 1 → false ≡ well_formed log
  unfolding well_formed
  formed_none a = rw (le-ltb 0 (length log) (omega arith))

  pub formed_head : head_ok (get_or log 0 0) ≡ false → false ≡ well_formed log
  unfolding head_ok
  formed_head e = sym (not→false (well_formed log) (λ w. absurd (rw e at (head_of w))))

  pub formed_row : (k : ℕ) → 0 < k → k < length log → row_ok log k ≡ false → false ≡ well_formed log
  formed_row k a b e = sym (not→false (well_formed log) (λ w. absurd (rw e at (row_passes log w k a b))))

  pub formed_all : 0 < length log → T (head_ok (get_or log 0 0)) → T (all (row_ok log) (length log)) → true ≡ well_formed log
  unfolding well_formed
  formed_all a b t = sym (T→true _ (and_T (ltb 0 (length log)) _ (lt→ltb 0 (length log) a) (and_T (head_ok (get_or log 0 0)) _ b t)))

  pub row_fields : (k : ℕ) → fields_ok (get_or log k 0) (processor_at log 0) ≡ false → row_ok log k ≡ false
  unfolding row_ok
  row_fields k e = rw e

  pub row_turn : (k : ℕ) → fields_ok (get_or log k 0) (processor_at log 0) ≡ true → alternates (get_or log k 0) (open_at log (processor_at log k) k) ≡ false → row_ok log k ≡ false
  unfolding row_ok
  row_turn k e f = rw (e, f)

  pub row_good : (k : ℕ) → fields_ok (get_or log k 0) (processor_at log 0) ≡ true → alternates (get_or log k 0) (open_at log (processor_at log k) k) ≡ true → T (row_ok log k)
  unfolding row_ok
  row_good k e f = rw (e, f) tt

pub count_le : (x n : ℕ) → count_after x n ≤ n + 1
unfolding count_after
count_le x n = pick_T (λ z. z ≤ n + 1) (begins x) (λ _. omega arith) (λ _. omega arith)

-- no more begin rows than rows
pub begins_few : (log : List ℕ) (k : ℕ) → begins_to log k ≤ k
unfolding begins_to up_to
begins_few log zero = omega arith
begins_few log (suc zero) = omega arith
begins_few log (suc (suc k)) = omega (arith, begins_few log (suc k), count_le (get_or log (suc k) 0) (begins_to log (suc k)))
