-- A log with one row more.
use Prim.Native.Nat.{ℕ, suc, zero, ◌≤◌, ◌<◌}
use native.Mathlib.Omega.{arith}
use native.Mathlib.Decide.{dec_lt}
use mathlib.Core.Path.{◌≡◌, refl, ◌∙◌, sym}
use mathlib.Core.Bool.{Bool, ◌&&◌}
use mathlib.Core.Logic.{◌≢◌}
use mathlib.Core.List.{List, [], ◌∷◌, ◌++◌}
use lib.Dec.{T, ltb, ltb→lt, lt→ltb}
use lib.ListN.{length, get_or, get_or-append, length-append}
use Rattle.history.specs.History.{event_at, end_at}
use Rattle.words.proofs.Laws.Choice.{and_T, T-left, T-right}
use Rattle.history.proofs.Ends.{Next, fin_of, fin_next, fin_none, fin_open}
use Rattle.history.specs.Rows.{kind_at, processor_at, value_at}
use Rattle.history.specs.WellFormed.{open_at, head_ok, row_ok, all, well_formed}

abbrev pub grown : List ℕ → ℕ → List ℕ
grown log x = log ++ (x ∷ [])

module _ (log : List ℕ) (x : ℕ) where
  pub grown_length : length (grown log x) ≡ suc (length log)
  grown_length = omega (arith, length-append log (x ∷ []))

  pub grown_at : (k : ℕ) → k < length log → get_or (grown log x) k 0 ≡ get_or log k 0
  grown_at k a = get_or-append log (x ∷ []) 0 k a

  pub grown_kind : (k : ℕ) → k < length log → kind_at (grown log x) k ≡ kind_at log k
  unfolding kind_at
  grown_kind k a = rw (grown_at k a)

  pub grown_proc : (k : ℕ) → k < length log → processor_at (grown log x) k ≡ processor_at log k
  unfolding processor_at
  grown_proc k a = rw (grown_at k a)

  pub grown_val : (k : ℕ) → k < length log → value_at (grown log x) k ≡ value_at log k
  unfolding value_at
  grown_val k a = rw (grown_at k a)

  pub grown_kind_of : (k : ℕ) → k < length log → event_at (grown log x) k ≡ event_at log k
  unfolding event_at
  grown_kind_of zero a = refl
  grown_kind_of (suc k) a = grown_kind (suc k) a

  pub grown_open : (i k : ℕ) → k ≤ length log → open_at (grown log x) i k ≡ open_at log i k
  unfolding open_at
  grown_open i zero a = refl
  grown_open i (suc zero) a = refl
  grown_open i (suc (suc k)) a = rw (grown_proc (suc k) (omega arith), grown_at (suc k) (omega arith), grown_open i (suc k) (omega arith))

  -- An ended operation keeps its end; an open one ends at the new row if that is of its processor.
  pub grown_next : (b e : ℕ) → Next log b e → Next (grown log x) b e
  grown_next b e n = record {
    after = n.after;
    inside = omega (arith, grown_length);
    same = rw (grown_proc e n.inside, grown_proc b (omega arith)) n.same;
    none = λ j y z. rw (grown_proc j (omega arith), grown_proc b (omega arith)) (n.none j y z);
  }

  pub grown_fin : (b : ℕ) → 0 < b → b < length log → end_at log b < length log → end_at (grown log x) b ≡ end_at log b
  grown_fin b r a c = fin_of (grown log x) b r (end_at log b) (grown_next b _ (fin_next log b r c a))

  pub ends_now : (b : ℕ) → 0 < b → b < length log → length log ≤ end_at log b → processor_at (grown log x) (length log) ≡ processor_at log b → end_at (grown log x) b ≡ length log
  ends_now b r a c s = fin_of (grown log x) b r (length log) (record {
    after = a;
    inside = omega (arith, grown_length);
    same = s ∙ sym (grown_proc b a);
    none = λ j y z. rw (grown_proc j z, grown_proc b a) (fin_none log b r c j y z);
  })

  pub still_open_lem : (b : ℕ) → 0 < b → b < length log → length log ≤ end_at log b → processor_at (grown log x) (length log) ≢ processor_at log b → end_at (grown log x) b ≡ suc (length log)
  still_open_lem b r a c s = fin_open (grown log x) b r (omega (arith, grown_length)) (λ j y z. go j y z (dec_lt j (length log))) ∙ grown_length
    where
      go : (j : ℕ) → b < j → j < length (grown log x) → Dec (j < length log) → processor_at (grown log x) j ≢ processor_at (grown log x) b
      go j y z (yes d) = rw (grown_proc j d, grown_proc b a) (fin_none log b r c j y d)
      go j y z (no d) = λ w. let e : j ≡ length log = omega (arith, grown_length) in s (rw (← e) w ∙ grown_proc b a)

  grown_row : (k : ℕ) → 0 < length log → k < length log → row_ok (grown log x) k ≡ row_ok log k
  unfolding row_ok
  grown_row k p a =
      rw (grown_at k a, grown_proc 0 p, grown_proc k a, grown_open (processor_at log k) k (omega arith))

  grown_head : 0 < length log → head_ok (get_or (grown log x) 0 0) ≡ head_ok (get_or log 0 0)
  unfolding head_ok
  grown_head p = rw (grown_at 0 p)

  grown_all : 0 < length log → (k : ℕ) → k ≤ length log → all (row_ok (grown log x)) k ≡ all (row_ok log) k
  unfolding all
  grown_all p zero a = refl
  grown_all p (suc zero) a = refl
  grown_all p (suc (suc k)) a = rw (grown_all p (suc k) (omega arith), grown_row (suc k) p (omega arith))

  all_suc : (f : ℕ → Bool) (k : ℕ) → 0 < k → all f (suc k) ≡ (all f k && f k)
  unfolding all
  all_suc f zero a = absurd (omega arith)
  all_suc f (suc k) a = refl

  pub grown_well_formed : T (well_formed log) → T (row_ok (grown log x) (length log)) → T (well_formed (grown log x))
  unfolding well_formed
  grown_well_formed w r =
      let p : 0 < length log = ltb→lt _ _ (T-left (ltb 0 (length log)) _ w) in
      let v : T (head_ok (get_or log 0 0) && all (row_ok log) (length log)) = T-right (ltb 0 (length log)) _ w in
      rw (grown_length, all_suc (row_ok (grown log x)) (length log) p, grown_all p (length log) (omega arith), grown_head p)
      (and_T (ltb 0 (suc (length log))) _ (lt→ltb 0 (suc (length log)) (omega arith))
      (and_T (head_ok (get_or log 0 0)) _ (T-left (head_ok (get_or log 0 0)) _ v) (and_T (all (row_ok log) (length log)) _ (T-right (head_ok (get_or log 0 0)) _ v) r)))

  -- The front of a well-formed log is well formed.
  pub formed_front : 0 < length log → T (well_formed (grown log x)) → T (well_formed log)
  unfolding well_formed
  formed_front p w =
      let v : T (head_ok (get_or (grown log x) 0 0) && all (row_ok (grown log x)) (length (grown log x))) = T-right (ltb 0 (length (grown log x))) _ w in
      let a : T (all (row_ok (grown log x)) (suc (length log))) = rw grown_length at (T-right (head_ok (get_or (grown log x) 0 0)) _ v) in
      let b : T (all (row_ok (grown log x)) (length log) && row_ok (grown log x) (length log)) = rw (all_suc (row_ok (grown log x)) (length log) p) at a in
      and_T (ltb 0 (length log)) _ (lt→ltb 0 (length log) p)
      (and_T (head_ok (get_or log 0 0)) _ (rw (grown_head p) at (T-left (head_ok (get_or (grown log x) 0 0)) _ v)) (rw (grown_all p (length log) (omega arith)) at (T-left (all (row_ok (grown log x)) (length log)) _ b)))
