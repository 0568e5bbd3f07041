-- The sweep's state is what the theory says, row by row.
use Prim.Native.Nat.{ℕ, suc, zero, ◌≤◌, ◌<◌, ◌+◌, max}
use native.Mathlib.Omega.{arith}
use native.Mathlib.Numerals.{add-one}
use native.Mathlib.Decide.{ℕ_discrete, dec_lt}
use mathlib.Core.Path.{◌≡◌, refl, ◌∙◌, sym, ap}
use mathlib.Core.Bool.{not}
use mathlib.Core.Logic.{◌⊎◌, inl, inr, ◌≢◌}
use mathlib.Core.List.{List}
use lib.Dec.{T, T_not, leb→le, le→leb}
use lib.ListN.{length, get_or, set, length-set, length-replicate}
use lib.Seq.{get_or-set_same, get_or-set_other, set-get_or}
use borrow.Author.Tests.{eq-eqb, ne_eqb}
use Rattle.words.specs.Choice.{pick}
use Rattle.words.proofs.Laws.Choice.{pick_T, and_T, T-left, T-right, T→true, not→false}
use Rattle.history.specs.Search.{first}
use Rattle.history.proofs.Search.{first_le, first_is, first_passes}
use Rattle.history.specs.History.{event_at, end_at, history_of}
use Rattle.history.proofs.Placement.{Laws}
use Rattle.history.specs.Sweep.{adds, floor, floors, place_at, place, is_read, fails, missing}
use Rattle.history.proofs.Floors.{floor_suc}
use Rattle.history.proofs.Built.{read→, →read}
use Rattle.history.specs.Rows.{kind_at, processor_at, begins_at, begins, kind_of, processor_of}
use Rattle.history.specs.WellFormed.{open_at, well_formed}
use Rattle.history.proofs.Operations.{RowOk, begin_is, open_suc, open_le}
use Rattle.history.proofs.WellFormed.{begin→, row, kind_is, laws}
use Rattle.judging.specs.Rowwise.{processors, Sweep, open_after, opens_to, row_place, place_row, floor_after, missing_after, next_state, fresh_sweep, sweep_to}
use Rattle.judging.proofs.Steps.{opens_suc, opens_one, opens_at, proc_in, some, sweep_one, sweep_suc}
use Rattle.judging.proofs.Bounds.{missing_le, missing_hit, missing_new, place_le, floor_le}

pub record Linked (log : List ℕ) (k : ℕ) (s : Sweep) : Type 0 where
  pub begins : s.begins ≡ opens_to log k
  pub size : length s.floors ≡ processors
  pub floors : (i : ℕ) → i < processors → 0 < open_at log i k → get_or s.floors i 0 ≡ floor (history_of log) (open_at log i k)
  pub top : s.top ≡ floor (history_of log) k
  pub least : (r : ℕ) → T (is_read (history_of log) r) → end_at log r < k → end_at log r ≤ place (history_of log) r → s.missing ≤ r
  pub failing : s.missing < length log → T (fails (history_of log) s.missing)
  pub within : s.missing ≤ length log

module _ (log : List ℕ) (w : T (well_formed log)) where
  L : Laws (history_of log)
  L = laws log w

  module _ (k : ℕ) (a : 0 < k) (b : k < length log) where
    pub R : RowOk log k
    R = row log w k a b

    pub small : processor_at log k < processors
    unfolding processor_at
    small = proc_in log w k a b

    -- What the row leaves open.
    open_same : open_at log (processor_at log k) (k + 1) ≡ pick (begins_at log k) k 0
    open_same = ap (open_at log (processor_at log k)) (add-one k) ∙ open_suc log (processor_at log k) k a ∙ rw (eq-eqb (processor_at log k) (processor_at log k) refl)

    open_other : (i : ℕ) → i ≢ processor_at log k → open_at log i (k + 1) ≡ open_at log i k
    open_other i n = ap (open_at log i) (add-one k) ∙ open_suc log i k a ∙ rw (ne_eqb (processor_at log k) i (λ e. n (sym e)))

    pub opens_next : (v : ℕ) → pick (begins_at log k) k 0 ≡ v → opens_to log (k + 1) ≡ set (opens_to log k) (processor_at log k) v
    unfolding open_after processor_at
    opens_next v e = opens_suc log k a ∙ rw e

    pub kind_of_begin : T (begins_at log k) → (kind_at log k ≡ 1) ⊎ (kind_at log k ≡ 3)
    kind_of_begin = begin→ log k

    pub kind_of_end : T (not (begins_at log k)) → (kind_at log k ≡ 2) ⊎ (kind_at log k ≡ 4)
    kind_of_end t = elim (ℕ_discrete (kind_at log k) 2) [
      | yes e ↦ inl e
      | no n ↦ elim (ℕ_discrete (kind_at log k) 1) [
        | yes e ↦ absurd (rw (begin_is log k, e) at t)
        | no n' ↦ elim (ℕ_discrete (kind_at log k) 3) [ yes e ↦ absurd (rw (begin_is log k, e) at t) | no n'' ↦ inr (omega (arith, R.low, R.high)) ]
      ]
    ]

    adds_none : T (begins_at log k) → floor (history_of log) (k + 1) ≡ floor (history_of log) k
    unfolding adds
    adds_none t =
        ap (floor (history_of log)) (add-one k) ∙ floor_suc (history_of log) k (L.back k) ∙ go (kind_of_begin t)
      where
        go : (kind_at log k ≡ 1) ⊎ (kind_at log k ≡ 3) → max (floor (history_of log) k) (adds (history_of log) (floor (history_of log) (open_at log (processor_at log k) k)) k) ≡ floor (history_of log) k
        go (inl e) = rw (kind_is log w k a, e) (omega arith)
        go (inr e) = rw (kind_is log w k a, e) (omega arith)

    -- An ended read's end row is no begin row.
    not_here : T (begins_at log k) → (r : ℕ) → T (is_read (history_of log) r) → end_at log r ≢ k
    not_here t r u e =
        let x = read→ (history_of log) (suc r) r (omega arith) u in
        let d = L.read_done r x.is x.ended in
        go (kind_of_begin t) (sym (kind_is log w k a) ∙ ap (event_at log) (sym e) ∙ d.0)
      where
        go : (kind_at log k ≡ 1) ⊎ (kind_at log k ≡ 3) → kind_at log k ≡ 4 → ⊥
        go (inl p) q = omega arith
        go (inr p) q = omega arith

    begun : (s : Sweep) → Linked log k s → T (begins_at log k)
        → Linked log (k + 1) (record { begins = set s.begins (processor_at log k) k; floors = set s.floors (processor_at log k) s.top; top = s.top; missing = s.missing })
    begun s I t = record {
      begins = rw I.begins (sym (opens_next k (rw (T→true (begins_at log k) t))));
      size = length-set s.floors _ _ ∙ I.size;
      floors = λ i c p. elim (ℕ_discrete i (processor_at log k)) [
        | yes e ↦ rw (e, get_or-set_same s.floors (processor_at log k) s.top 0 (omega (arith, small, I.size)), open_same, T→true (begins_at log k) t) I.top
        | no n ↦ rw (get_or-set_other s.floors (processor_at log k) i s.top 0 n, open_other i n) (I.floors i c (rw (open_other i n) at p))
      ];
      top = I.top ∙ sym (adds_none t);
      least = λ r u c d. I.least r u (omega (arith, not_here t r u)) d;
      failing = I.failing;
      within = I.within;
    }

    module _ (s : Sweep) (I : Linked log k s) where
      pub beg_is : get_or s.begins (processor_at log k) 0 ≡ open_at log (processor_at log k) k
      beg_is = rw I.begins (opens_at log (processor_at log k) k small a)

      pub q_write : kind_at log k ≡ 2 → row_place log s k ≡ open_at log (processor_at log k) k
      unfolding row_place place_row kind_at processor_at
      q_write e = rw e beg_is

      pub q_read : kind_at log k ≡ 4 → row_place log s k ≡ place (history_of log) (open_at log (processor_at log k) k)
      unfolding row_place place_row place place_at kind_at processor_at
      q_read e =
          let d = L.ended_read k (kind_is log w k a ∙ e) in
          rw (e, I.floors (processor_at log k) small (R.ends (inr e)), d.1)

      q_none : kind_at log k ≢ 2 → kind_at log k ≢ 4 → row_place log s k ≡ 0
      unfolding row_place place_row kind_at
      q_none n m = rw (ne_eqb _ _ n, ne_eqb _ _ m)

      pub q_le : row_place log s k ≤ k
      q_le = elim (ℕ_discrete (kind_at log k) 2) [
        | yes e ↦ omega (arith, q_write e, open_le log (processor_at log k) k)
        | no n ↦ elim (ℕ_discrete (kind_at log k) 4) [
          | yes e ↦ let d = L.ended_read k (kind_is log w k a ∙ e) in
              let f = floor_le (history_of log) L (open_at log (processor_at log k) k) (open_at log (processor_at log k) k) (omega arith) in
              omega (arith, q_read e, d.1, place_le (history_of log) L (open_at log (processor_at log k) k) (omega (arith, d.1)))
          | no m ↦ omega (arith, q_none n m)
        ]
      ]

      adds_some : T (not (begins_at log k)) → floor (history_of log) (k + 1) ≡ max (floor (history_of log) k) (row_place log s k)
      unfolding adds place
      adds_some t =
          ap (floor (history_of log)) (add-one k) ∙ floor_suc (history_of log) k (L.back k) ∙ go (kind_of_end t)
        where
          go : (kind_at log k ≡ 2) ⊎ (kind_at log k ≡ 4)
              → max (floor (history_of log) k) (adds (history_of log) (floor (history_of log) (open_at log (processor_at log k) k)) k) ≡ max (floor (history_of log) k) (row_place log s k)
          go (inl e) = rw (q_write e, kind_is log w k a, e)
          go (inr e) = rw (q_read e, kind_is log w k a, e)

      -- The read that ends here.
      here : (r : ℕ) → T (is_read (history_of log) r) → end_at log r ≡ k → (kind_at log k ≡ 4) × (open_at log (processor_at log k) k ≡ r)
      here r u e =
          let x = read→ (history_of log) (suc r) r (omega arith) u in
          let d = L.read_done r x.is x.ended in
          (sym (kind_is log w k a) ∙ ap (event_at log) (sym e) ∙ d.0, ap (λ (j : ℕ). open_at log (processor_at log j) j) (sym e) ∙ d.1)

      fails_here : kind_at log k ≡ 4 → k ≤ row_place log s k → T (fails (history_of log) (open_at log (processor_at log k) k))
      fails_here e c =
          let d = L.ended_read k (kind_is log w k a ∙ e) in
          and_T (is_read (history_of log) (open_at log (processor_at log k) k)) _
          (→read (history_of log) (suc (open_at log (processor_at log k) k)) (open_at log (processor_at log k) k) (record { is = d.0; ended = omega (arith, d.1); under = omega arith }))
          (le→leb (end_at log (open_at log (processor_at log k) k)) (place (history_of log) (open_at log (processor_at log k) k)) (omega (arith, d.1, q_read e)))

      ended : T (not (begins_at log k))
          → Linked log (k + 1) (record {
            begins = set s.begins (processor_at log k) 0;
            floors = s.floors;
            top = max s.top (row_place log s k);
            missing = missing_after (get_or log k 0) k (row_place log s k) (get_or s.begins (processor_at log k) 0) s.missing;
          })
      unfolding kind_at
      ended t = record {
        begins = rw I.begins (sym (opens_next 0 (rw (not→false (begins_at log k) (T_not (begins_at log k) t)))));
        size = I.size;
        floors = λ i c p. elim (ℕ_discrete i (processor_at log k)) [
          | yes e ↦ absurd (omega (arith, rw (e, open_same, not→false (begins_at log k) (T_not (begins_at log k) t)) at p))
          | no n ↦ rw (open_other i n) (I.floors i c (rw (open_other i n) at p))
        ];
        top = ap (λ (z : ℕ). max z (row_place log s k)) I.top ∙ sym (adds_some t);
        least = λ r u c d. elim (dec_lt (end_at log r) k) [
          | yes y ↦ omega (arith, I.least r u y d, missing_le (get_or log k 0) k (row_place log s k) (get_or s.begins (processor_at log k) 0) s.missing)
          | no y ↦ let z = here r u (omega arith) in
              omega (
                arith,
                beg_is,
                ap (place (history_of log)) z.1,
                q_read z.0,
                missing_hit (get_or log k 0) k (row_place log s k) (get_or s.begins (processor_at log k) 0) s.missing z.0
                    (omega (arith, ap (place (history_of log)) z.1, q_read z.0)),
              )
        ];
        failing = missing_new (λ m. m < length log → T (fails (history_of log) m)) (get_or log k 0) k (row_place log s k) _ s.missing I.failing
            (λ e c _. rw beg_is (fails_here e c));
        within = omega (arith, I.within, missing_le (get_or log k 0) k (row_place log s k) (get_or s.begins (processor_at log k) 0) s.missing);
      }

      open_begin : T (begins (get_or log k 0)) → open_after (get_or log k 0) k ≡ k
      unfolding open_after
      open_begin t = rw (T→true (begins (get_or log k 0)) t)

      open_end : T (not (begins (get_or log k 0))) → open_after (get_or log k 0) k ≡ 0
      unfolding open_after
      open_end t = rw (not→false (begins (get_or log k 0)) (T_not (begins (get_or log k 0)) t))

      floor_begin : T (begins (get_or log k 0)) → (f : ℕ) → floor_after (get_or log k 0) f s.top ≡ s.top
      unfolding floor_after
      floor_begin t f = rw (T→true (begins (get_or log k 0)) t)

      floor_end : T (not (begins (get_or log k 0))) → (f : ℕ) → floor_after (get_or log k 0) f s.top ≡ f
      unfolding floor_after
      floor_end t f = rw (not→false (begins (get_or log k 0)) (T_not (begins (get_or log k 0)) t))

      missing_begin : kind_at log k ≢ 4 → (q b m : ℕ) → missing_after (get_or log k 0) k q b m ≡ m
      unfolding missing_after kind_at
      missing_begin n q b m = rw (ne_eqb (kind_of (get_or log k 0)) 4 n)

      no_end : T (begins_at log k) → (kind_at log k ≢ 2) × (kind_at log k ≢ 4)
      no_end t = elim (kind_of_begin t) [ inl e ↦ (λ f. omega arith, λ f. omega arith) | inr e ↦ (λ f. omega arith, λ f. omega arith) ]

      step_begin : T (begins (get_or log k 0)) → Linked log (k + 1) (next_state s (get_or log k 0) k (row_place log s k))
      unfolding next_state processor_at
      step_begin t =
          let n = no_end t in
          let m : max s.top (row_place log s k) ≡ s.top = omega (arith, q_none n.0 n.1) in
          rw (
            open_begin t,
            floor_begin t (get_or s.floors (processor_of (get_or log k 0)) 0),
            m,
            missing_begin n.1 (row_place log s k) (get_or s.begins (processor_of (get_or log k 0)) 0) s.missing,
          )
          (begun s I t)

      step_end : T (not (begins (get_or log k 0))) → Linked log (k + 1) (next_state s (get_or log k 0) k (row_place log s k))
      unfolding next_state processor_at
      step_end t =
          rw (open_end t, floor_end t (get_or s.floors (processor_of (get_or log k 0)) 0), set-get_or s.floors (processor_of (get_or log k 0)) 0)
          (ended t)

      step : Linked log (k + 1) (next_state s (get_or log k 0) k (row_place log s k))
      step = pick_T {A = ℕ} (λ _. Linked log (k + 1) (next_state s (get_or log k 0) k (row_place log s k))) (begins (get_or log k 0)) {a = 0} {b = 0} step_begin step_end

  start : Linked log 1 (fresh_sweep (length log))
  unfolding fresh_sweep open_at floor floors adds event_at
  start = record {
    begins = sym (opens_one log);
    size = length-replicate {A = ℕ} processors 0;
    floors = λ i c p. absurd (omega arith);
    top = refl;
    least = λ r u c d. absurd (none r u c);
    failing = λ c. absurd (omega arith);
    within = omega arith;
  }
    where
      none : (r : ℕ) → T (is_read (history_of log) r) → end_at log r < 1 → ⊥
      none r u c = let x = read→ (history_of log) (suc r) r (omega arith) u in omega (arith, L.read_end r x.is)

  pub linked : (k : ℕ) → 0 < k → k ≤ length log → Linked log k (sweep_to log k)
  linked zero a b = absurd (omega arith)
  linked (suc zero) a b = rw (sweep_one log) start
  linked (suc (suc k)) a b =
      rw (← add-one (suc k), sweep_suc log (suc k) (omega arith))
      (step (suc k) (omega arith) (omega arith) (sweep_to log (suc k)) (linked (suc k) (omega arith) (omega arith)))

  -- The sweep's first read without a place is the theory's.
  pub missing_is : (sweep_to log (length log)).missing ≡ missing (history_of log)
  unfolding missing
  missing_is = go (dec_lt (sweep_to log (length log)).missing (length log))
    where
      I : Linked log (length log) (sweep_to log (length log))
      I = linked (length log) (omega (arith, some log w)) (omega arith)

      none : (r : ℕ) → T (fails (history_of log) r) → (sweep_to log (length log)).missing ≤ r
      none r t =
          let u = T-left (is_read (history_of log) r) _ t in
          let x = read→ (history_of log) (suc r) r (omega arith) u in
          I.least r u x.ended (leb→le _ _ (T-right (is_read (history_of log) r) _ t))

      go : Dec ((sweep_to log (length log)).missing < length log) → (sweep_to log (length log)).missing ≡ first (fails (history_of log)) 0 (length log)
      go (yes c) = sym (first_is (fails (history_of log)) 0 (length log) _ (omega arith) (omega arith) (I.failing c) (λ j x y t. omega (arith, none j t)))
      go (no c) = elim (dec_lt (first (fails (history_of log)) 0 (length log)) (length log)) [
        | yes d ↦ omega (arith, none _ (first_passes (fails (history_of log)) 0 (length log) (omega arith)))
        | no d ↦ omega (arith, I.within, first_le (fails (history_of log)) 0 (length log))
      ]
