-- The keys of the operations ended before a row: sorted, one for each.
use Prim.Native.Nat.{ℕ, ◌≤◌, ◌<◌, ◌+◌}
use native.Mathlib.Omega.{arith}
use native.Mathlib.Decide.{dec_lt}
use mathlib.Core.Path.{◌≡◌, refl, ◌∙◌, sym}
use mathlib.Core.Bool.{not}
use mathlib.Core.Logic.{◌⊎◌, inl, inr, ◌≢◌}
use mathlib.Core.List.{List, []}
use lib.Dec.{T}
use lib.ListN.{length, get_or}
use Rattle.words.proofs.Laws.Choice.{pick_T}
use Rattle.judging.proofs.FoldLaws.{rows_ind}
use Rattle.history.specs.History.{event_at, end_at, history_of}
use Rattle.history.proofs.Placement.{Laws}
use Rattle.history.specs.Linearization.{Stands}
use Rattle.history.specs.Rows.{kind_at, processor_at, begins_at, begins, processor_of}
use Rattle.history.specs.WellFormed.{open_at, well_formed}
use Rattle.history.proofs.WellFormed.{kind_is, laws}
use Rattle.judging.specs.Rowwise.{row_place, sweep_to}
use Rattle.judging.specs.Keys.{inserted, key_of, add_key, keys_to}
use Rattle.judging.proofs.Steps.{keys_one, keys_suc}
use Rattle.judging.proofs.Linked.{Linked, linked, R, kind_of_begin, kind_of_end, beg_is, q_write, q_read}
use Rattle.judging.proofs.Sorted.{Sorted, Sides, inserted_sorted, inserted_new, inserted_has, inserted_only}
use Rattle.judging.proofs.KeyCode.{code_key, code_key_write, code_key_read, rank, side, Op}

-- An operation that ended before row k.
pub record Ended (log : List ℕ) (k b : ℕ) : Type 0 where
  pub op : Op (history_of log) b
  pub done : end_at log b < k

pub record Keyed (log : List ℕ) (k : ℕ) (l : List ℕ) : Type 0 where
  pub sorted : Sorted (rank (history_of log)) l
  pub only : (i x : ℕ) → Stands l i x → (b : ℕ) × Ended log k b × (x ≡ code_key (history_of log) b)
  pub has : (b : ℕ) → Ended log k b → (i : ℕ) × Stands l i (code_key (history_of log) b)

module _ (log : List ℕ) (w : T (well_formed log)) (few : length log ≤ 4096) where
  L : Laws (history_of log)
  L = laws log w

  pub op_in : (b : ℕ) → Op (history_of log) b → (b < end_at log b) × (end_at log b ≤ length log)
  op_in b o = elim o.1 [ inl e ↦ L.write_end b e o.0 | inr e ↦ L.read_end b e ]

  -- The row at which an operation ends.
  pub end_row : (b : ℕ) → Op (history_of log) b → end_at log b < length log
      → ((event_at log (end_at log b) ≡ 2) ⊎ (event_at log (end_at log b) ≡ 4)) × (open_at log (processor_at log (end_at log b)) (end_at log b) ≡ b)
  end_row b o a = elim o.1 [
    | inl e ↦ let d = L.write_done b e o.0 a in (inl d.0, d.1)
    | inr e ↦ let d = L.read_done b e a in (inr d.0, d.1)
  ]

  -- Where an operation x goes, ended or the unended write, among those that ended before.
  pub sides : {k : ℕ} (l : List ℕ) (x : ℕ) → Op (history_of log) x → k ≤ end_at log x → (event_at log x ≡ 3 → end_at log x < length log) → Keyed log k l
      → (i : ℕ) → i < length l → Sides (rank (history_of log)) (code_key (history_of log) x) (get_or l i 0)
  sides l x o a r K i c =
      let t = K.only i (get_or l i 0) (record { within = c; there = refl }) in
      let y = t.0 in
      let p = op_in x o in
      let q = op_in y t.1.op in
      let d : end_at log y < end_at log x = omega (arith, t.1.done) in
      rw t.2 (side (history_of log) x y o t.1.op (omega arith) (omega arith) d p.1 r)

  module _ (k : ℕ) (a : 0 < k) (c : k < length log) where
    abbrev g : ℕ
    g = open_at log (processor_at log k) k

    -- At a begin row nothing ends.
    not_here : T (begins_at log k) → (b : ℕ) → Op (history_of log) b → end_at log b ≢ k
    not_here t b o e =
        let d = end_row b o (omega arith) in
        go (kind_of_begin log w k a c t) (rw e at d.0)
      where
        go : (kind_at log k ≡ 1) ⊎ (kind_at log k ≡ 3) → (event_at log k ≡ 2) ⊎ (event_at log k ≡ 4) → ⊥
        go (inl p) (inl q) = omega (arith, kind_is log w k a)
        go (inl p) (inr q) = omega (arith, kind_is log w k a)
        go (inr p) (inl q) = omega (arith, kind_is log w k a)
        go (inr p) (inr q) = omega (arith, kind_is log w k a)

    -- At an end row the open operation ends.
    ends : T (not (begins_at log k)) → Op (history_of log) g × (end_at log g ≡ k)
    ends t = go (kind_of_end log w k a c t)
      where
        pos_g : 0 < g
        pos_g = (R log w k a c).ends (kind_of_end log w k a c t)

        go : (kind_at log k ≡ 2) ⊎ (kind_at log k ≡ 4) → Op (history_of log) g × (end_at log g ≡ k)
        go (inl e) = let d = L.ended_write k (kind_is log w k a ∙ e) in ((pos_g, inl d.0), d.1)
        go (inr e) = let d = L.ended_read k (kind_is log w k a ∙ e) in ((pos_g, inr d.0), d.1)

    key_is : T (not (begins_at log k)) → key_of (get_or log k 0) (get_or (sweep_to log k).begins (processor_of (get_or log k 0)) 0) (row_place log (sweep_to log k) k) ≡ code_key (history_of log) g
    unfolding key_of kind_at processor_at
    key_is t = go (kind_of_end log w k a c t)
      where
        I : Linked log k (sweep_to log k)
        I = linked log w k a (omega arith)

        go : (kind_at log k ≡ 2) ⊎ (kind_at log k ≡ 4) → key_of (get_or log k 0) (get_or (sweep_to log k).begins (processor_of (get_or log k 0)) 0) (row_place log (sweep_to log k) k) ≡ code_key (history_of log) g
        go (inl e) =
            let d = L.ended_write k (kind_is log w k a ∙ e) in
            rw (e, q_write log w k a c (sweep_to log k) I e) (sym (code_key_write (history_of log) g d.0))
        go (inr e) =
            let d = L.ended_read k (kind_is log w k a ∙ e) in
            rw (e, q_read log w k a c (sweep_to log k) I e, beg_is log w k a c (sweep_to log k) I) (sym (code_key_read (history_of log) g d.0))

    step_begin : T (begins_at log k) → (l : List ℕ) → Keyed log k l → Keyed log (k + 1) l
    step_begin t l K = record {
      sorted = K.sorted;
      only = λ i x s. let u = K.only i x s in (u.0, record { op = u.1.op; done = omega (arith, u.1.done) }, u.2);
      has = λ b e. K.has b (record { op = e.op; done = omega (arith, e.done, not_here t b e.op) });
    }

    step_end : T (not (begins_at log k)) → (l : List ℕ) → Keyed log k l → Keyed log (k + 1) (inserted (code_key (history_of log) g) l)
    step_end t l K =
        let o = ends t in
        record {
          sorted = inserted_sorted (code_key (history_of log) g) l (rank (history_of log)) K.sorted (sides l g o.0 (omega (arith, o.1)) (λ _. omega (arith, o.1)) K);
          only = λ i x s. elim (inserted_only (code_key (history_of log) g) l i x s) [
            | inl e ↦ (g, record { op = o.0; done = omega (arith, o.1) }, e)
            | inr s' ↦ let u = K.only s'.0 x s'.1 in (u.0, record { op = u.1.op; done = omega (arith, u.1.done) }, u.2)
          ];
          has = λ b e. elim (dec_lt (end_at log b) k) [
            | yes y ↦ let u = K.has b (record { op = e.op; done = y }) in inserted_has (code_key (history_of log) g) l u.0 _ u.1
            | no y ↦ let q : end_at log b ≡ k = omega (arith, e.done) in
                let z : g ≡ b = rw q at (end_row b e.op (omega arith)).1 in
                rw (← z) (inserted_new (code_key (history_of log) g) l)
          ];
        }

    step : (l : List ℕ) → Keyed log k l
        → Keyed log (k + 1) (add_key (get_or log k 0) (get_or (sweep_to log k).begins (processor_of (get_or log k 0)) 0) (row_place log (sweep_to log k) k) l)
    unfolding add_key
    step l K =
        pick_T (λ z. Keyed log (k + 1) z) (begins (get_or log k 0))
        (λ t. step_begin t l K)
        (λ t. rw (key_is t) (step_end t l K))

  none_yet : (b : ℕ) → Ended log 1 b → ⊥
  none_yet b e = omega (arith, e.done, op_in b e.op)

  start : Keyed log 1 []
  start = record {
    sorted = λ x y p q. absurd (omega arith);
    only = λ i x s. absurd (omega (arith, s.within));
    has = λ b e. absurd (none_yet b e);
  }

  next : (k : ℕ) → 0 < k → k < length log → Keyed log k (keys_to log k) → Keyed log (k + 1) (keys_to log (k + 1))
  next k a c K = rw (keys_suc log k a) (step k a c (keys_to log k) K)

  pub keyed : (k : ℕ) → 0 < k → k ≤ length log → Keyed log k (keys_to log k)
  keyed = rows_ind (λ (k : ℕ). Keyed log k (keys_to log k)) (length log) (rw (keys_one log) start) next
