-- The test of a well-formed log says what one is.
use Prim.Native.Nat.{ℕ, suc, zero, ◌<◌}
use native.Mathlib.Omega.{arith}
use native.Mathlib.Decide.{dec_lt}
use mathlib.Core.Path.{◌≡◌}
use mathlib.Core.Bool.{Bool}
use mathlib.Core.List.{List}
use lib.Dec.{T, eqb, ltb, eqb→eq, ltb→lt, lt→ltb}
use lib.ListN.{length, get_or}
use Rattle.words.proofs.Laws.Choice.{pick_T, eq→T, and_T, T-left, T-right}
use Rattle.history.specs.Rows.{kind_bits, processor_of, value_of, lowest, highest, processor_at, zero_at, begins_at}
use Rattle.history.specs.WellFormed.{is_reader, head_ok, fields, open_at, alternates, row_ok, all, well_formed}
use Rattle.history.specs.Form.{OneOf, Starts, Tells, write_begins, write_ends, read_begins, read_ends, read_ends_in_band, Begins, LastRow, RowFormed, LogFormed}
use Rattle.history.proofs.Tests.{Tests, both, either, equal, at_most, less, chosen, restated}
use Rattle.history.proofs.Operations.{begin_is, all_at, open→, →open}

one_of : (n p : ℕ) → Tests (is_reader p n) (OneOf n p)
one_of n p = restated (both (at_most 1 p) (at_most p n)) (λ x. record { low = x.0; high = x.1 }) (λ x. (x.low, x.high))

starts : (w : ℕ) → Tests (head_ok w) (Starts w)
unfolding head_ok
starts w =
    restated (both (equal _ 5) (both (equal _ 0) (one_of 16 _)))
    (λ x. record { kind_is = x.0; bits_zero = x.1.0; readers = x.1.1 }) (λ x. (x.kind_is, (x.bits_zero, x.readers)))

module _ (n k p z v : ℕ) where
  tells→ : T (fields k p z v n) → Tells n k p v
  unfolding fields
  tells→ t =
      let Says : Bool → Type 0 = λ b. T b → Tells n k p v in
      pick_T Says (eqb k 1) (λ e u. write_begins (eqb→eq k 1 e) (eqb→eq p 0 u))
      (λ _. pick_T Says (eqb k 2) (λ e u. write_ends (eqb→eq k 2 e) (eqb→eq p 0 (T-right (eqb v 0) _ u)) (eqb→eq v 0 (T-left (eqb v 0) _ u)))
      (λ _. pick_T Says (eqb k 3) (λ e u. read_begins (eqb→eq k 3 e) ((one_of n p).only_if (T-right (eqb v 0) _ u)) (eqb→eq v 0 (T-left (eqb v 0) _ u)))
      (λ _. pick_T Says (eqb k 4) (λ e u. read_ends (eqb→eq k 4 e) ((one_of n p).only_if u))
      (λ _. pick_T Says (eqb k 6)
      (λ e u. let x = (both (one_of n p) (at_most (lowest v) (highest v))).only_if u in read_ends_in_band (eqb→eq k 6 e) x.0 x.1)
      (λ _ u. absurd u))))) (T-right (eqb z 0) _ t)

  →tells : z ≡ 0 → Tells n k p v → T (fields k p z v n)
  unfolding fields
  →tells c (write_begins e q) = rw (c, e) (eq→T p 0 q)
  →tells c (write_ends e q r) = rw (c, e) (and_T (eqb v 0) _ (eq→T v 0 r) (eq→T p 0 q))
  →tells c (read_begins e q r) = rw (c, e) (and_T (eqb v 0) _ (eq→T v 0 r) ((one_of n p).if q))
  →tells c (read_ends e q) = rw (c, e) ((one_of n p).if q)
  →tells c (read_ends_in_band e q r) = rw (c, e) ((both (one_of n p) (at_most (lowest v) (highest v))).if (q, r))

  zero→ : T (fields k p z v n) → z ≡ 0
  unfolding fields
  zero→ t = eqb→eq z 0 (T-left (eqb z 0) _ t)

  fields_tell : Tests (fields k p z v n) ((z ≡ 0) × Tells n k p v)
  fields_tell = record { only_if = λ t. (zero→ t, tells→ t); if = λ x. →tells x.0 x.1 }

module _ (log : List ℕ) where
  tests_begins : (k : ℕ) → Tests (begins_at log k) (Begins log k)
  tests_begins k = rw (begin_is log k) (either (equal _ 1) (equal _ 3))

  module _ (i k : ℕ) where
    to_open : (j : ℕ) → LastRow log i k j → Begins log j → open_at log i k ≡ j
    to_open j R b =
        →open log i k j (record { real = R.real; before = R.before; begin = (tests_begins j).if b; own = R.own; none = R.none })

    from_open : 0 < open_at log i k → (j : ℕ) × (LastRow log i k j × Begins log j)
    from_open h =
        let o = open→ log i k h in
        (_, (record { real = o.real; before = o.before; own = o.own; none = o.none }, (tests_begins _).only_if o.begin))

    idle : Tests (eqb (open_at log i k) 0) ((j : ℕ) → LastRow log i k j → ¬ Begins log j)
    idle = record {
      only_if = λ t j R b. omega (arith, eqb→eq (open_at log i k) 0 t, to_open j R b, R.real);
      if = λ f. elim (dec_lt 0 (open_at log i k)) [
        | yes h ↦ let x = from_open h in absurd (f x.0 x.1.0 x.1.1)
        | no h ↦ eq→T (open_at log i k) 0 (omega arith)
      ];
    }

    busy : Tests (ltb 0 (open_at log i k)) ((j : ℕ) × (LastRow log i k j × Begins log j))
    busy = record {
      only_if = λ t. from_open (ltb→lt 0 _ t);
      if = λ x. lt→ltb 0 (open_at log i k) (omega (arith, to_open x.0 x.1.0 x.1.1, x.1.0.real));
    }

  row_formed : (k : ℕ) → Tests (row_ok log k) (RowFormed log k)
  unfolding row_ok alternates zero_at processor_at
  row_formed k =
      let w = get_or log k 0 in
      restated
      (both (fields_tell (processor_at log 0) (kind_bits w) (processor_of w) _ (value_of w))
      (chosen (tests_begins k) (idle (processor_at log k) k) (busy (processor_at log k) k)))
      (λ x. record { bits_zero = x.0.0; tells = x.0.1; begin_behind = x.1.0; end_behind = x.1.1 })
      (λ x. ((x.bits_zero, x.tells), (x.begin_behind, x.end_behind)))

all_make : (f : ℕ → Bool) (n : ℕ) → ((k : ℕ) → 0 < k → k < n → T (f k)) → T (all f n)
unfolding all
all_make f zero h = tt
all_make f (suc zero) h = tt
all_make f (suc (suc n)) h = and_T (all f (suc n)) _ (all_make f (suc n) (λ k a b. h k a (omega arith))) (h (suc n) (omega arith) (omega arith))

-- "Rows well formed (10)?"
pub log_formed : (log : List ℕ) → Tests (well_formed log) (LogFormed log)
unfolding well_formed
log_formed log =
    restated (both (less 0 (length log)) (both (starts (get_or log 0 0)) rows))
    (λ x. record { some = x.0; starts = x.1.0; rows = x.1.1 }) (λ x. (x.some, (x.starts, x.rows)))
  where
    rows : Tests (all (row_ok log) (length log)) ((k : ℕ) → 0 < k → k < length log → RowFormed log k)
    rows = record {
      only_if = λ t k a b. (row_formed log k).only_if (all_at (row_ok log) (length log) k t a b);
      if = λ x. all_make (row_ok log) (length log) (λ k a b. (row_formed log k).if (x k a b));
    }
