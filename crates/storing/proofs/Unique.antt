-- Strips fix their log, and a log its strips.
use Prim.Native.Nat.{ℕ, suc, zero, ◌≤◌, ◌<◌, ◌+◌, ◌-◌}
use native.Mathlib.Omega.{arith}
use native.Mathlib.Decide.{dec_lt}
use mathlib.Core.Path.{◌≡◌, sym, ap, ◌∙◌}
use mathlib.Core.List.{List}
use lib.ListN.{length, get_or}
use lib.Seq.{ext_get_or}
use Rattle.history.specs.Rows.{processor_at}
use Rattle.storing.specs.Strips.{strip_bytes, strip_rows, log_of}
use Rattle.storing.specs.Meaning.{StripsOf}
use Rattle.storing.proofs.RoundTrip.{log_back}
use Rattle.storing.proofs.Placed.{in_strips, every_place}

-- Two pairs of strips of a log.
module _ {log bytes rows bytes' rows' : List ℕ} (S : StripsOf log bytes rows) (U : StripsOf log bytes' rows') where
  same_bytes : bytes ≡ bytes'
  same_bytes = ext_get_or 0 bytes bytes' (omega (arith, S.bytes_number, U.bytes_number)) (λ i a.
      let c : (1 ≤ suc i) × (suc i < length log) = (omega arith, omega (arith, S.bytes_number)) in
      let e : suc i - 1 ≡ i = omega arith in
      rw e at (S.naming (suc i) c ∙ sym (U.naming (suc i) c)))

  -- The first keep the order of the second: it is that of the processors, then of the log.
  keeps : (j k : ℕ) → (1 ≤ j) × (j < length log) → (1 ≤ k) × (k < length log) → U.place j < U.place k → S.place j < S.place k
  keeps j k a b c = elim (dec_lt (processor_at log j) (processor_at log k)) [
    | yes d ↦ S.rising j k a b d
    | no d ↦ elim (dec_lt (processor_at log k) (processor_at log j)) [
      | yes e ↦ absurd (omega (arith, U.rising k j b a e))
      | no e ↦ elim (dec_lt j k) [
        | yes f ↦ S.in_order j k a b (omega arith) f
        | no f ↦ absurd (elim (dec_lt k j) [
          | yes g ↦ omega (arith, U.in_order k j b a (omega arith) g)
          | no g ↦ let h : j ≡ k = omega arith in omega (arith, ap U.place h)
        ])
      ]
    ]
  ]

  -- Where every place of the second is that of a row, a row has the same place in both.
  module _ (onto : (m : ℕ) → 1 ≤ m → m < length log → (k : ℕ) × (1 ≤ k) × (k < length log) × (U.place k ≡ m)) where
    -- A row has no fewer places before it in the first, and no fewer behind it.
    low : (m k : ℕ) → (1 ≤ k) × (k < length log) → U.place k ≡ suc m → suc m ≤ S.place k
    low zero k a e = (S.inside k a).0
    low (suc m) k a e =
        let x = onto (suc m) (omega arith) (omega (arith, (U.inside k a).1, U.rows_number)) in
        omega (arith, low m x.0 (x.1, x.2) x.3, keeps x.0 k (x.1, x.2) a (omega (arith, x.3)))

    high : (d k : ℕ) → (1 ≤ k) × (k < length log) → U.place k + suc d ≡ length log → S.place k + suc d ≤ length log
    high zero k a e = omega (arith, (S.inside k a).1, S.rows_number)
    high (suc d) k a e =
        let x = onto (suc (U.place k)) (omega arith) (omega arith) in
        omega (arith, high d x.0 (x.1, x.2) (omega (arith, x.3)), keeps k x.0 a (x.1, x.2) (omega (arith, x.3)))

    same_place : (k : ℕ) → (1 ≤ k) × (k < length log) → S.place k ≡ U.place k
    same_place k a =
        let i = U.inside k a in
        omega (
          arith,
          low (U.place k - 1) k a (omega (arith, i.0)),
          high (length log - suc (U.place k)) k a (omega (arith, i.1, U.rows_number)),
          i.0,
          i.1,
          U.rows_number,
        )

    same_rows : rows ≡ rows'
    same_rows = ext_get_or 0 rows rows' (S.rows_number ∙ sym U.rows_number) each
      where
        each : (i : ℕ) → i < length rows → get_or rows i 0 ≡ get_or rows' i 0
        each zero a = S.row_0 ∙ sym U.row_0
        each (suc i) a =
            let x = onto (suc i) (omega arith) (omega (arith, S.rows_number)) in
            let c : (1 ≤ x.0) × (x.0 < length log) = (x.1, x.2) in
            ap (λ (n : ℕ). get_or rows n 0) (sym (same_place x.0 c ∙ x.3))
            ∙ S.there x.0 c ∙ sym (U.there x.0 c) ∙ ap (λ (n : ℕ). get_or rows' n 0) x.3

-- A log has no other strips,
pub only_strips : (log bytes rows : List ℕ) → 1 ≤ length log → StripsOf log bytes rows → (bytes ≡ strip_bytes log) × (rows ≡ strip_rows log)
only_strips log bytes rows a S = let U = in_strips log a in (same_bytes S U, same_rows S U (every_place log a))

-- and strips are those of no other log.
pub only_log : (log bytes rows : List ℕ) → 1 ≤ length log → StripsOf log bytes rows → log ≡ log_of bytes rows
only_log log bytes rows a S = let e = only_strips log bytes rows a S in rw (e.0, e.1) (sym (log_back log))
