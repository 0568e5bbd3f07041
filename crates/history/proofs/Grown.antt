-- A placement of a log with one row more.
use Prim.Native.Nat.{ℕ, suc, zero, ◌≤◌, ◌<◌}
use native.Mathlib.Omega.{arith}
use native.Mathlib.Decide.{ℕ_discrete, dec_lt}
use mathlib.Core.Path.{◌≡◌, ◌∙◌, sym}
use mathlib.Core.List.{List}
use lib.Dec.{T}
use lib.ListN.{length, get_or}
use Rattle.history.specs.History.{History, Read, event_at, end_at, history_of}
use Rattle.history.proofs.Placement.{Laws, Placement}
use Rattle.history.specs.Rows.{suits, processor_at, value_at}
use Rattle.history.proofs.Grow.{grown, grown_length, grown_at, grown_kind_of, grown_val, grown_fin, ends_now, still_open_lem}

-- What the place q of the read r asks, where the row x ends it behind the log.
pub record Fits (log : List ℕ) (p : ℕ → ℕ) (r x q : ℕ) : Type 0 where
  pub source : event_at log q ≡ 1
  pub suits : T (suits x (value_at log q))
  pub late : (w : ℕ) → event_at log w ≡ 1 → end_at log w < r → w ≤ q
  pub mono : (s : ℕ) → Read (history_of log) (length log) s → end_at log s < r → p s ≤ q

module _ (log : List ℕ) (x : ℕ) (L : Laws (history_of log)) (M : Laws (history_of (grown log x))) where
  abbrev h : History
  h = history_of log

  abbrev g : History
  g = history_of (grown log x)

  abbrev n : ℕ
  n = length log

  -- An operation that ends before the new row, in the old log.
  pub old_fin : (b : ℕ) → b < n → end_at (grown log x) b < n → end_at (grown log x) b ≡ end_at log b
  old_fin zero a c = M.start_end ∙ sym L.start_end
  old_fin (suc b) a c = elim (dec_lt (end_at log (suc b)) n) [
    | yes d ↦ grown_fin log x (suc b) (omega arith) a d
    | no d ↦ elim (ℕ_discrete (processor_at (grown log x) n) (processor_at log (suc b))) [
      | yes e ↦ absurd (omega (arith, ends_now log x (suc b) (omega arith) a (omega arith) e))
      | no e ↦ absurd (omega (arith, still_open_lem log x (suc b) (omega arith) a (omega arith) e))
    ]
  ]

  pub old_read : (r : ℕ) → Read g g.len r → end_at (grown log x) r < n → Read h n r
  old_read r y a =
      let b = M.read_end r y.is in
      let c : r < n = omega arith in
      record { is = sym (grown_kind_of log x r c) ∙ y.is; ended = omega (arith, old_fin r c a); under = c }

  module _ (p : ℕ → ℕ) (P : Placement h n p)
      (f : (r : ℕ) → Read g g.len r → end_at (grown log x) r ≡ n → Fits log p r (get_or (grown log x) n 0) (p r)) where
    -- What holds of each ended read, old or new, in terms of the old log.
    fits : (r : ℕ) → Read g g.len r → Fits log p r (get_or (grown log x) (end_at (grown log x) r) 0) (p r) × (p r < end_at (grown log x) r) × (r < n)
    fits r y = elim (dec_lt (end_at (grown log x) r) n) [
      | yes c ↦
          let z = old_read r y c in
          let e : end_at (grown log x) r ≡ end_at log r = old_fin r z.under c in (
            record {
              source = P.source r z;
              suits = rw (grown_at log x _ c, e) (P.suits r z);
              late = λ w k a. P.late w r k z a;
              mono = λ s t a. P.mono s r t z a;
            },
            omega (arith, P.early r z),
            z.under,
          )
      | no c ↦
          let e : end_at (grown log x) r ≡ n = omega (arith, y.ended, grown_length log x) in
          let z = f r y e in
          (rw e z, omega (arith, L.write (p r) z.source), omega (arith, M.read_end r y.is))
    ]

    pub grown_placement : Placement g g.len p
    grown_placement = record {
      source = λ r y. let z = fits r y in grown_kind_of log x (p r) (L.write (p r) z.0.source) ∙ z.0.source;
      suits = λ r y. let z = fits r y in rw (grown_val log x (p r) (L.write (p r) z.0.source)) z.0.suits;
      early = λ r y. (fits r y).1;
      late = λ w r e y a.
          let z = fits r y in
          let i : w < n = omega (arith, z.2, below w e) in
          z.0.late w (sym (grown_kind_of log x w i) ∙ e) (omega (arith, old_fin w i (omega arith)));
      mono = λ r s y z a.
          let t = fits s z in
          let u = old_read r y (omega arith) in
          t.0.mono r u (omega (arith, old_fin r u.under (omega arith)));
    }
      where
        below : (w : ℕ) → g.kind w ≡ 1 → w ≤ g.end w
        below w e = elim (dec_lt 0 w) [ yes a ↦ omega (arith, M.write_end w e a) | no a ↦ omega arith ]
