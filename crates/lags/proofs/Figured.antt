-- The totals of the lines, and the figures.
use Prim.Native.Nat.{ℕ, ◌≤◌, ◌<◌, ◌^◌}
use native.Mathlib.Omega.{arith}
use mathlib.Core.Path.{◌≡◌, refl, ◌∙◌}
use mathlib.Core.List.{List}
use lib.ListN.{length, get_or}
use Rattle.history.specs.Rows.{processor_of, processor_at}
use Rattle.history.specs.Listing.{listing}
use Rattle.judging.specs.Answer.{settled_of}
use Rattle.judging.specs.Meaning.{Formed}
use Rattle.judging.proofs.Asked.{tested}
use Rattle.judging.proofs.Said.{settled}
use Rattle.lags.specs.Sheet.{reads_of, lags_of, over_readers, lines_in, line_at, figures_in}
use Rattle.lags.specs.declared.Line.{Line}
use Rattle.lags.specs.declared.Figures.{Figures}
use Rattle.lags.proofs.Totals.{over_le, readers_few, over_reads, over_lags}
use Rattle.lags.proofs.Filling.{lines_small}

-- The totals are small.
pub totals_small : (log : List ℕ) → Formed log → (l : List ℕ) → let n = processor_at log 0 in (over_readers (reads_of log) n < 2 ^ 64) × (over_readers (lags_of log l) n < 2 ^ 64)
totals_small log F l =
    let s = lines_in log l in
    let b = lines_small log l s (tested F) F.size.few refl in
    let few = readers_few log F in (
      omega (arith, few, over_reads log F l, over_le (λ i. (line_at s i).reads) (2 ^ 32) (processor_at log 0) (λ i. omega (arith, b.0 i))),
      omega (arith, few, over_lags log F l, over_le (λ i. (line_at s i).lags) (2 ^ 32) (processor_at log 0) (λ i. omega (arith, b.1 i))),
    )

-- Of a log that has an order, whose lines are s and whose readers n.
module _ (log : List ℕ) (z : (settled_of log (length log)).number ≡ 0) where
  pub log_formed : Formed log
  log_formed = (settled log log z).asked.log_ok

  module _ {s : List Line} {n : ℕ} (e : s ≡ lines_in log (listing log)) (d : n ≡ processor_of (get_or log 0 0)) where
    pub few : n ≤ 16
    unfolding processor_at
    few = omega (arith, readers_few log log_formed)

    pub small : ((i : ℕ) → (line_at s i).reads < 2 ^ 32) × ((i : ℕ) → (line_at s i).lags < 2 ^ 32)
    small = lines_small log (listing log) s (tested log_formed) log_formed.size.few e

    pub figures_are : {t : Line} → t.reads ≡ over_readers (λ i. (line_at s i).reads) n → t.lags ≡ over_readers (λ i. (line_at s i).lags) n
        → ◌≡◌ {A = Figures} (record { readers = n; lines = s; total = t }) (figures_in log (listing log))
    unfolding figures_in processor_at
    figures_are {t} p q =
        let x : t.reads ≡ over_readers (reads_of log) (processor_at log 0) = p ∙ rw (e, d) (over_reads log log_formed (listing log)) in
        let y : t.lags ≡ over_readers (lags_of log (listing log)) (processor_at log 0) = q ∙ rw (e, d) (over_lags log log_formed (listing log)) in
        λ i. record { readers = d i; lines = e i; total = record { reads = x i; lags = y i } }
