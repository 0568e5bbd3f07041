-- The write that a read stands behind in the judge's order is the place that the sweep gives it at its end row.
use Prim.Native.Nat.{ℕ, ◌≤◌, ◌<◌, ◌-◌}
use native.Mathlib.Omega.{arith}
use mathlib.Core.Path.{◌≡◌, sym, ◌∙◌}
use mathlib.Core.List.{List}
use lib.Dec.{T}
use lib.ListN.{length, get_or}
use Rattle.history.specs.Rows.{kind_at, kind_of, processor_at}
use Rattle.history.specs.WellFormed.{open_at, well_formed}
use Rattle.history.specs.History.{end_at, history_of, Read}
use Rattle.history.specs.Linearization.{stands_behind}
use Rattle.history.specs.Sweep.{place, missing, is_source}
use Rattle.history.specs.Listing.{listing}
use Rattle.history.proofs.Placement.{Laws, Placement}
use Rattle.history.proofs.WellFormed.{laws, kind_is}
use Rattle.history.proofs.Least.{sound}
use Rattle.history.proofs.LastWrite.{position_at}
use Rattle.history.proofs.Built.{has_read, last_place}
use Rattle.history.proofs.Verdict.{found}
use Rattle.history.proofs.Search.{first_ge}
use Rattle.judging.specs.Rowwise.{place_row, row_place, sweep_to}
use Rattle.judging.proofs.Linked.{linked, q_read}

module _ (log : List ℕ) (w : T (well_formed log)) where
  L : Laws (history_of log)
  L = laws log w

  -- A row that ends a read.
  module _ (k : ℕ) (a : 0 < k) (e : kind_at log k ≡ 4) where
    pub ended : Read (history_of log) (length log) (open_at log (processor_at log k) k)
    ended =
        let d = L.ended_read k (kind_is log w k a ∙ e) in
        record { is = d.0; ended = omega (arith, d.1, d.3); under = omega (arith, d.2, d.3) }

    pub ended_there : end_at log (open_at log (processor_at log k) k) ≡ k
    ended_there = (L.ended_read k (kind_is log w k a ∙ e)).1

  module _ (swept : length log ≤ missing (history_of log)) where
    P : Placement (history_of log) (length log) (place (history_of log))
    P = sound (history_of log) L (length log) (found (history_of log) L (length log) swept)

    behind_place : (r : ℕ) → Read (history_of log) (length log) r → stands_behind (history_of log) (listing log) r ≡ place (history_of log) r
    unfolding stands_behind listing
    behind_place r x =
        let t = has_read (history_of log) L (length log) (place (history_of log)) P r x in
        last_place (history_of log) L (length log) (place (history_of log)) P _ r (position_at (listing log) t.0 r t.1) x

    -- It was begun before the read's end.
    pub behind_before : (r : ℕ) → Read (history_of log) (length log) r → stands_behind (history_of log) (listing log) r < end_at log r
    behind_before r x = omega (arith, behind_place r x, P.early r x)

    pub stands_behind_lem : (k : ℕ) → 0 < k → k < length log → kind_at log k ≡ 4
        → stands_behind (history_of log) (listing log) (open_at log (processor_at log k) k) ≡ row_place log (sweep_to log k) k
    stands_behind_lem k a b e =
        behind_place (open_at log (processor_at log k) k) (ended k a e) ∙ sym (q_read log w k a b (sweep_to log k) (linked log w k a (omega arith)) e)

-- A read's search goes on from its floor.
pub place_above : (log : List ℕ) (k b f : ℕ) → kind_of (get_or log k 0) ≡ 4 → f ≤ place_row log k b f
unfolding place_row
place_above log k b f e = rw e (first_ge (is_source (history_of log) k) f (k - f))
