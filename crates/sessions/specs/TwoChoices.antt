-- Why one choice of writes has to serve both conditions of report CS-R8704: what a log is for which two choices would do, and one does not.
use Rattle.std.specs.Prelude.{ℕ, List, T, length}
use Rattle.history.specs.WellFormed.{well_formed}
use Rattle.history.specs.History.{history_of, Read}
use Rattle.history.specs.Linearization.{Orders}
use Rattle.history.specs.ReadsFrom.{ReadsFrom}
use Rattle.history.specs.Regular.{Regular, Inverted, IsAtomic}

-- regular by f and without inversion by g, but not atomic, and without an order
pub record Differ (log : List ℕ) (f g : ℕ → ℕ) : Type 0 where
  pub is_well_formed : T (well_formed log)
  pub by_one : Regular (history_of log) f
  pub by_another : ReadsFrom (history_of log) g
  pub no_inversion : (r s : ℕ) → Read (history_of log) (length log) r → Read (history_of log) (length log) s → ¬ Inverted (history_of log) g r s
  pub not_atomic : ¬ IsAtomic log
  pub no_order : (l : List ℕ) → ¬ Orders log l
