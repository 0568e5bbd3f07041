-- The test of a source, row by row.
use Prim.Native.Nat.{ℕ, suc, zero}
use mathlib.Core.Path.{◌≡◌, refl}
use mathlib.Core.Logic.{◌≢◌}
use mathlib.Core.Bool.{false}
use mathlib.Core.List.{List}
use lib.Dec.{eqb, eqb→eq}
use lib.ListN.{get_or}
use Rattle.history.specs.History.{event_at, history_of}
use Rattle.history.specs.Sweep.{is_source}
use Rattle.history.specs.Rows.{kind_of, value_of, suits, kind_at, value_at}
use Rattle.words.proofs.Laws.Choice.{not→false}

-- Row 0 is one if its reading suits the read that row e ends, and so is a write's begin.
pub good_start : (log : List ℕ) (e q : ℕ) → q ≡ 0 → suits (get_or log e 0) (value_of (get_or log q 0)) ≡ is_source (history_of log) e q
unfolding event_at value_at
good_start log e q z = rw z

pub good_write : (log : List ℕ) (e q : ℕ) → q ≢ 0 → kind_of (get_or log q 0) ≡ 1 → suits (get_or log e 0) (value_of (get_or log q 0)) ≡ is_source (history_of log) e q
unfolding event_at value_at kind_at
good_write log e zero n k = absurd (n refl)
good_write log e (suc q) n k = rw k

pub good_other : (log : List ℕ) (e q : ℕ) → q ≢ 0 → kind_of (get_or log q 0) ≢ 1 → false ≡ is_source (history_of log) e q
unfolding event_at value_at kind_at
good_other log e zero n k = absurd (n refl)
good_other log e (suc q) n k = rw (not→false (eqb (kind_of (get_or log (suc q) 0)) 1) (λ t. k (eqb→eq _ _ t)))
