-- An instant for each operation of an order, within its span: "Each action can be thought to take place in an atomic grain of time, and this
-- time atom is situated somewhere in the action's finite time span" (report CS-R8628, introduction).
use Rattle.std.specs.Prelude.{ℕ, suc, ◌*◌, ◌<◌, List, length}
use Rattle.history.specs.History.{History}
use Rattle.history.specs.Linearization.{Stands}

-- Time runs finer than the rows: row k is logged at k * unit, and between two rows there is room for an instant of each listed operation.
abbrev pub unit : List ℕ → ℕ
unit l = suc (length l)

-- the operation at place i of l takes effect at t i
pub record Instants (h : History) (l : List ℕ) (t : ℕ → ℕ) : Type 0 where
  -- after its begin and before its end, if it has one
  pub after : (i x : ℕ) → Stands l i x → x * unit l < t i
  pub before : (i x : ℕ) → Stands l i x → t i < h.end x * unit l
  -- one after the other, in the order of l
  pub rising : (i j : ℕ) → i < j → j < length l → t i < t j
