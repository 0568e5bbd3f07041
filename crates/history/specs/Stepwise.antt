-- A log that can be swept: an order seen row by row. It is what a register's log is shown to be, one call after the other.
use Rattle.std.specs.Prelude.{ℕ, suc, ◌≤◌, ◌<◌, max, ◌≡◌, List, [], ◌∷◌, ◌++◌, length}
use Rattle.words.specs.Update.{upd}
use Rattle.history.specs.Rows.{kind_bits, processor_of, value_of, value_at}
use Rattle.history.specs.History.{event_at}

-- row q is the start or a write's begin, with value v
pub record Source (log : List ℕ) (q v : ℕ) : Type 0 where
  pub inside : q < length log
  pub is : event_at log q ≡ 1
  pub shows : value_at log q ≡ v

-- Stepwise log F fl w: F is the newest row that an ended operation has shown, fl i the floor of reader i + 1, w the last write's
-- begin row. A read's begin notes F; a write's end raises F to its begin row, a read's end to a source from its floor on.
pub data Stepwise : List ℕ → ℕ → (ℕ → ℕ) → ℕ → Type 0 where
  starts : (x : ℕ) (fl : ℕ → ℕ) → Stepwise (x ∷ []) 0 fl 0
  write_begins : {log : List ℕ} {F : ℕ} {fl : ℕ → ℕ} {w : ℕ} (x : ℕ) → kind_bits x ≡ 1 → processor_of x ≡ 0 → Stepwise log F fl w
      → Stepwise (log ++ (x ∷ [])) F fl (length log)
  write_ends : {log : List ℕ} {F : ℕ} {fl : ℕ → ℕ} {w : ℕ} (x : ℕ) → kind_bits x ≡ 2 → processor_of x ≡ 0 → Stepwise log F fl w
      → Stepwise (log ++ (x ∷ [])) (max F w) fl w
  read_begins : {log : List ℕ} {F : ℕ} {fl : ℕ → ℕ} {w : ℕ} (x i : ℕ) → kind_bits x ≡ 3 → processor_of x ≡ suc i → Stepwise log F fl w
      → Stepwise (log ++ (x ∷ [])) F (upd fl i F) w
  read_ends : {log : List ℕ} {F : ℕ} {fl : ℕ → ℕ} {w : ℕ} (x i q : ℕ) → kind_bits x ≡ 4 → processor_of x ≡ suc i
      → Source log q (value_of x) → fl i ≤ q → Stepwise log F fl w → Stepwise (log ++ (x ∷ [])) (max F q) fl w
