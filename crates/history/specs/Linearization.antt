-- An order of a history's operations: document 01's "order", by begin rows.
use Rattle.std.specs.Prelude.{ℕ, suc, zero, ◌≤◌, ◌<◌, ◌≡◌, ◌⊎◌, List, [], ◌∷◌, eqb, length, get_or}
use Rattle.words.specs.Choice.{pick}
use Rattle.history.specs.History.{History, history_of, Write, Read, Suits, Precedes}

-- x stands at place i of l
pub record Stands (l : List ℕ) (i x : ℕ) : Type 0 where
  pub within : i < length l
  pub there : get_or l i 0 ≡ x

-- the place at which x stands in l; the length of l if it stands nowhere
unfoldable pub position_in : List ℕ → ℕ → ℕ
position_in [] x = 0
position_in (y ∷ l) x = pick (eqb y x) 0 (suc (position_in l x))

-- the last write among the first i of l; the start, row 0, if there is none
unfoldable pub last_write : History → List ℕ → ℕ → ℕ
last_write h l zero = 0
last_write h l (suc i) = pick (eqb (h.kind (get_or l i 0)) 1) (get_or l i 0) (last_write h l i)

-- the write that x stands behind in the order l, or the start
unfoldable pub stands_behind : History → List ℕ → ℕ → ℕ
stands_behind h l x = last_write h l (position_in l x)

-- l is an order, of the reads only those begun before row m
pub record Linearization (h : History) (m : ℕ) (l : List ℕ) : Type 0 where
  -- "An order holds every ended operation and, if wanted, the unended write; unended reads are dropped."
  pub only : (i x : ℕ) → Stands l i x → Write h x ⊎ Read h m x
  pub writes : (w : ℕ) → Write h w → h.end w < h.len → (i : ℕ) × Stands l i w
  pub reads : (r : ℕ) → Read h m r → (i : ℕ) × Stands l i r
  pub once : (i j x : ℕ) → Stands l i x → Stands l j x → i ≡ j
  -- "It respects precedence."
  pub respects : (i j a b : ℕ) → Stands l i a → Stands l j b → Precedes h a b → i < j
  -- "Each read has the reading of the last write before it, or the start reading."; or that reading lies in its band
  pub reading : (i r : ℕ) → Stands l i r → Read h m r → Suits h (last_write h l i) r

-- an order of a whole log
abbrev pub Orders : List ℕ → List ℕ → Type 0
Orders log l = Linearization (history_of log) (length log) l

-- an order with every write in it, the unended one, too
pub record FullOrder (h : History) (l : List ℕ) : Type 0 where
  pub order : Linearization h h.len l
  pub all_writes : (w : ℕ) → Write h w → (i : ℕ) × Stands l i w

-- in an order o of a log: of two operations, one before the other, the later stands behind the same write or a later one
abbrev pub NeverOlder : List ℕ → List ℕ → Type 0
NeverOlder log o =
    (i j r s : ℕ) → Stands o i r → Stands o j s → Precedes (history_of log) r s
    → last_write (history_of log) o i ≤ last_write (history_of log) o j
