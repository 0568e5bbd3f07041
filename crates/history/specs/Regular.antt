-- The atomic register of report CS-R8704 (source document 000), said of a log. In quotes is its section 1.1.
use Rattle.std.specs.Prelude.{ℕ, zero, ◌≤◌, ◌<◌, ◌≡◌, ◌⊎◌, List}
use Rattle.history.specs.History.{History, history_of, Write, Read, Precedes}
use Rattle.history.specs.ReadsFrom.{AnyWrite, Action, ReadsFrom}

-- What the report takes for granted of precedence ("An operation then precedes another if the finish time of the first is before the start
-- time of the second."), and where the card puts the start and an unended write. So it is in a well-formed log (Theorems.precedence).
pub record Precedence (h : History) : Type 0 where
  -- "there is a precedence relation among the operations (which is a strict partial ordering i.e., irreflexive and transitive)"
  pub irreflexive : (a : ℕ) → Action h a → ¬ Precedes h a a
  pub transitive : (a b c : ℕ) → Action h b → Precedes h a b → Precedes h b c → Precedes h a c
  -- "the write operations are totally ordered by the precedence relation"
  pub total : (v w : ℕ) → AnyWrite h v → AnyWrite h w → (v ≡ w) ⊎ Precedes h v w ⊎ Precedes h w v
  -- "the start counting as a write before all rows, an unended write as one that ends after them" (document 02, card 9)
  pub start : AnyWrite h 0
  pub start_before : (a : ℕ) → Action h a → zero < a → Precedes h 0 a
  pub unended_last : (w a : ℕ) → Write h w → h.len ≤ h.end w → Action h a → ¬ Precedes h w a

-- "Operations incomparable under this precedence relation are considered to be concurrent."
pub record Concurrent (h : History) (a b : ℕ) : Type 0 where
  pub not_before : ¬ Precedes h a b
  pub not_after : ¬ Precedes h b a

-- the write w is "the last write that precedes" the read r
pub record LastBefore (h : History) (w r : ℕ) : Type 0 where
  pub before : Precedes h w r
  pub last : (v : ℕ) → AnyWrite h v → Precedes h v r → (v ≡ w) ⊎ Precedes h v w

-- "A register is regular if any read returns either the value written by a write that is concurrent with it or the value written by
-- the last write that precedes it."
pub record Regular (h : History) (f : ℕ → ℕ) : Type 0 where
  pub from : ReadsFrom h f
  pub near : (r : ℕ) → Read h h.len r → Concurrent h (f r) r ⊎ LastBefore h (f r) r

-- "the two writes, which wrote the values returned by two reads, are ordered in the opposite direction than their corresponding reads"
pub record Inverted (h : History) (f : ℕ → ℕ) (r s : ℕ) : Type 0 where
  pub reads : Precedes h r s
  pub writes : Precedes h (f s) (f r)

-- "A register is atomic if it is regular and if it cannot happen that" two reads are so inverted
pub record Atomic (h : History) (f : ℕ → ℕ) : Type 0 where
  pub regular : Regular h f
  pub no_inversion : (r s : ℕ) → Read h h.len r → Read h h.len s → ¬ Inverted h f r s

-- "a read being free to stand for any write of equal reading" (document 02, card 9): some choice of a write for each read makes the log
-- regular and inverts no two reads
abbrev pub IsAtomic : List ℕ → Type 0
IsAtomic log = (f : ℕ → ℕ) × Atomic (history_of log) f
