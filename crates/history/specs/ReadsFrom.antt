-- The actions of a history, and the write that each read's value is from. "the start counting as a write before all rows, an unended
-- write as one that ends after them, unended reads left out" (document 02, card 9): History has them so.
use Rattle.std.specs.Prelude.{ℕ, ◌≡◌, ◌⊎◌}
use Rattle.history.specs.History.{History, Read, Suits}

-- a write, ended or not, or the start
abbrev pub AnyWrite : History → ℕ → Type 0
AnyWrite h w = h.kind w ≡ 1

-- such a write, or an ended read
abbrev pub Action : History → ℕ → Type 0
Action h a = AnyWrite h a ⊎ Read h h.len a

-- "a read being free to stand for any write of equal reading", or of one in its band: f r is the one that the read r stands for
pub record ReadsFrom (h : History) (f : ℕ → ℕ) : Type 0 where
  pub written : (r : ℕ) → Read h h.len r → AnyWrite h (f r)
  pub suits : (r : ℕ) → Read h h.len r → Suits h (f r) r
