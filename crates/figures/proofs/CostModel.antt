-- What a register's operations cost: each word is one of its operation's, and a read that has a second attempt has more.
use Prim.Native.Nat.{ℕ, suc, ◌+◌, ◌-◌, ◌*◌, ◌≤◌}
use mathlib.Core.Path.{◌≡◌}
use mathlib.Core.Logic.{◌≢◌}
use mathlib.Core.List.{List, []}
use Rattle.common.specs.Book.{Operation, idle, open_with, Telling}
use Rattle.figures.proofs.Sums.{sum}

-- the words to come of an operation that has w
abbrev pub left : {Cell : Type 0} → ℕ → Operation Cell → ℕ
left w idle = 0
left w (open_with v m cells) = w - m

-- A write has W words, a read R, and L more if it has a second attempt.
pub record CostModel {Stamp Cell : Type 0} (B : Telling Stamp Cell) (n W R L : ℕ) : Type 1 where
  -- what holds of the writer's operation, and of a reader's
  pub WOk : Operation Cell → Type 0
  pub ROk : Operation Cell → Type 0
  -- of a read: 1 in its second attempt; 1 until it is settled whether it has one; 1 if until then a look differs from what the table now shows
  -- reader p
  pub second : Operation Cell → ℕ
  pub undecided : Operation Cell → ℕ
  pub stale : ℕ → List ℕ → Operation Cell → ℕ
  -- of a write: the stores to come
  pub stores : Operation Cell → ℕ
  pub w_idle : WOk idle
  pub r_idle : ROk idle
  pub undecided_idle : undecided idle ≡ 0
  pub stale_idle : (p : ℕ) (t : List ℕ) → stale p t idle ≡ 0
  pub stores_idle : stores idle ≡ 0
  pub w_begun : (v : ℕ) → WOk (open_with v 0 [])
  pub r_begun : ROk (open_with 0 0 [])
  pub second_begun : second (open_with 0 0 []) ≡ 0
  pub undecided_begun : undecided (open_with 0 0 []) ≤ 1
  pub stale_begun : (p : ℕ) (t : List ℕ) → stale p t (open_with 0 0 []) ≡ 0
  pub stores_begun : (v : ℕ) → stores (open_with v 0 []) ≤ n
  -- a sub-step of a write: a word less is to come, and a store makes one read stale at most
  pub write_ok : (t : List ℕ) (s : Stamp) (v m : ℕ) (cells : List Cell) → WOk (open_with v m cells) → WOk (B.write_turn n t s v m cells).op
  pub write_left : (t : List ℕ) (s : Stamp) (v m : ℕ) (cells : List Cell) → WOk (open_with v m cells)
      → left W (B.write_turn n t s v m cells).op + 1 ≡ left W (open_with v m cells)
  pub write_makes_stale : (t : List ℕ) (s : Stamp) (v m : ℕ) (cells : List Cell) → WOk (open_with v m cells) → (op : ℕ → Operation Cell)
      → let x = B.write_turn n t s v m cells in
      sum n (λ i. stale (suc i) x.table (op (suc i))) + stores x.op ≤ sum n (λ i. stale (suc i) t (op (suc i))) + stores (open_with v m cells)
  -- a sub-step of a read: it goes to its second attempt (late is 1) only if it was stale, and undecided
  pub read_ok : (p : ℕ) → 1 ≤ p → p ≤ n → (t : List ℕ) (s : Stamp) (v m : ℕ) (cells : List Cell) → ROk (open_with v m cells) → ROk (B.read_turn n p t s m cells).op
  pub late : (p : ℕ) (t : List ℕ) (m : ℕ) (cells : List Cell) → ℕ
  pub left_read : (p : ℕ) → 1 ≤ p → p ≤ n → (t : List ℕ) (s : Stamp) (v m : ℕ) (cells : List Cell) → ROk (open_with v m cells)
      → let o = (B.read_turn n p t s m cells).op in
      left (R + L * second o) o + 1 ≡ left (R + L * second (open_with v m cells)) (open_with v m cells) + L * late p t m cells
  pub read_stale : (p : ℕ) → 1 ≤ p → p ≤ n → (t : List ℕ) (s : Stamp) (v m : ℕ) (cells : List Cell) → ROk (open_with v m cells)
      → let x = B.read_turn n p t s m cells in late p t m cells + stale p x.table x.op ≡ stale p t (open_with v m cells)
  pub read_undecided : (p : ℕ) → 1 ≤ p → p ≤ n → (t : List ℕ) (s : Stamp) (v m : ℕ) (cells : List Cell) → ROk (open_with v m cells)
      → late p t m cells + undecided (B.read_turn n p t s m cells).op ≤ undecided (open_with v m cells)
  pub read_others : (p : ℕ) → 1 ≤ p → p ≤ n → (t : List ℕ) (s : Stamp) (m : ℕ) (cells : List Cell) (q : ℕ) → 1 ≤ q → q ≤ n → q ≢ p → (o : Operation Cell)
      → stale q (B.read_turn n p t s m cells).table o ≡ stale q t o
