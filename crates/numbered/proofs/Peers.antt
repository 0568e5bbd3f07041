-- The other readers in rising order, counted from 0 as the numbered machine counts them.
use Prim.Native.Nat.{ℕ, suc, ◌+◌, ◌≤◌, ◌<◌, pred}
use mathlib.Core.Path.{◌≡◌, refl}
use mathlib.Core.Logic.{◌≢◌, ◌⊎◌, inl, inr}
use native.Mathlib.Omega.{arith}
use lib.Dec.{ltb}
use Rattle.words.specs.Choice.{pick}
use Rattle.words.proofs.Laws.Choice.{lt_ind}
use Rattle.numbered.proofs.Splits.{lt_or}
use Rattle.words.specs.Index.{other}

-- the k-th reader other than i
unfoldable pub peer : ℕ → ℕ → ℕ
peer i k = pick (ltb k i) k (suc k)

pub other_peer : (i k : ℕ) → other (suc i) k ≡ suc (peer i k)
unfolding other peer
other_peer i k =
    lt_ind (λ q. q ≡ suc (peer i k)) (k + 1) (suc i) _ _
    (λ h. lt_ind (λ q. k + 1 ≡ suc q) k i _ _ (λ g. omega arith) (λ g. absurd (omega arith)))
    (λ h. lt_ind (λ q. k + 2 ≡ suc q) k i _ _ (λ g. absurd (omega arith)) (λ g. omega arith))

cases : (i k : ℕ) (Q : ℕ → Type 0) → (k < i → Q k) → (i ≤ k → Q (suc k)) → Q (peer i k)
unfolding peer
cases i k Q f g = lt_ind Q k i k (suc k) f g

module _ (i : ℕ) where
  pub peer_ne : (q : ℕ) → peer i q ≢ i
  peer_ne q = cases i q (λ k. k ≢ i) (λ h. omega arith) (λ h. omega arith)

  pub peer_lt : (q n : ℕ) → suc q < n → peer i q < n
  peer_lt q n h = cases i q (λ k. k < n) (λ _. omega arith) (λ _. omega arith)

  pub peer_first : (j : ℕ) → j ≢ i → peer i 0 ≤ j
  peer_first j ne = cases i 0 (λ k. k ≤ j) (λ g. omega arith) (λ g. omega arith)

  pub peer_last : (q n : ℕ) → i < n → n ≡ suc q → peer i q ≡ n
  peer_last q n h e = cases i q (λ k. k ≡ n) (λ g. absurd (omega arith)) (λ g. omega arith)

  pub peer_next : (q j : ℕ) → j ≢ i → j < peer i (suc q) → j ≤ peer i q
  peer_next q j ne =
      cases i q (λ k. j < peer i (suc q) → j ≤ k)
      (λ h. cases i (suc q) (λ k. j < k → j ≤ q) (λ a g. omega arith) (λ a g. omega arith))
      (λ h. cases i (suc q) (λ k. j < k → j ≤ suc q) (λ a g. omega arith) (λ a g. omega arith))

  pub peer_up : (r q : ℕ) → r < q → peer i r < peer i q
  peer_up r q h =
      cases i r (λ k. k < peer i q)
      (λ a. cases i q (λ k. r < k) (λ g. omega arith) (λ g. omega arith))
      (λ a. cases i q (λ k. suc r < k) (λ g. omega arith) (λ g. omega arith))

  -- Every other reader is one of them.
  pub peer_rank : (n j : ℕ) → i < n → j < n → j ≢ i → (q : ℕ) × (suc q < n) × (peer i q ≡ j)
  peer_rank n j hi hj ne = at (lt_or j i)
    where
      at : (j < i) ⊎ (i ≤ j) → (q : ℕ) × (suc q < n) × (peer i q ≡ j)
      at (inl h) = (j, omega arith, cases i j (λ k. k ≡ j) (λ _. refl) (λ g. absurd (omega arith)))
      at (inr h) = (pred j, omega arith, cases i (pred j) (λ k. k ≡ j) (λ g. absurd (omega arith)) (λ g. omega arith))
