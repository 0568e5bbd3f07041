-- What a row does to the first read without a place, and how far a floor can rise.
use Prim.Native.Nat.{ℕ, suc, zero, ◌≤◌, ◌-◌, min}
use native.Mathlib.Omega.{arith}
use native.Mathlib.Decide.{dec_lt}
use mathlib.Core.Path.{◌≡◌}
use lib.Dec.{eqb, leb, eqb→eq, leb→le}
use borrow.Author.Tests.{le-leb}
use Rattle.words.proofs.Laws.Choice.{pick_T}
use Rattle.history.proofs.Search.{first_le}
use Rattle.history.specs.History.{History}
use Rattle.history.proofs.Placement.{Laws}
use Rattle.history.specs.Sweep.{is_source, adds, floor, floors, place_at, place}
use Rattle.history.proofs.Floors.{floor_suc}
use Rattle.history.specs.Rows.{kind_of}
use Rattle.judging.specs.Rowwise.{missing_after}

pub missing_le : (x k q b m : ℕ) → missing_after x k q b m ≤ m
unfolding missing_after
missing_le x k q b m =
    pick_T (λ z. z ≤ m) (eqb (kind_of x) 4) (λ _. pick_T (λ z. z ≤ m) (leb k q) (λ _. omega arith) (λ _. omega arith)) (λ _. omega arith)

pub missing_hit : (x k q b m : ℕ) → kind_of x ≡ 4 → k ≤ q → missing_after x k q b m ≤ b
unfolding missing_after
missing_hit x k q b m e a = rw (e, le-leb k q a) (omega arith)

-- It is the old one, or the read that ends here.
pub missing_new : (P : ℕ → Type 0) (x k q b m : ℕ) → P m → (kind_of x ≡ 4 → k ≤ q → P b) → P (missing_after x k q b m)
unfolding missing_after
missing_new P x k q b m o n =
    pick_T P (eqb (kind_of x) 4)
    (λ t. pick_T P (leb k q) (λ u. elim (dec_lt b m) [
      | yes c ↦ let e : min b m ≡ b = omega arith in rw e (n (eqb→eq _ _ t) (leb→le _ _ u))
      | no c ↦ let e : min b m ≡ m = omega arith in rw e o
    ]) (λ _. o))
    (λ _. o)

-- A floor is not above its row.
module _ (h : History) (L : Laws h) where
  pub place_le : (r : ℕ) → floor h r ≤ h.end r → place h r ≤ h.end r
  unfolding place place_at
  place_le r a = omega (arith, first_le (is_source h (h.end r)) (floor h r) (h.end r - floor h r))

  adds_le : (k : ℕ) → floor h (h.begin k) ≤ h.begin k → adds h (floor h (h.begin k)) k ≤ k
  unfolding adds place
  adds_le k a =
      pick_T (λ z. z ≤ k) (eqb (h.kind k) 2) (λ _. L.back k)
      (λ _. pick_T (λ z. z ≤ k) (eqb (h.kind k) 4)
      (λ t. let d = L.ended_read k (eqb→eq _ _ t) in omega (arith, d.1, L.back k, place_le (h.begin k) (omega (arith, d.1, L.back k))))
      (λ _. omega arith))

  pub floor_le : (n k : ℕ) → k ≤ n → floor h k ≤ k
  unfolding floor floors
  floor_le zero k a = let e : k ≡ 0 = omega arith in rw e (omega arith)
  floor_le (suc n) k a = go k a (λ j b. floor_le n j b)
    where
      go : (k : ℕ) → k ≤ suc n → ((j : ℕ) → j ≤ n → floor h j ≤ j) → floor h k ≤ k
      go zero a f = omega arith
      go (suc k) a f = omega (arith, floor_suc h k (L.back k), f k (omega arith), adds_le k (f (h.begin k) (omega (arith, L.back k))))
