-- The cells that a read has read, in a list that grows at its end.
use Prim.Native.Nat.{ℕ, zero, suc, ◌+◌, ◌≤◌, ◌<◌}
use mathlib.Core.Path.{◌≡◌, refl, sym, ap, subst, ◌∙◌}
use mathlib.Core.List.{List, [], ◌∷◌, ◌++◌}
use mathlib.Core.Bool.{Bool, false, not}
use native.Mathlib.Omega.{arith}
use lib.ListN.{length, get_or-append}
use lib.Seq.{get_or_at}
use lib.Dec.{eqb}
use borrow.Author.Tests.{le-leb, lt-leb}
use Rattle.words.specs.declared.cell.Cell.{Cell}
use Rattle.words.specs.Choice.{pick}
use Rattle.protocol.specs.Reference.{void, nth, first_with, agree, failed}

pub nth_old : (cells : List Cell) (c : Cell) (k : ℕ) → k < length cells → nth (cells ++ (c ∷ [])) k ≡ nth cells k
nth_old cells c k h = get_or-append cells (c ∷ []) void k h

pub nth_new : (cells : List Cell) (c : Cell) (k : ℕ) → length cells ≡ k → nth (cells ++ (c ∷ [])) k ≡ c
nth_new cells c k h = get_or_at cells c [] void k h

pub first_old : (cells : List Cell) (c : Cell) (t : ℕ) (d : Cell) (k r : ℕ) → k + r ≤ length cells
    → first_with (cells ++ (c ∷ [])) t d k r ≡ first_with cells t d k r
unfolding first_with
first_old cells c t d k zero h = refl
first_old cells c t d k (suc r) h = rw (nth_old cells c k (omega arith), first_old cells c t d (suc k) r (omega arith))

-- The last cell is asked last.
pub first_last : (cells : List Cell) (t : ℕ) (d : Cell) (k r : ℕ)
    → first_with cells t d k (suc r) ≡ first_with cells t (pick (eqb (nth cells (k + r)).stamp.prev t) (nth cells (k + r)) d) k r
unfolding first_with
first_last cells t d k zero = let e : k + 0 ≡ k = omega arith in rw e
first_last cells t d k (suc r) =
    let e : suc k + r ≡ k + suc r = omega arith in
    subst (λ (j : ℕ). first_with cells t d k (suc (suc r)) ≡ first_with cells t (pick (eqb (nth cells j).stamp.prev t) (nth cells j) d) k (suc r))
    e (ap (λ (x : Cell). pick (eqb (nth cells k).stamp.prev t) (nth cells k) x) (first_last cells t d (suc k) r))

pub first_none : (cells : List Cell) (t : ℕ) (d : Cell) (k r : ℕ) → r ≡ 0 → first_with cells t d k r ≡ d
unfolding first_with
first_none cells t d k r e = rw e

-- A first attempt that is not over has not failed; one that is over has failed if its looks do not agree.
module _ (n : ℕ) where
  pub failed_early : (m : ℕ) (cells : List Cell) → m < n + 3 → failed n m cells ≡ false
  failed_early m cells h = rw (lt-leb (n + 3) m h)

  pub failed_late : (m : ℕ) (cells : List Cell) → n + 3 ≤ m → failed n m cells ≡ not (agree n cells 0)
  failed_late m cells h = rw (le-leb (n + 3) m h)

  pub failed_keep : (m : ℕ) (cells : List Cell) (b : Bool) → n + 3 ≤ m → failed n m cells ≡ b → failed n (m + 1) cells ≡ b
  failed_keep m cells b h e = failed_late (m + 1) cells (omega arith) ∙ sym (failed_late m cells h) ∙ e

  pub agree_old : (cells : List Cell) (c : Cell) (a : ℕ) → a + (n + 1) < length cells → agree n (cells ++ (c ∷ [])) a ≡ agree n cells a
  agree_old cells c a h =
      let first = nth_old cells c a (omega arith) in
      let second = nth_old cells c (a + 1) (omega arith) in
      let third = nth_old cells c (a + (n + 1)) h in
      cc
