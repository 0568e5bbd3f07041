-- The test of a head is its meaning, and what a call does to it.
use Prim.Native.Nat.{ℕ, ◌+◌, ◌≤◌}
use mathlib.Core.Path.{◌≡◌, ap}
use mathlib.Core.Bool.{Bool, true, false}
use native.Mathlib.Omega.{arith}
use lib.Dec.{leb, eqb}
use borrow.Author.Tests.{leb-true, eqb-true, le-leb, eq-eqb}
use Rattle.words.specs.Counting.{one}
use Rattle.words.proofs.Laws.Choice.{left, right, both}
use Rattle.common.specs.declared.Head.{Head}
use Rattle.common.specs.Head.{head_ok, HeadInRange, head_with, stepped}

module _ (need : ℕ) (h : Head) (count cells log : ℕ) where
  pub head_in : head_ok need h count cells log ≡ true → HeadInRange need h count cells log
  unfolding head_ok
  head_in e =
      let e1 = right (leb 1 h.n) _ e in
      let e2 = right (leb h.n 16) _ e1 in
      let e3 = right (leb need cells) _ e2 in
      let e4 = right (eqb log h.rows) _ e3 in
      let e5 = right (leb 3 h.rows) _ e4 in
      let e6 = right (leb h.rows 4096) _ e5 in
      let e7 = right (leb 1 h.used) _ e6 in
      record {
        n_low = leb-true _ _ (left (leb 1 h.n) _ e);
        n_high = leb-true _ _ (left (leb h.n 16) _ e1);
        cells_are = leb-true _ _ (left (leb need cells) _ e2);
        log_is = eqb-true _ _ (left (eqb log h.rows) _ e3);
        rows_low = leb-true _ _ (left (leb 3 h.rows) _ e4);
        rows_high = leb-true _ _ (left (leb h.rows 4096) _ e5);
        used_low = leb-true _ _ (left (leb 1 h.used) _ e6);
        opens_is = eqb-true _ _ (left (eqb h.opens count) _ e7);
        room = leb-true _ _ (right (eqb h.opens count) (leb (h.used + h.opens) h.rows) e7);
      }

  pub in_head : HeadInRange need h count cells log → head_ok need h count cells log ≡ true
  unfolding head_ok
  in_head k =
      both (leb 1 h.n) _ (le-leb _ _ k.n_low)
      (both (leb h.n 16) _ (le-leb _ _ k.n_high)
      (both (leb need cells) _ (le-leb _ _ k.cells_are)
      (both (eqb log h.rows) _ (eq-eqb _ _ k.log_is)
      (both (leb 3 h.rows) _ (le-leb _ _ k.rows_low)
      (both (leb h.rows 4096) _ (le-leb _ _ k.rows_high)
      (both (leb 1 h.used) _ (le-leb _ _ k.used_low)
      (both (eqb h.opens count) _ (eq-eqb _ _ k.opens_is) (le-leb _ _ k.room))))))))

  -- Rows are added, and the number of open operations is the new count.
  pub head_moves : (used opens count' : ℕ) → h.used ≤ used → opens ≡ count' → used + opens ≤ h.rows → HeadInRange need h count cells log
      → HeadInRange need (head_with h used opens) count' cells log
  head_moves used opens count' l e f k = record {
    n_low = k.n_low;
    n_high = k.n_high;
    cells_are = k.cells_are;
    log_is = k.log_is;
    rows_low = k.rows_low;
    rows_high = k.rows_high;
    used_low = omega (arith, k.used_low);
    opens_is = e;
    room = f;
  }

-- A sub-step of an operation that was open; b tells whether it still is. Its end has a row of its own, and is one fewer open.
pub head_steps : (h : Head) (a b : Bool) → h.used + h.opens ≤ h.rows → a ≡ true → one a ≤ h.opens
    → (h.used ≤ (stepped h b).used) × ((stepped h b).opens + one a ≡ h.opens + one b) × ((stepped h b).used + (stepped h b).opens ≤ h.rows)
head_steps h a true room e o = omega (arith, ap one e)
head_steps h a false room e o = omega (arith, ap one e)
