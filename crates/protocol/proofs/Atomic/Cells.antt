-- The stamps and cells that numbers stand for.
use Prim.Native.Nat.{ℕ, zero, suc, ◌^◌, ◌≤◌, ◌<◌, pred}
use mathlib.Core.Path.{◌≡◌, refl, sym, ap, ◌∙◌}
use native.Mathlib.Omega.{arith}
use borrow.Author.Tests.{ne_eqb}
use Rattle.words.specs.declared.stamp.Stamp.{Stamp}
use Rattle.words.specs.declared.cell.Cell.{Cell}
use Rattle.words.specs.Stamp.{none}
use Rattle.words.specs.Cell.{StampFits, CellFits}
use Rattle.protocol.specs.Table.{plain}
use Rattle.protocol.specs.Reference.{shown}

-- c: the ticket of each write. val: its value.
pub record Low (c val : ℕ → ℕ) : Type 0 where
  pub ticket_low : (k : ℕ) → c k < 63
  pub value_low : (k : ℕ) → val k < 2 ^ 32

module _ (c : ℕ → ℕ) where
  abbrev pub stamp_of : ℕ → Stamp
  stamp_of zero = none
  stamp_of (suc p) = record { cur = c (suc p); prev = c p }

  -- a reader's cell to the writer, by its own number and the announced one
  abbrev pub back_of : ℕ → ℕ → Cell
  back_of o a = record { value = 0; stamp = stamp_of o; announced = stamp_of a }

  pub stamp_cur : (p : ℕ) → 1 ≤ p → (stamp_of p).cur ≡ c p
  stamp_cur zero h = absurd (omega arith)
  stamp_cur (suc p) h = refl

  pub stamp_prev : (p : ℕ) → 1 ≤ p → (stamp_of p).prev ≡ c (pred p)
  stamp_prev zero h = absurd (omega arith)
  stamp_prev (suc p) h = refl

  -- Equal stamps of two writes are equal tickets.
  pub cur_same : (p q : ℕ) → 1 ≤ p → 1 ≤ q → stamp_of p ≡ stamp_of q → c p ≡ c q
  cur_same p q hp hq e = sym (stamp_cur p hp) ∙ ap (λ (x : Stamp). x.cur) e ∙ stamp_cur q hq

  pub prev_same : (p q : ℕ) → 1 ≤ p → 1 ≤ q → stamp_of p ≡ stamp_of q → c (pred p) ≡ c (pred q)
  prev_same p q hp hq e = sym (stamp_prev p hp) ∙ ap (λ (x : Stamp). x.prev) e ∙ stamp_prev q hq

  pub stamp_same : (p q : ℕ) → 1 ≤ p → 1 ≤ q → c p ≡ c q → c (pred p) ≡ c (pred q) → stamp_of p ≡ stamp_of q
  stamp_same zero q hp hq e g = absurd (omega arith)
  stamp_same (suc p) zero hp hq e g = absurd (omega arith)
  stamp_same (suc p) (suc q) hp hq e g = λ i. record { cur = e i; prev = g i }

module _ (c val : ℕ → ℕ) where
  abbrev pub value_of : ℕ → ℕ
  value_of zero = 0
  value_of (suc p) = val (suc p)

  abbrev pub cell_of : ℕ → Cell
  cell_of p = plain (value_of p) (stamp_of c p)

  pub value_is : (p : ℕ) → 1 ≤ p → value_of p ≡ val p
  value_is zero h = absurd (omega arith)
  value_is (suc p) h = refl

  -- A cell of a write has that write's stamp.
  pub prev_of : (x : Cell) (p : ℕ) → x ≡ cell_of p → 1 ≤ p → x.stamp.prev ≡ c (pred p)
  prev_of x p e h = ap (λ (y : Cell). y.stamp.prev) e ∙ stamp_prev c p h

  module _ (low : Low c val) where
    stamp_fits : (p : ℕ) → StampFits (stamp_of c p)
    stamp_fits zero = omega arith
    stamp_fits (suc p) = omega (arith, low.ticket_low (suc p), low.ticket_low p)

    pub fits_cell : (p : ℕ) → CellFits (cell_of p)
    fits_cell zero = omega arith
    fits_cell (suc p) = omega (arith, low.ticket_low (suc p), low.ticket_low p, low.value_low (suc p))

    pub fits_back : (o a : ℕ) → CellFits (back_of c o a)
    fits_back o a = record { value_fits = omega arith; stamp_fits = stamp_fits o; announced_fits = stamp_fits a }

    -- A cell whose prev is a ticket is a write's.
    pub written : (x : Cell) (p k : ℕ) → x ≡ cell_of p → x.stamp.prev ≡ c k → 1 ≤ p
    written x zero k e h =
        let g : 63 ≡ c k = sym (ap (λ (y : Cell). y.stamp.prev) e) ∙ h in
        absurd (omega (arith, low.ticket_low k))
    written x (suc p) k e h = omega arith

    -- What a result of number p is shown as.
    pub shown_of : (p : ℕ) → shown (record { value = value_of p; stamp = stamp_of c p }) ≡ cell_of p
    shown_of zero = refl
    shown_of (suc p) = rw (ne_eqb (c (suc p)) 63 (omega (arith, low.ticket_low (suc p))))
