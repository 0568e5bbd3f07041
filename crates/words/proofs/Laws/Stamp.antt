-- The tests of stamps say what they seem to.
use Prim.Native.Nat.{ℕ}
use mathlib.Core.Path.{◌≡◌, refl, ap}
use mathlib.Core.Logic.{◌≢◌}
use mathlib.Core.Bool.{Bool, true, false, and-eq-true_iff}
use lib.Dec.{eqb}
use borrow.Author.Tests.{eqb-true, eq-eqb}
use Rattle.words.specs.declared.stamp.Stamp.{Stamp}
use Rattle.words.specs.Stamp.{none, same, is_none}

pub same_equal : (a b : Stamp) → same a b ≡ true → a ≡ b
same_equal a b e =
    let t = (and-eq-true_iff (eqb a.cur b.cur) (eqb a.prev b.prev)).0 e in
    λ i. record { cur = eqb-true a.cur b.cur t.0 i; prev = eqb-true a.prev b.prev t.1 i }

pub equal_same : (a b : Stamp) → a ≡ b → same a b ≡ true
equal_same a b e = rw e ((and-eq-true_iff (eqb b.cur b.cur) (eqb b.prev b.prev)).1 (eq-eqb b.cur _ refl, eq-eqb b.prev _ refl))

-- "stamp none is (63,63) only"
pub none_only : (s : Stamp) → is_none s ≡ true → s ≡ none
none_only s = same_equal s none

pub some_stamp : (s : Stamp) → s ≢ none → is_none s ≡ false
some_stamp s ne = at (is_none s) refl
  where
    at : (b : Bool) → is_none s ≡ b → b ≡ false
    at true e = absurd (ne (none_only s e))
    at false e = refl

-- (63, x) is a stamp, and so is (x, 63), unless x is 63 too.
pub cur_63 : (x : ℕ) → x ≢ 63 → is_none (record { cur = 63; prev = x }) ≡ false
cur_63 x ne = some_stamp (record { cur = 63; prev = x }) (λ e. ne (ap (λ (s : Stamp). s.prev) e))

pub prev_63 : (x : ℕ) → x ≢ 63 → is_none (record { cur = x; prev = 63 }) ≡ false
prev_63 x ne = some_stamp (record { cur = x; prev = 63 }) (λ e. ne (ap (λ (s : Stamp). s.cur) e))
