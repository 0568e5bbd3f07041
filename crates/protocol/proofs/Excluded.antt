-- Excluded tickets as a number: the order does not matter, and each adds at most one.
use Prim.Native.Nat.{ℕ, zero, suc, ◌+◌, ◌*◌, ◌/◌, ◌%◌, ◌^◌, ◌≤◌, ◌<◌, max}
use mathlib.Core.Path.{◌≡◌, refl, sym, ◌∙◌}
use mathlib.Core.Bool.{Bool, true, false}
use native.Mathlib.Omega.{arith}
use native.Mathlib.Nat.{pow-suc, pow-le-pow_right}
use lib.Bits.{bit_or, or_step, or_zero_r}
use lib.Count.{ones}
use lib.Dec.{ltb}
use borrow.Author.Tests.{ltb-true}
use Rattle.words.specs.Choice.{pick}
use Rattle.protocol.specs.Tickets.{with_ticket}
use Rattle.protocol.proofs.Tickets.{ones_or}

half : (x m : ℕ) → m < 2 → (x * 2 + m) / 2 ≡ x
half x m h = omega arith

low : (x m : ℕ) → m < 2 → (x * 2 + m) % 2 ≡ m
low x m h = omega arith

max_low : (a b : ℕ) → a < 2 → b < 2 → max a b < 2
max_low a b h g = omega arith

or_half : (a b : ℕ) → bit_or a b / 2 ≡ bit_or (a / 2) (b / 2)
or_half a b = rw (or_step a b) (half _ _ (max_low (a % 2) (b % 2) (omega arith) (omega arith)))

or_low : (a b : ℕ) → bit_or a b % 2 ≡ max (a % 2) (b % 2)
or_low a b = rw (or_step a b) (low _ _ (max_low (a % 2) (b % 2) (omega arith) (omega arith)))

max_swap : (a b c : ℕ) → max (max a b) c ≡ max (max a c) b
max_swap a b c = omega arith

or_swap : (k s x y : ℕ) → x < 2 ^ k → y < 2 ^ k → bit_or (bit_or s x) y ≡ bit_or (bit_or s y) x
or_swap zero s x y hx hy =
    let ex : x ≡ 0 = omega arith in
    let ey : y ≡ 0 = omega arith in rw (ex, ey)
or_swap (suc k) s x y hx hy =
    let hx' : x < 2 ^ k * 2 = rw pow-suc at hx in
    let hy' : y < 2 ^ k * 2 = rw pow-suc at hy in
    or_step (bit_or s x) y
    ∙ rw (or_half s x, or_low s x, or_swap k (s / 2) (x / 2) (y / 2) (omega arith) (omega arith), max_swap (s % 2) (x % 2) (y % 2), ← or_half s y, ← or_low s y)
    (sym (or_step (bit_or s y) x))

-- A ticket's own set: none has none.
unfoldable pub mask : ℕ → ℕ
mask t = pick (ltb t 63) (2 ^ t) 0

pub with_or : (s t : ℕ) → with_ticket s t ≡ bit_or s (mask t)
unfolding with_ticket mask
with_or s t = at (ltb t 63)
  where
    at : (b : Bool) → pick b (bit_or s (2 ^ t)) s ≡ bit_or s (pick b (2 ^ t) 0)
    at true = refl
    at false = sym (or_zero_r s)

mask_low : (t : ℕ) → mask t < 2 ^ 64
unfolding mask
mask_low t = at (ltb t 63) refl
  where
    at : (b : Bool) → ltb t 63 ≡ b → pick b (2 ^ t) 0 < 2 ^ 64
    at true e = omega (arith, pow-le-pow_right {n = 2} (omega arith) {i = t} {j = 63} (omega (arith, ltb-true t 63 e)))
    at false e = omega arith

pub with_swap : (s t u : ℕ) → with_ticket (with_ticket s t) u ≡ with_ticket (with_ticket s u) t
with_swap s t u = rw (with_or (with_ticket s t) u, with_or s t, with_or (with_ticket s u) t, with_or s u) (or_swap 64 s (mask t) (mask u) (mask_low t) (mask_low u))

pub ones_with : (s t : ℕ) → ones (with_ticket s t) ≤ ones s + 1
unfolding with_ticket
ones_with s t = at (ltb t 63)
  where
    at : (b : Bool) → ones (pick b (bit_or s (2 ^ t)) s) ≤ ones s + 1
    at true = ones_or s t
    at false = omega arith

-- Three more tickets below two more.
pub ones_three : (s a b x y z : ℕ) → ones (with_ticket (with_ticket (with_ticket (with_ticket (with_ticket s x) y) z) a) b) ≤ ones (with_ticket (with_ticket s a) b) + 3
ones_three s a b x y z =
    rw (
      with_swap (with_ticket (with_ticket s x) y) z a,
      with_swap (with_ticket s x) y a,
      with_swap s x a,
      with_swap (with_ticket (with_ticket (with_ticket s a) x) y) z b,
      with_swap (with_ticket (with_ticket s a) x) y b,
      with_swap (with_ticket s a) x b,
    )
    (omega (arith, ones_with (with_ticket (with_ticket (with_ticket (with_ticket s a) b) x) y) z, ones_with (with_ticket (with_ticket (with_ticket s a) b) x) y, ones_with (with_ticket (with_ticket s a) b) x))

none : ones 0 ≡ 0
unfolding ones lib.Count.ones_in
none = refl

pub ones_own : (a b : ℕ) → ones (with_ticket (with_ticket 0 a) b) ≤ 2
ones_own a b = omega (arith, ones_with (with_ticket 0 a) b, ones_with 0 a, none)
