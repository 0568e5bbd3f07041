-- Sets of tickets as numbers: membership after a ticket is added, the smallest ticket outside, and how large it can be.
use Prim.Native.Nat.{ℕ, zero, suc, ◌+◌, ◌-◌, ◌*◌, ◌/◌, ◌%◌, ◌^◌, ◌≤◌, ◌<◌, max, zero-le}
use mathlib.Core.Path.{◌≡◌, refl, ap, ◌∙◌}
use native.Mathlib.Omega.{arith}
use native.Mathlib.Nat.{pow-suc, mul_comm, div-div-eq-div-mul, div-one, zero-div, one-mul}
use lib.Bits.{bit_or, or_step, or_shr, or_zero_r}
use lib.Count.{count_trailing_zeros, under, ones, ones_step}
use lib.Pow.{shl_exact, pow_pos}
use Rattle.words.proofs.Laws.Choice.{lt_ind, le_ind}
use Rattle.protocol.specs.Tickets.{bit, smallest_out, next, through, walk_on}

half_pow : (t : ℕ) → 2 ^ suc t / 2 ≡ 2 ^ t
half_pow t = rw pow-suc (omega arith)

-- the complement's trailing zeros
half_not : (p s : ℕ) → s < p * 2 → (p * 2 - 1 - s) / 2 ≡ p - 1 - s / 2
half_not p s h = omega arith

flip : (p s : ℕ) → s < p * 2 → (p * 2 - 1 - s) % 2 ≡ 1 - s % 2
flip p s h = omega arith

turned : (d t : ℕ) → d < 2 → under (1 - d) t ≡ next d t
turned zero t h = refl
turned (suc zero) t h = refl
turned (suc (suc d)) t h = absurd (omega arith)

pub zeros_of_not : (k s : ℕ) → s < 2 ^ k → count_trailing_zeros k (2 ^ k - 1 - s) ≡ smallest_out k s
unfolding count_trailing_zeros smallest_out
zeros_of_not zero s h = refl
zeros_of_not (suc k) s h =
    let h' : s < 2 ^ k * 2 = rw pow-suc at h in
    rw (pow-suc, flip (2 ^ k) s h', half_not (2 ^ k) s h', zeros_of_not k (s / 2) (omega arith)) (turned (s % 2) _ (omega arith))

-- digit t + 1 of s is digit t of s / 2
bit_suc : (s t : ℕ) → bit s (suc t) ≡ bit (s / 2) t
bit_suc s t = rw (pow-suc, mul_comm (2 ^ t) 2, ← div-div-eq-div-mul)

zero_bit : (t : ℕ) → bit (1 / 2) t ≡ 0
zero_bit t = rw zero-div

-- each ticket below the first one outside is in the set
over_below : (d n : ℕ) (t : ℕ) → suc t < next d n → t < n
over_below zero n t h = absurd (omega arith)
over_below (suc d) n t h = omega arith

over_first : (d n : ℕ) → d < 2 → 0 < next d n → d ≡ 1
over_first zero n l h = absurd (omega arith)
over_first (suc zero) n l h = refl
over_first (suc (suc d)) n l h = absurd (omega arith)

pub below_in : (k s t : ℕ) → t < smallest_out k s → bit s t ≡ 1
unfolding smallest_out
below_in zero s t h = absurd (omega arith)
below_in (suc k) s zero h = rw div-one (over_first (s % 2) _ (omega arith) h)
below_in (suc k) s (suc t) h = rw bit_suc (below_in k (s / 2) t (over_below (s % 2) _ t h))

-- and that one is not, where it is below k
out_step : (d s n k : ℕ) → s % 2 ≡ d → next d n < suc k → (n < k → bit (s / 2) n ≡ 0) → bit s (next d n) ≡ 0
out_step zero s n k e l f = rw div-one e
out_step (suc d) s n k e l f = rw bit_suc (f (omega arith))

pub first_out : (k s : ℕ) → smallest_out k s < k → bit s (smallest_out k s) ≡ 0
unfolding smallest_out
first_out zero s h = absurd (omega arith)
first_out (suc k) s h = out_step (s % 2) s (smallest_out k (s / 2)) k refl h (first_out k (s / 2))

-- it is at most the number of tickets in the set
over_le : (d n m : ℕ) → d < 2 → n ≤ m → next d n ≤ d + m
over_le zero n m h l = zero-le
over_le (suc d) n m h l = omega arith

pub first_le_ones : (k s : ℕ) → smallest_out k s ≤ ones s
unfolding smallest_out
first_le_ones zero s = zero-le
first_le_ones (suc k) s = rw ones_step (over_le (s % 2) _ _ (omega arith) (first_le_ones k (s / 2)))

-- a ticket more: the others stay as they are
pub bit_or_lem : (a b t : ℕ) → bit (bit_or a b) t ≡ max (bit a t) (bit b t)
bit_or_lem a b t = rw (or_shr, or_step) (low (max (a / 2 ^ t % 2) (b / 2 ^ t % 2)) (omega arith))
  where
    low : (m : ℕ) → m < 2 → (bit_or (a / 2 ^ t / 2) (b / 2 ^ t / 2) * 2 + m) % 2 ≡ m
    low m h = omega arith

pub bit_same : (t : ℕ) → bit (2 ^ t) t ≡ 1
bit_same zero = refl
bit_same (suc t) = rw (bit_suc, half_pow) (bit_same t)

pub bit_other : (u t : ℕ) → (u ≡ t → ⊥) → bit (2 ^ u) t ≡ 0
bit_other zero zero n = absurd (n refl)
bit_other zero (suc t) n = rw bit_suc (zero_bit t)
bit_other (suc u) zero n = rw (pow-suc, div-one) (omega arith)
bit_other (suc u) (suc t) n = rw (bit_suc, half_pow) (bit_other u t (λ e. n (ap suc e)))

-- the tickets below k
half_low : (k : ℕ) → (2 ^ suc k - 1) / 2 ≡ 2 ^ k - 1
half_low k = rw pow-suc (omega arith)

odd : (k : ℕ) → (2 ^ suc k - 1) % 2 ≡ 1
odd k = rw pow-suc (omega (arith, pow_pos k))

low_in : (k t : ℕ) → t < k → bit (2 ^ k - 1) t ≡ 1
low_in zero t h = absurd (omega arith)
low_in (suc k) zero h = rw div-one (odd k)
low_in (suc k) (suc t) h = rw (bit_suc, half_low) (low_in k t (omega arith))

low_out : (k t : ℕ) → k ≤ t → bit (2 ^ k - 1) t ≡ 0
low_out zero t h = rw zero-div
low_out (suc k) zero h = absurd (omega arith)
low_out (suc k) (suc t) h = rw (bit_suc, half_low) (low_out k t (omega arith))

-- the tickets up to u
pub through_in : (u t : ℕ) → t < 63 → t ≤ u → bit (through u) t ≡ 1
unfolding through
through_in u t h g = lt_ind (λ x. bit x t ≡ 1) u 63 _ _ (λ _. low_in (suc u) t (omega arith)) (λ _. low_in 64 t (omega arith))

pub through_out : (u t : ℕ) → t < 63 → u < t → bit (through u) t ≡ 0
unfolding through
through_out u t h g = lt_ind (λ x. bit x t ≡ 0) u 63 _ _ (λ _. low_out (suc u) t (omega arith)) (λ q. absurd (omega arith))

ones_cons : (x m : ℕ) → m < 2 → ones (x * 2 + m) ≡ m + ones x
ones_cons x m h =
    let a : (x * 2 + m) % 2 ≡ m = omega arith in
    let b : (x * 2 + m) / 2 ≡ x = omega arith in
    rw (ones_step, a, b)

even : (t : ℕ) → 2 ^ suc t % 2 ≡ 0
even t = rw pow-suc (omega arith)

-- at most one more in the set
pub ones_or : (s t : ℕ) → ones (bit_or s (2 ^ t)) ≤ ones s + 1
ones_or s zero =
    let h : max (s % 2) 1 < 2 = omega arith in rw (or_step, or_zero_r, ones_cons, ones_step s) (omega arith)
ones_or s (suc t) =
    let h : max (s % 2) (2 ^ suc t % 2) < 2 = omega arith in
    rw (or_step, half_pow, ones_cons, ones_step s) (omega (arith, ones_or (s / 2) t, even t))

pub two_shifted : (t : ℕ) → t < 63 → 2 * 2 ^ t % 2 ^ 64 ≡ 2 ^ suc t
two_shifted t h = shl_exact 2 t 64 (omega arith) (omega arith) ∙ rw pow-suc (omega arith)

pub out_small : (k s : ℕ) → smallest_out k s ≤ k
unfolding smallest_out
out_small zero s = zero-le
out_small (suc k) s = over_le_suc (s % 2) _ k (out_small k (s / 2))
  where
    over_le_suc : (d n m : ℕ) → n ≤ m → next d n ≤ suc m
    over_le_suc zero n m h = zero-le
    over_le_suc (suc d) n m h = omega arith

pub walk_small : (top cur s : ℕ) → walk_on top cur s ≤ 64
unfolding walk_on
walk_small top cur s = le_ind (λ x. x ≤ 64) _ top _ _ (λ _. out_small 64 _) (λ _. out_small 64 s)
