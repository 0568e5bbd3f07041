-- Schedules as numbers.
use Prim.Native.Nat.{ℕ, suc, zero, ◌≤◌, ◌<◌, ◌+◌, ◌-◌, ◌*◌, ◌/◌, ◌%◌}
use native.Mathlib.Omega.{arith}
use mathlib.Core.Path.{◌≡◌, refl, ap, ◌∙◌}
use mathlib.Core.List.{List, [], ◌∷◌, ◌++◌, map, append-nil, append_assoc}
use lib.ListN.{length, length-map}
use borrow.Author.Tests.{le-leb, lt-leb}
use Rattle.schedules.specs.Schedules.{Turn, w, r, schedules}
use Rattle.schedules.specs.Numbers.{value, numbers, top, turns_of, listed, Lists}
use Rattle.schedules.proofs.Count.{few}
use Rattle.schedules.proofs.Meaning.{all_schedules}

-- those that begin with a turn
pub with_w : (d : ℕ) (l : List (List Turn)) → numbers d (map (w ∷◌) l) ≡ numbers (2 * d) l
unfolding numbers value
with_w d [] = refl
with_w d (s ∷ l) = ap (value (2 * d) s ∷◌) (with_w d l)

pub with_r : (d : ℕ) (l : List (List Turn)) → numbers d (map (r ∷◌) l) ≡ numbers (2 * d + 1) l
unfolding numbers value
with_r d [] = refl
with_r d (s ∷ l) = ap (value (2 * d + 1) s ∷◌) (with_r d l)

pub numbers_append : (d : ℕ) (l m : List (List Turn)) → numbers d (l ++ m) ≡ numbers d l ++ numbers d m
unfolding numbers
numbers_append d [] m = refl
numbers_append d (s ∷ l) m = ap (value d s ∷◌) (numbers_append d l m)

-- The largest number.
pub top_le : (k d e : ℕ) → d ≤ e → top k d ≤ top k e
unfolding top
top_le zero d e a = a
top_le (suc k) d e a = top_le k (2 * d + 1) (2 * e + 1) (omega arith)

pub top_ge : (k d : ℕ) → d ≤ top k d
unfolding top
top_ge zero d = omega arith
top_ge (suc k) d = omega (arith, top_ge k (2 * d + 1))

-- sixteen turns have sixteen bits
pub top_fits : (k : ℕ) → k ≤ 16 → top k 0 < 65536
unfolding top
top_fits k a =
    let e : 16 - k + k ≡ 16 = omega arith in
    let f : top (16 - k + k) 0 ≡ 65535 = ap (λ (n : ℕ). top n 0) e in
    omega (arith, more (16 - k), f)
  where
    more : (j : ℕ) → top k 0 ≤ top (j + k) 0
    more zero = let e : 0 + k ≡ k = omega arith in rw e (omega arith)
    more (suc j) =
        let e : suc j + k ≡ suc (j + k) = omega arith in
        rw e (omega (arith, more j, top_le (j + k) 0 1 (omega arith)))

-- The turns of a schedule's number are its turns.
turns_behind : (s : List Turn) (j d : ℕ) → turns_of (j + length s) (value d s) ≡ turns_of j d ++ s
unfolding value turns_of
turns_behind [] j d = let e : j + 0 ≡ j = omega arith in rw (e, append-nil (turns_of j d))
turns_behind (w ∷ s) j d =
    let e : j + suc (length s) ≡ suc j + length s = omega arith in
    let h : (2 * d) / 2 ≡ d = omega arith in
    let i : (2 * d) % 2 ≡ 0 = omega arith in
    rw e (turns_behind s (suc j) (2 * d) ∙ rw (h, i) (append_assoc (turns_of j d) (w ∷ []) s))
turns_behind (r ∷ s) j d =
    let e : j + suc (length s) ≡ suc j + length s = omega arith in
    let h : (2 * d + 1) / 2 ≡ d = omega arith in
    let i : (2 * d + 1) % 2 ≡ 1 = omega arith in
    rw e (turns_behind s (suc j) (2 * d + 1) ∙ rw (h, i) (append_assoc (turns_of j d) (r ∷ []) s))

pub turns_back : (s : List Turn) → turns_of (length s) (value 0 s) ≡ s
unfolding turns_of
turns_back s = let e : length s ≡ 0 + length s = omega arith in ap (λ (k : ℕ). turns_of k (value 0 s)) e ∙ turns_behind s 0 0

-- What is listed: of up to sixteen turns all schedules, and at most 12,870.
pub listed_short : (a b : ℕ) → a + b ≤ 16 → listed a b ≡ numbers 0 (schedules a b)
unfolding listed
listed_short a b h = rw (le-leb (a + b) 16 h)

pub listed_long : (a b : ℕ) → 16 < a + b → listed a b ≡ []
unfolding listed
listed_long a b h = rw (lt-leb (a + b) 16 h)

pub listed_few : (a b : ℕ) → a + b ≤ 16 → length (listed a b) ≤ 12870
unfolding numbers
listed_few a b h =
    omega (arith, ap length (listed_short a b h), length-map (schedules a b) (value 0), (all_schedules a b).count, few a b h)

pub lists : (a b : ℕ) → a + b ≤ 16 → Lists a b (listed a b)
lists a b h = record { list = schedules a b; means = all_schedules a b; numbers_are = listed_short a b h }
