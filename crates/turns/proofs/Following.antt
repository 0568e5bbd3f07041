-- What the two functions list, case by case, as the code goes.
use Prim.Native.Nat.{ℕ, suc, zero, ◌≤◌, ◌<◌, ◌+◌, ◌-◌, ◌*◌, ◌^◌}
use native.Mathlib.Omega.{arith}
use mathlib.Core.Path.{◌≡◌, refl, sym, subst}
use mathlib.Core.Logic.{◌≢◌}
use mathlib.Core.List.{List, [], ◌∷◌, ◌++◌, map}
use lib.ListN.{length, take}
use Rattle.lines.specs.Lines.{Puts}
use Rattle.lines.specs.declared.Lent.{Lent}
use Rattle.lines.specs.Adds.{Adds}
use Rattle.lines.proofs.Puts.{nothing, whole}
use Rattle.lines.proofs.Adds.{then_adds}
use Rattle.schedules.specs.Schedules.{Turn, w, r, after_writer, after_reader}
use Rattle.schedules.specs.Numbers.{value, numbers, top, listed, Lists}
use Rattle.schedules.proofs.Numbers.{with_w, with_r, numbers_append, top_le, top_ge, listed_short, listed_long, listed_few, lists}

-- either of the two
pub record Follows (f : ℕ → ℕ → ℕ → List (List Turn)) : Type 0 where
  pub end : f 0 0 0 ≡ [] ∷ []
  pub writer : (k a : ℕ) → f (suc k) (suc a) 0 ≡ map (w ∷◌) (after_writer k a 0)
  pub reader : (k b : ℕ) → f (suc k) 0 (suc b) ≡ map (r ∷◌) (after_reader k 0 b)
  pub both : (k a b : ℕ) → f (suc k) (suc a) (suc b) ≡ map (w ∷◌) (after_writer k a (suc b)) ++ map (r ∷◌) (after_reader k (suc a) b)

pub writer_follows : Follows after_writer
unfolding after_writer after_reader
writer_follows = record { end = refl; writer = λ k a. refl; reader = λ k b. refl; both = λ k a b. refl }

pub reader_follows : Follows after_reader
unfolding after_writer after_reader
reader_follows = record { end = refl; writer = λ k a. refl; reader = λ k b. refl; both = λ k a b. refl }

module _ (f : ℕ → ℕ → ℕ → List (List Turn)) (F : Follows f) (a b d : ℕ) {old new : Lent ℕ} where
  pub put_end : b ≡ 0 → a ≡ 0 → Adds (d ∷ []) old new → Adds (numbers d (f (a + b) a b)) old new
  unfolding numbers value
  put_end z y P = rw (z, y, F.end) P

  pub put_writer : b ≡ 0 → a ≢ 0 → Adds (numbers (2 * d) (after_writer (a - 1 + b) (a - 1) b)) old new → Adds (numbers d (f (a + b) a b)) old new
  put_writer z y P = rw (only_w a b z y, with_w d (after_writer (a - 1 + b) (a - 1) b)) P
    where
      only_w : (a b : ℕ) → b ≡ 0 → a ≢ 0 → f (a + b) a b ≡ map (w ∷◌) (after_writer (a - 1 + b) (a - 1) b)
      only_w zero b z y = absurd (y refl)
      only_w (suc a) b z y =
          let h : suc a + b ≡ suc a = omega arith in
          let i : suc a - 1 ≡ a = omega arith in
          let j : suc a - 1 + b ≡ a = omega arith in
          rw (h, j, i, z) (F.writer a a)

  pub put_reader : b ≢ 0 → a ≡ 0 → Adds (numbers (2 * d + 1) (after_reader (a + (b - 1)) a (b - 1))) old new → Adds (numbers d (f (a + b) a b)) old new
  put_reader z y P = rw (only_r a b z y, with_r d (after_reader (a + (b - 1)) a (b - 1))) P
    where
      only_r : (a b : ℕ) → b ≢ 0 → a ≡ 0 → f (a + b) a b ≡ map (r ∷◌) (after_reader (a + (b - 1)) a (b - 1))
      only_r a zero z y = absurd (z refl)
      only_r a (suc b) z y =
          let h : a + suc b ≡ suc b = omega arith in
          let i : suc b - 1 ≡ b = omega arith in
          let j : a + (suc b - 1) ≡ b = omega arith in
          rw (h, j, i, y) (F.reader b b)

  pub put_both : {mid : Lent ℕ} → b ≢ 0 → a ≢ 0 → Adds (numbers (2 * d) (after_writer (a - 1 + b) (a - 1) b)) old mid
      → Adds (numbers (2 * d + 1) (after_reader (a + (b - 1)) a (b - 1))) mid new
      → Adds (numbers d (f (a + b) a b)) old new
  put_both z y P Q =
      rw (
        both_is a b z y,
        numbers_append d (map (w ∷◌) (after_writer (a - 1 + b) (a - 1) b)) (map (r ∷◌) (after_reader (a + (b - 1)) a (b - 1))),
        with_w d (after_writer (a - 1 + b) (a - 1) b),
        with_r d (after_reader (a + (b - 1)) a (b - 1)),
      ) (then_adds P Q)
    where
      both_is : (a b : ℕ) → b ≢ 0 → a ≢ 0 → f (a + b) a b ≡ map (w ∷◌) (after_writer (a - 1 + b) (a - 1) b) ++ map (r ∷◌) (after_reader (a + (b - 1)) a (b - 1))
      both_is zero b z y = absurd (y refl)
      both_is (suc a) zero z y = absurd (z refl)
      both_is (suc a) (suc b) z y =
          let h : suc a + suc b ≡ suc (suc a + b) = omega arith in
          let i : suc a - 1 ≡ a = omega arith in
          let j : suc b - 1 ≡ b = omega arith in
          let k : a + suc b ≡ suc a + b = omega arith in
          rw (h, i, j, k) (F.both (suc a + b) a b)

-- A turn less, and a bit more: the numbers stay low.
pub low_w : (a b d : ℕ) → a ≢ 0 → top (a + b) d < 2 ^ 32 → (2 * d < 2 ^ 32) × (top (a - 1 + b) (2 * d) < 2 ^ 32)
unfolding top
low_w zero b d y h = absurd (y refl)
low_w (suc a) b d y h =
    let e : suc a - 1 + b ≡ a + b = omega arith in
    let f : suc a + b ≡ suc (a + b) = omega arith in
    let g : top (a + b) (2 * d + 1) < 2 ^ 32 = rw f at h in
    rw e (omega (arith, top_ge (a + b) (2 * d + 1)), omega (arith, top_le (a + b) (2 * d) (2 * d + 1) (omega arith)))

pub low_r : (a b d : ℕ) → b ≢ 0 → top (a + b) d < 2 ^ 32 → (2 * d + 1 < 2 ^ 32) × (top (a + (b - 1)) (2 * d + 1) < 2 ^ 32)
unfolding top
low_r a zero d z h = absurd (z refl)
low_r a (suc b) d z h =
    let e : a + (suc b - 1) ≡ a + b = omega arith in
    let f : a + suc b ≡ suc (a + b) = omega arith in
    let g : top (a + b) (2 * d + 1) < 2 ^ 32 = rw f at h in
    rw e (omega (arith, top_ge (a + b) (2 * d + 1)), g)

-- The whole list.
pub long_list : (a b : ℕ) (l : List ℕ) → 16 < a + b → Puts (listed a b) 0 l l 0
long_list a b l h = rw (listed_long a b h) (nothing l 0)

pub short_list : (a b : ℕ) {l x : List ℕ} {e : ℕ} → a + b ≤ 16 → Puts (numbers 0 (after_writer (a + b) a b)) 0 l x e → Puts (listed a b) 0 l x e
short_list a b h P = rw (listed_short a b h) P

pub all_listed : (a b : ℕ) {l x : List ℕ} {e : ℕ} → Puts (listed a b) 0 l x e → a + b ≤ 16 → 12870 ≤ length l → Lists a b (take e x)
all_listed a b P h room = subst (Lists a b) (sym (whole P (omega (arith, listed_few a b h)))) (lists a b h)
