-- Lists by place: what stands in an appended list, and lists whose entries rise by a key.
use Prim.Native.Nat.{ℕ, suc, zero, ◌≤◌, ◌<◌, ◌+◌}
use native.Mathlib.Omega.{arith}
use native.Mathlib.Decide.{dec_lt}
use mathlib.Core.Path.{◌≡◌, ◌∙◌, sym, ap}
use mathlib.Core.Logic.{◌⊎◌, inl, inr}
use mathlib.Core.List.{List, [], ◌∷◌, ◌++◌}
use lib.ListN.{length, get_or, length-append, get_or-append}
use lib.Seq.{get_or-append-add}
use Rattle.history.specs.Linearization.{Stands}

pub stands_left : (l l' : List ℕ) (i x : ℕ) → Stands l i x → Stands (l ++ l') i x
stands_left l l' i x s = record {
  within = omega (arith, length-append l l');
  there = get_or-append l l' 0 i s.within ∙ s.there;
}

pub stands_right : (l l' : List ℕ) (i x : ℕ) → Stands l' i x → Stands (l ++ l') (length l + i) x
stands_right l l' i x s = record {
  within = omega (arith, length-append l l');
  there = get_or-append-add l l' i 0 ∙ s.there;
}

pub stands_cases : (l l' : List ℕ) (i x : ℕ) → Stands (l ++ l') i x → Stands l i x ⊎ ((j : ℕ) × Stands l' j x)
stands_cases [] l' i x s = inr (i, s)
stands_cases (y ∷ l) l' zero x s = inl (record { within = omega arith; there = s.there })
stands_cases (y ∷ l) l' (suc i) x s = go (stands_cases l l' i x (record { within = omega arith; there = s.there }))
  where
    go : Stands l i x ⊎ ((j : ℕ) × Stands l' j x) → Stands (y ∷ l) (suc i) x ⊎ ((j : ℕ) × Stands l' j x)
    go (inl t) = inl (record { within = omega arith; there = t.there })
    go (inr t) = inr t

-- The keys of l rise, from lo on and below hi.
abbrev pub Rising : (ℕ → ℕ) → ℕ → List ℕ → ℕ → Type 0
Rising f lo [] hi = lo ≤ hi
Rising f lo (x ∷ l) hi = (lo ≤ f x) × Rising f (suc (f x)) l hi

module _ (f : ℕ → ℕ) where
  pub rising_lower : (l : List ℕ) (a b hi : ℕ) → a ≤ b → Rising f b l hi → Rising f a l hi
  rising_lower [] a b hi le r = omega arith
  rising_lower (x ∷ l) a b hi le r = (omega arith, r.1)

  pub rising_append : (l l' : List ℕ) (a b c : ℕ) → Rising f a l b → Rising f b l' c → Rising f a (l ++ l') c
  rising_append [] l' a b c r s = rising_lower l' a b c r s
  rising_append (x ∷ l) l' a b c r s = (r.0, rising_append l l' (suc (f x)) b c r.1 s)

  pub rising_upper : (l : List ℕ) (lo a b : ℕ) → a ≤ b → Rising f lo l a → Rising f lo l b
  rising_upper [] lo a b le r = omega arith
  rising_upper (x ∷ l) lo a b le r = (r.0, rising_upper l (suc (f x)) a b le r.1)

  pub rising_from : (l : List ℕ) (lo hi i x : ℕ) → Rising f lo l hi → Stands l i x → lo ≤ f x
  rising_from [] lo hi i x r s = absurd (omega arith)
  rising_from (y ∷ l) lo hi zero x r s = rw (← s.there) r.0
  rising_from (y ∷ l) lo hi (suc i) x r s =
      omega (arith, rising_from l (suc (f y)) hi i x r.1 (record { within = omega arith; there = s.there }))

  pub rising_lt : (l : List ℕ) (lo hi i j x y : ℕ) → Rising f lo l hi → Stands l i x → Stands l j y → i < j → f x < f y
  rising_lt [] lo hi i j x y r s t a = absurd (omega arith)
  rising_lt (z ∷ l) lo hi i zero x y r s t a = absurd (omega arith)
  rising_lt (z ∷ l) lo hi zero (suc j) x y r s t a =
      rw (← s.there) (rising_from l (suc (f z)) hi j y r.1 (record { within = omega arith; there = t.there }))
  rising_lt (z ∷ l) lo hi (suc i) (suc j) x y r s t a =
      rising_lt l (suc (f z)) hi i j x y r.1 (record { within = omega arith; there = s.there })
      (record { within = omega arith; there = t.there }) (omega arith)

  -- So a smaller key stands before.
  pub rising_before : (l : List ℕ) (lo hi i j x y : ℕ) → Rising f lo l hi → Stands l i x → Stands l j y → f x < f y → i < j
  rising_before l lo hi i j x y r s t a = go (dec_lt i j) (dec_lt j i)
    where
      go : Dec (i < j) → Dec (j < i) → i < j
      go (yes b) _ = b
      go (no n) (yes b) = absurd (omega (arith, rising_lt l lo hi j i y x r t s b))
      go (no n) (no k) = let e : i ≡ j = omega arith in absurd (omega (arith, ap f (sym s.there ∙ ap (λ k. get_or l k 0) e ∙ t.there)))
