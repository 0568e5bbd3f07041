-- Rows that pass a test, one after the other.
use Prim.Native.Nat.{ℕ, suc, zero, ◌<◌, ◌+◌}
use native.Mathlib.Omega.{arith}
use native.Mathlib.Decide.{ℕ_discrete, dec_lt}
use mathlib.Core.Path.{◌≡◌, refl, sym, ap, ◌∙◌}
use mathlib.Core.Bool.{Bool, true, false}
use mathlib.Core.Logic.{◌⊎◌, inl, inr}
use mathlib.Core.List.{List, [], ◌∷◌, ◌++◌}
use lib.Dec.{T}
use lib.ListN.{length, length-append, get_or-append}
use lib.Seq.{get_or_at}
use Rattle.words.specs.Choice.{pick}
use Rattle.words.proofs.Laws.Choice.{not→false}
use Rattle.history.specs.Linearization.{Stands}
use Rattle.history.proofs.Rising.{stands_left, stands_right}
use Rattle.lags.specs.Sheet.{picked}

-- x stands in l, or is the one put behind it
behind : (l : List ℕ) (b : Bool) (y i x : ℕ) → Stands (l ++ pick b (y ∷ []) []) i x → Stands l i x ⊎ (T b × (i ≡ length l) × (y ≡ x))
behind l b y i x s = elim (dec_lt i (length l)) [
  | yes a ↦ inl (record { within = a; there = sym (get_or-append l _ 0 i a) ∙ s.there })
  | no a ↦ inr (last a b s)
]
  where
    last : ¬ (i < length l) → (b : Bool) → Stands (l ++ pick b (y ∷ []) []) i x → T b × (i ≡ length l) × (y ≡ x)
    last a true s =
        let e : i ≡ length l = omega (arith, length-append l (y ∷ [])) in
        (tt, e, sym (get_or_at l y [] 0 i (sym e)) ∙ s.there)
    last a false s = absurd (omega (arith, length-append {A = ℕ} l []))

module _ (t : ℕ → Bool) (g : ℕ → ℕ) where
  pub picked_only : (k i x : ℕ) → Stands (picked t g k) i x → (e : ℕ) × (e < k) × T (t e) × (g e ≡ x)
  unfolding picked
  picked_only zero i x s = absurd (omega arith)
  picked_only (suc k) i x s = elim (behind (picked t g k) (t k) (g k) i x s) [
    | inl u ↦ let p = picked_only k i x u in (p.0, omega arith, p.2, p.3)
    | inr u ↦ (k, omega arith, u.0, u.2)
  ]

  pub picked_all : (k e : ℕ) → e < k → T (t e) → (i : ℕ) × Stands (picked t g k) i (g e)
  unfolding picked
  picked_all zero e a u = absurd (omega arith)
  picked_all (suc k) e a u = elim (ℕ_discrete e k) [
    | yes d ↦ (length (picked t g k) + 0, stands_right (picked t g k) _ 0 (g e) (here d (t k) (rw d at u)))
    | no d ↦ let s = picked_all k e (omega arith) u in (s.0, stands_left (picked t g k) _ s.0 (g e) s.1)
  ]
    where
      here : e ≡ k → (b : Bool) → T b → Stands (pick b (g k ∷ []) []) 0 (g e)
      here d true v = record { within = omega arith; there = ap g (sym d) }
      here d false v = elim v [ ]

  pub picked_none : (k : ℕ) → ((e : ℕ) → e < k → T (t e) → ⊥) → picked t g k ≡ []
  unfolding picked
  picked_none zero n = refl
  picked_none (suc k) n = rw (picked_none k (λ e a. n e (omega arith)), not→false (t k) (n k (omega arith)))

  -- they rise where g does
  module _ (up : (e f : ℕ) → T (t e) → T (t f) → e < f → g e < g f) where
    pub picked_rising : (k i j x y : ℕ) → Stands (picked t g k) i x → Stands (picked t g k) j y → i < j → x < y
    unfolding picked
    picked_rising zero i j x y s u a = absurd (omega arith)
    picked_rising (suc k) i j x y s u a = go (picked_rising k i j x y) (behind (picked t g k) (t k) (g k) i x s) (behind (picked t g k) (t k) (g k) j y u)
      where
        below : Stands (picked t g k) i x → T (t k) → g k ≡ y → x < y
        below b v e = let p = picked_only k i x b in omega (arith, p.3, up p.0 k p.2 v p.1)

        go : (Stands (picked t g k) i x → Stands (picked t g k) j y → i < j → x < y)
            → Stands (picked t g k) i x ⊎ (T (t k) × (i ≡ length (picked t g k)) × (g k ≡ x))
            → Stands (picked t g k) j y ⊎ (T (t k) × (j ≡ length (picked t g k)) × (g k ≡ y)) → x < y
        go f (inl b) (inl c) = f b c a
        go f (inl b) (inr c) = below b c.0 c.2
        go f (inr b) (inl c) = absurd (omega arith)
        go f (inr b) (inr c) = absurd (omega arith)
