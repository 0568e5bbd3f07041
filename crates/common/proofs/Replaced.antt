-- A reader of the state is replaced: it is the new one, and every other processor is as it was.
use Prim.Native.Nat.{ℕ, zero, suc, ◌-◌, ◌≤◌, ◌<◌}
use mathlib.Core.Path.{◌≡◌, refl, sym, subst, ap, ◌∙◌}
use mathlib.Core.Logic.{◌≢◌}
use mathlib.Core.Bool.{Bool, not, ◌&&◌}
use native.Mathlib.Omega.{arith}
use native.Mathlib.Decide.{ℕ_discrete}
use lib.ListN.{length}
use lib.Seq.{get_or-set_same, get_or-set_other}
use lib.Dec.{eqb}
use borrow.Author.Tests.{ne_eqb}
use Rattle.common.specs.declared.Head.{Head}
use Rattle.common.specs.declared.Reader.{Reader}
use Rattle.common.specs.declared.State.{State}
use Rattle.common.specs.State.{blank, reader_at, is_retired, with_reader}

-- A reader is retired if its processor is.
pub retired_at : (s : State) (p : ℕ) → p ≢ 0 → is_retired s p ≡ (reader_at s (p - 1)).retired
retired_at s p ne = rw (ne_eqb p 0 ne)

-- The reader at place i of the list.
module _ (s : State) (i : ℕ) (r : Reader) (h : Head) where
  pub reader_other : (j : ℕ) → j ≢ i → reader_at (with_reader s i r h) j ≡ reader_at s j
  reader_other j ne = get_or-set_other s.readers i j r blank ne

  module _ (l : i < length s.readers) where
    pub reader_own : reader_at (with_reader s i r h) i ≡ r
    reader_own = get_or-set_same s.readers i r blank l

    -- what holds of the new one, and held of the others, holds of each
    pub each_place : (P : ℕ → Reader → Type 0) → P i r → ((j : ℕ) → j ≢ i → P j (reader_at s j)) → (j : ℕ) → P j (reader_at (with_reader s i r h) j)
    each_place P k f j = elim (ℕ_discrete j i) [ yes e ↦ rw (e, reader_own) k | no e ↦ rw (reader_other j e) (f j e) ]

-- Reader p.
module _ (s : State) (p : ℕ) (r : Reader) (h : Head) (p1 : 1 ≤ p) where
  pub retired_other : (j : ℕ) → j ≢ p → is_retired (with_reader s (p - 1) r h) j ≡ is_retired s j
  retired_other zero ne = refl
  retired_other (suc k) ne = ap (λ (x : Reader). not (eqb (suc k) 0) && x.retired) (reader_other s (p - 1) r h (suc k - 1) (omega arith))

  module _ (l : p - 1 < length s.readers) where
    pub each_reader : (P : ℕ → Reader → Type 0) → P p r → ((j : ℕ) → j ≢ p → 1 ≤ j → P j (reader_at s (j - 1)))
        → (j : ℕ) → 1 ≤ j → P j (reader_at (with_reader s (p - 1) r h) (j - 1))
    each_reader P k f j j1 = elim (ℕ_discrete j p) [
      | yes e ↦ rw (e, reader_own s (p - 1) r h l) k
      | no e ↦ rw (reader_other s (p - 1) r h (j - 1) (omega arith)) (f j e j1)
    ]

    -- the retired among 0..n are those of a set that has reader p as the new one is
    pub each_retired : (F : ℕ → Bool) (n : ℕ) → r.retired ≡ F p → ((j : ℕ) → j ≢ p → j ≤ n → is_retired s j ≡ F j)
        → (j : ℕ) → j ≤ n → is_retired (with_reader s (p - 1) r h) j ≡ F j
    each_retired F n k f j jn = elim (ℕ_discrete j p) [
      | yes e ↦ subst (λ (q : ℕ). is_retired (with_reader s (p - 1) r h) q ≡ F q) (sym e)
          (retired_at (with_reader s (p - 1) r h) p (omega arith) ∙ ap (λ (x : Reader). x.retired) (reader_own s (p - 1) r h l) ∙ k)
      | no e ↦ retired_other j e ∙ f j e jn
    ]
