-- When a write is listed, by the test.
use Prim.Native.Nat.{ℕ, ◌<◌}
use mathlib.Core.Bool.{Bool, true, false, ◌&&◌, ◌||◌}
use mathlib.Core.Logic.{◌⊎◌, inl, inr}
use lib.Dec.{T, eqb, ltb, eqb→eq, ltb→lt, lt→ltb}
use Rattle.history.specs.History.{History, Write}
use Rattle.words.proofs.Laws.Choice.{eq→T, and_T, T-left, T-right}
use Rattle.history.specs.Listing.{is_listed}

pub listed→ : (h : History) (q n : ℕ) → T (is_listed h q n) → Write h q
listed→ h q n t =
    let u : T (eqb (h.kind q) 1 && ltb 0 q) = T-left (eqb (h.kind q) 1 && ltb 0 q) _ t in
    record { is = eqb→eq _ _ (T-left (eqb (h.kind q) 1) _ u); real = ltb→lt _ _ (T-right (eqb (h.kind q) 1) _ u) }

or_left : (a b : Bool) → T a → T (a || b)
or_left true b t = tt
or_left false b t = elim t [ ]

or_right : (a b : Bool) → T b → T (a || b)
or_right true b t = tt
or_right false b t = t

pub →listed : (h : History) (q n : ℕ) → Write h q → (h.end q < h.len) ⊎ (0 < n) → T (is_listed h q n)
→listed h q n w c = and_T (eqb (h.kind q) 1 && ltb 0 q) _ (and_T (eqb (h.kind q) 1) _ (eq→T _ _ w.is) (lt→ltb _ _ w.real)) (go c)
  where
    go : (h.end q < h.len) ⊎ (0 < n) → T (ltb (h.end q) h.len || ltb 0 n)
    go (inl a) = or_left (ltb (h.end q) h.len) (ltb 0 n) (lt→ltb _ _ a)
    go (inr a) = or_right (ltb (h.end q) h.len) (ltb 0 n) (lt→ltb _ _ a)
