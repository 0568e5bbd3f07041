-- Tests that say what they are named for: each comes with its statement, and they are put together as the statements are.
use Prim.Native.Nat.{ℕ, ◌≤◌, ◌<◌}
use mathlib.Core.Path.{◌≡◌}
use mathlib.Core.Logic.{◌⊎◌, ◌↔◌, inl, inr}
use mathlib.Core.Bool.{Bool, true, false, not, ◌&&◌, ◌||◌}
use lib.Dec.{T, eqb, leb, ltb, eqb→eq, leb→le, le→leb, ltb→lt, lt→ltb}
use Rattle.words.specs.Choice.{pick}
use Rattle.words.proofs.Laws.Choice.{eq→T, and_T, T-left, T-right}

-- the test b passes exactly if P
pub record Tests (b : Bool) (P : Type 0) : Type 0 where
  pub only_if : T b → P
  pub if : P → T b

pub exactly : {b : Bool} {P : Type 0} → Tests b P → T b ↔ P
exactly p = (p.only_if, p.if)

pub both : {a b : Bool} {P Q : Type 0} → Tests a P → Tests b Q → Tests (a && b) (P × Q)
both {a = a} {b = b} p q = record {
  only_if = λ t. (p.only_if (T-left a b t), q.only_if (T-right a b t));
  if = λ x. and_T a b (p.if x.0) (q.if x.1);
}

pub either : {a b : Bool} {P Q : Type 0} → Tests a P → Tests b Q → Tests (a || b) (P ⊎ Q)
either {a = true} p q = record { only_if = λ t. inl (p.only_if tt); if = λ x. tt }
either {a = false} p q = record { only_if = λ t. inr (q.only_if t); if = λ x. elim x [ inl y ↦ absurd (p.if y) | inr y ↦ q.if y ] }

pub negated : {a : Bool} {P : Type 0} → Tests a P → Tests (not a) (¬ P)
negated {a = true} p = record { only_if = λ t. absurd t; if = λ n. n (p.only_if tt) }
negated {a = false} p = record { only_if = λ t x. p.if x; if = λ n. tt }

pub implied : {a b : Bool} {P Q : Type 0} → Tests a P → Tests b Q → Tests (pick a b true) (P → Q)
implied {a = true} p q = record { only_if = λ t x. q.only_if t; if = λ f. q.if (f (p.only_if tt)) }
implied {a = false} p q = record { only_if = λ t x. absurd (p.if x); if = λ f. tt }

pub chosen : {a b c : Bool} {P Q R : Type 0} → Tests a P → Tests b Q → Tests c R → Tests (pick a b c) ((P → Q) × (¬ P → R))
chosen {a = true} p q r = record { only_if = λ t. (λ _. q.only_if t, λ n. absurd (n (p.only_if tt))); if = λ x. q.if (x.0 (p.only_if tt)) }
chosen {a = false} p q r = record { only_if = λ t. (λ x. absurd (p.if x), λ _. r.only_if t); if = λ x. r.if (x.1 p.if) }

pub itself : (b : Bool) → Tests b (T b)
itself b = record { only_if = λ t. t; if = λ t. t }

pub equal : (m n : ℕ) → Tests (eqb m n) (m ≡ n)
equal m n = record { only_if = eqb→eq m n; if = eq→T m n }

pub less : (m n : ℕ) → Tests (ltb m n) (m < n)
less m n = record { only_if = ltb→lt m n; if = lt→ltb m n }

pub at_most : (m n : ℕ) → Tests (leb m n) (m ≤ n)
at_most m n = record { only_if = leb→le m n; if = le→leb m n }

-- the same test of another statement
pub restated : {b : Bool} {P Q : Type 0} → Tests b P → (P → Q) → (Q → P) → Tests b Q
restated p f g = record { only_if = λ t. f (p.only_if t); if = λ x. p.if (g x) }
