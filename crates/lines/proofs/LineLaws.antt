-- Numbers as digits, and the lines.
use Prim.Native.Nat.{ℕ, zero, suc, ◌+◌, ◌/◌, ◌%◌, ◌≤◌, ◌<◌}
use native.Mathlib.Omega.{arith}
use native.Mathlib.Decide.{dec_lt}
use mathlib.Core.Path.{◌≡◌, refl, sym, ap, subst, ◌∙◌}
use mathlib.Core.Bool.{Bool, true, false}
use mathlib.Core.List.{List, [], ◌∷◌, ◌++◌}
use lib.Dec.{ltb}
use borrow.Author.Tests.{le-ltb, lt-ltb}
use Rattle.words.specs.declared.row.Row.{Row}
use Rattle.words.specs.Row.{unpack_row}
use Rattle.words.proofs.Laws.Choice.{never}
use Rattle.lines.specs.Lines.{decimal_in, decimal, letter_of, reader_text, reading_text, row_text, row_line}
use Rattle.lines.specs.Adds.{Adds, Sink}
use Rattle.lines.proofs.Adds.{then_adds}

-- A step, of a number with one digit and of one with more.
small_step : (f n : ℕ) → n < 10 → decimal_in (suc f) n ≡ (48 + n) ∷ []
unfolding decimal_in
small_step f n h = go (ltb n 10) (lt-ltb n 10 h)
  where
    go : (t : Bool) → t ≡ true → elim t as (λ _. List ℕ) [ true ↦ (48 + n) ∷ [] | false ↦ decimal_in f (n / 10) ++ ((48 + n % 10) ∷ []) ] ≡ (48 + n) ∷ []
    go true e = refl
    go false e = never (sym e)

large_step : (f n : ℕ) → 10 ≤ n → decimal_in (suc f) n ≡ decimal_in f (n / 10) ++ ((48 + n % 10) ∷ [])
unfolding decimal_in
large_step f n h = go (ltb n 10) (le-ltb n 10 h)
  where
    go : (t : Bool) → t ≡ false
        → elim t as (λ _. List ℕ) [ true ↦ (48 + n) ∷ [] | false ↦ decimal_in f (n / 10) ++ ((48 + n % 10) ∷ []) ] ≡ decimal_in f (n / 10) ++ ((48 + n % 10) ∷ [])
    go true e = never e
    go false e = refl

-- Steps beyond those needed change nothing.
steps : (f g n : ℕ) → n < f → n < g → decimal_in f n ≡ decimal_in g n
steps zero g n a b = absurd (omega arith)
steps (suc f) zero n a b = absurd (omega arith)
steps (suc f) (suc g) n a b =
    elim (dec_lt n 10) [
      | yes l ↦ small_step f n l ∙ sym (small_step g n l)
      | no l ↦
          large_step f n (omega arith)
          ∙ ap (λ (t : List ℕ). t ++ ((48 + n % 10) ∷ [])) (steps f g (n / 10) (omega arith) (omega arith))
          ∙ sym (large_step g n (omega arith))
    ]

pub decimal_small : (n : ℕ) → n < 10 → decimal n ≡ (48 + n) ∷ []
unfolding decimal
decimal_small n h = small_step n n h

pub decimal_large : (n : ℕ) → 10 ≤ n → decimal n ≡ decimal (n / 10) ++ ((48 + n % 10) ∷ [])
unfolding decimal
decimal_large n h =
    large_step n n h
    ∙ ap (λ (t : List ℕ). t ++ ((48 + n % 10) ∷ [])) (steps n (suc (n / 10)) (n / 10) (omega arith) (omega arith))

-- The cases of a number.
pub number_small : (n : ℕ) {a b : Sink} → n < 10 → Adds ((48 + n % 10) ∷ []) a b → Adds (decimal n) a b
number_small n h f =
    let e : n % 10 ≡ n = omega arith in
    rw (decimal_small n h) (rw e at f)

pub number_large : (n : ℕ) {a b c : Sink} → 10 ≤ n → Adds (decimal (n / 10)) a b → Adds ((48 + n % 10) ∷ []) b c → Adds (decimal n) a c
number_large n h f g = rw (decimal_large n h) (then_adds f g)

-- A whole row.
pub row_is : (k w : ℕ) (y : Row) (g : ℕ) {a b c d e f : Sink} → y ≡ unpack_row w → g ≡ letter_of y.kind
    → Adds (decimal k) a b
    → Adds (32 ∷ g ∷ []) b c
    → Adds (reader_text y.kind y.processor) c d
    → Adds (reading_text y.kind y.value) d e
    → Adds (10 ∷ []) e f
    → Adds (row_line k w) a f
unfolding row_text
row_is k w y g {a} {b} {c} {d} {e} {f} u z n l p v z' =
    let l' : Adds (32 ∷ letter_of y.kind ∷ []) b c = subst (λ (m : ℕ). Adds (32 ∷ m ∷ []) b c) z l in
    subst (λ (m : Row). Adds (row_text k m) a f) u (then_adds (then_adds (then_adds (then_adds n l') p) v) z')
