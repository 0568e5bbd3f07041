-- An input of one line.
use Prim.Native.Nat.{ℕ, suc, ◌+◌, ◌-◌, ◌≤◌, ◌<◌}
use native.Mathlib.Omega.{arith}
use native.Mathlib.Decide.{ℕ_discrete}
use mathlib.Core.Path.{◌≡◌, sym, ap, ◌∙◌}
use mathlib.Core.Bool.{Bool, true, false, ◌&&◌}
use mathlib.Core.List.{List, [], ◌∷◌}
use lib.Dec.{eqb, leb}
use lib.ListN.{length, get_or, take, length-take}
use lib.Seq.{sets}
use borrow.Author.Tests.{eq-eqb, ne_eqb, lt-leb, le-leb}
use Rattle.words.proofs.Laws.Choice.{pick_ind, right}
use Rattle.fields.specs.Fields.{before, place_of, none, numbers_in, all_numbers, first_numbers, one_line, one_line_of}
use Rattle.fields.proofs.NumberLaws.{good_places}

-- no byte is found beyond the end
before_inside : (x : ℕ) (b : List ℕ) → before x b ≤ length b
unfolding before
before_inside x [] = omega arith
before_inside x (c ∷ b) = pick_ind (λ (k : ℕ). k ≤ suc (length b)) (eqb c x) _ _ (λ _. omega arith) (λ _. omega (arith, before_inside x b))

pub place_inside : (x : ℕ) (b : List ℕ) → place_of x b 0 ≤ length b
unfolding place_of
place_inside x b = omega (arith, before_inside x b)

module _ (b : List ℕ) (e : ℕ) (at : e ≡ place_of 10 b 0) where
  pub line_within : e ≡ length (take e b)
  line_within = omega (arith, length-take e b, place_inside 10 b)

  ends : eqb (length b - e) 1 ≡ one_line b
  ends =
      elim (ℕ_discrete (length b - e) 1) [
        | yes h ↦ eq-eqb (length b - e) 1 h ∙ sym (eq-eqb (place_of 10 b 0 + 1) (length b) (omega arith))
        | no h ↦ ne_eqb (length b - e) 1 h ∙ sym (ne_eqb (place_of 10 b 0 + 1) (length b) (λ z. h (omega arith)))
      ]

  -- the numbers of that line, read into places
  module _ (most : ℕ) (good : Bool) (o x : List ℕ) (g : good ≡ all_numbers (length o) (numbers_in (take e b))) (put : x ≡ sets o 0 (numbers_in (take e b))) where
    numbers_are : numbers_in (take e b) ≡ first_numbers b
    numbers_are = ap (λ (k : ℕ). numbers_in (take k b)) at

    pub line_read : ((leb (length b) most && (eqb (length b - e) 1 && good)) ≡ one_line_of most (length o) b) × (x ≡ sets o 0 (first_numbers b))
    unfolding one_line_of
    line_read = (rw (ends, g ∙ ap (all_numbers (length o)) numbers_are), put ∙ ap (sets o 0) numbers_are)

-- What is longer is none; a line of k numbers is one; and its numbers, put into k places.
module _ (most k : ℕ) (b : List ℕ) where
  pub long_line : most < length b → one_line_of most k b ≡ false
  unfolding one_line_of
  long_line h = rw (lt-leb (length b) most h)

  pub good_line : length b ≤ most → one_line b ≡ true → all_numbers k (first_numbers b) ≡ true → one_line_of most k b ≡ true
  unfolding one_line_of
  good_line h o n = rw (le-leb (length b) most h, o, n)

  module _ (good : one_line_of most k b ≡ true) where
    pub line_numbers : all_numbers k (first_numbers b) ≡ true
    unfolding one_line_of
    line_numbers = right (one_line b) _ (right (leb (length b) most) _ good)

    pub line_places : (l ns : List ℕ) → length l ≡ k → ns ≡ sets l 0 (first_numbers b) → (ns ≡ first_numbers b) × ((i : ℕ) → i < k → get_or ns i 0 < none)
    line_places l ns len at = good_places k (first_numbers b) line_numbers l ns len at

-- a line for as many places as there are is a line for k of them
pub line_good : {k : ℕ} (most : ℕ) (l b : List ℕ) → length l ≡ k → one_line_of most (length l) b ≡ true → one_line_of most k b ≡ true
line_good most l b len e = rw len at e
