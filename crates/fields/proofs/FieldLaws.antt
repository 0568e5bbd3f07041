-- Fields, read place by place.
use Prim.Native.Nat.{ℕ, ◌+◌, ◌-◌, ◌*◌, ◌≤◌, ◌<◌, max}
use native.Mathlib.Omega.{arith}
use native.Mathlib.Numerals.{add-one}
use mathlib.Core.Path.{◌≡◌, refl, sym, ap, ◌∙◌}
use mathlib.Core.Logic.{◌≢◌, inl, inr}
use mathlib.Core.Bool.{Bool, true, false, ◌&&◌}
use mathlib.Core.List.{List, [], ◌∷◌}
use lib.Dec.{ltb}
use Rattle.std.proofs.lemmas.Bool.{cases_lt}
use lib.ListN.{length, get_or, take, drop, length-drop, drop_of_length-le}
use lib.Seq.{drop-cons, take_all}
use borrow.Author.Tests.{eq-eqb, ne_eqb, le-ltb, lt-ltb}
use Rattle.words.specs.Choice.{pick}
use Rattle.words.proofs.Laws.Choice.{lt_ind}
use Rattle.fields.specs.Fields.{before, place_of, is_digit, all_digits, value_from, none, number_in}
use Rattle.fields.specs.Digits.{digit_after, digits_after}

-- A search from a place on.
module _ (x : ℕ) (b : List ℕ) (i : ℕ) where
  pub place_end : length b ≤ i → place_of x b i ≡ i
  unfolding place_of before
  place_end h = rw (drop_of_length-le b h) (omega arith)

  pub place_from : i ≤ place_of x b i
  unfolding place_of
  place_from = omega arith

  pub place_here : i < length b → get_or b i 0 ≡ x → place_of x b i ≡ i
  unfolding place_of before
  place_here h e = rw (drop-cons b i 0 h, eq-eqb (get_or b i 0) x e) (omega arith)

  pub place_next : i < length b → get_or b i 0 ≢ x → place_of x b i ≡ place_of x b (i + 1)
  unfolding place_of before
  place_next h n = rw (add-one, drop-cons b i 0 h, ne_eqb (get_or b i 0) x n) (omega arith)

-- A search that ends behind the last byte, from a place that may be behind it.
pub place_past : (x : ℕ) (b : List ℕ) (from i : ℕ) → from ≤ i → length b ≤ i → (from ≤ length b → i ≤ length b)
    → place_of x b i ≡ place_of x b from → max from (length b) ≡ place_of x b from
place_past x b from i h e f at =
    elim (cases_lt (length b) from) [
      | inl g ↦ omega (arith, place_end x b from (omega arith))
      | inr l ↦ omega (arith, place_end x b i e, f l)
    ]

-- Once none, always none.
same : {A : Type 0} (t : Bool) (a : A) → pick t a a ≡ a
same true a = refl
same false a = refl

stays : (bs : List ℕ) → digits_after none bs ≡ none
unfolding digits_after digit_after
stays [] = refl
stays (b ∷ bs) = rw (le-ltb (none * 10 + (b - 48)) none (omega arith), same (is_digit b) none) (stays bs)

grows : (v : ℕ) (bs : List ℕ) → v ≤ value_from v bs
unfolding value_from
grows v [] = omega arith
grows v (b ∷ bs) = omega (arith, grows (v * 10 + (b - 48)) bs)

-- what a field gives, behind digits that gave v
abbrev given : ℕ → List ℕ → ℕ
given v bs = pick (all_digits bs && ltb (value_from v bs) none) (value_from v bs) none

no_more : (t : Bool) (v : ℕ) → pick (t && false) v none ≡ none
no_more true v = refl
no_more false v = refl

too_large : (v : ℕ) (bs : List ℕ) → none ≤ v → given v bs ≡ none
too_large v bs h = rw (le-ltb (value_from v bs) none (omega (arith, grows v bs))) (no_more (all_digits bs) (value_from v bs))

by_digit : (t : Bool) (w : ℕ) (bs : List ℕ) → (w < none → digits_after w bs ≡ given w bs)
    → digits_after (pick t (pick (ltb w none) w none) none) bs
    ≡ pick ((t && all_digits bs) && ltb (value_from w bs) none) (value_from w bs) none
by_digit false w bs f = stays bs
by_digit true w bs f =
    lt_ind (λ y. digits_after y bs ≡ given w bs) w none w none f (λ g. stays bs ∙ sym (too_large w bs g))

read_all : (v : ℕ) (bs : List ℕ) → v < none → digits_after v bs ≡ given v bs
unfolding digits_after digit_after all_digits value_from
read_all v [] h = rw (lt-ltb v none h)
read_all v (b ∷ bs) h = by_digit (is_digit b) (v * 10 + (b - 48)) bs (λ l. read_all (v * 10 + (b - 48)) bs l)

pub number_none : (b : List ℕ) → length b ≡ 0 → none ≡ number_in b
unfolding number_in
number_none [] h = refl
number_none (x ∷ b) h = absurd (omega arith)

pub number_is : (b : List ℕ) → length b ≢ 0 → digits_after 0 b ≡ number_in b
unfolding number_in
number_is [] h = absurd (h refl)
number_is (x ∷ b) h = read_all 0 (x ∷ b) (omega arith)

-- a field from place p on, as a part of the line
pub number_rest : (p : ℕ) (l : List ℕ) → number_in (take (length l - p) (drop p l)) ≡ number_in (drop p l)
number_rest p l = ap number_in (take_all (length l - p) (drop p l) (omega (arith, length-drop p l)))

-- One digit more.
pub digits_next : (v : ℕ) (b : List ℕ) (i : ℕ) → i < length b
    → digits_after v (drop i b) ≡ digits_after (digit_after v (get_or b i 0)) (drop (i + 1) b)
unfolding digits_after
digits_next v b i h = rw (add-one, drop-cons b i 0 h)

pub digits_end : (v : ℕ) (b : List ℕ) (i : ℕ) → length b ≤ i → digits_after v (drop i b) ≡ v
unfolding digits_after
digits_end v b i h = rw (drop_of_length-le b h)

-- The digits read so far gave v, and the next one none, or the number w.
module _ (v : ℕ) (b : List ℕ) (i : ℕ) (h : i < length b) (so_far : digits_after v (drop i b) ≡ digits_after 0 b) where
  pub digits_go : (w : ℕ) → w ≡ digit_after v (get_or b i 0) → digits_after w (drop (i + 1) b) ≡ digits_after 0 b
  digits_go w e = rw e (sym (digits_next v b i h) ∙ so_far)

  pub digits_stop : digit_after v (get_or b i 0) ≡ none → number_in b ≡ none
  digits_stop e =
      sym (number_is b (λ z. omega arith)) ∙ sym so_far ∙ digits_next v b i h ∙ ap (λ (y : ℕ). digits_after y (drop (i + 1) b)) e ∙ stays (drop (i + 1) b)
