-- The fields of a line, read one by one, and their numbers.
use Prim.Native.Nat.{ℕ, zero, suc, ◌+◌, ◌-◌, ◌≤◌, ◌<◌}
use native.Mathlib.Omega.{arith}
use native.Mathlib.Numerals.{add-one}
use mathlib.Core.Path.{◌≡◌, refl, sym, ap, ◌∙◌}
use mathlib.Core.Logic.{◌≢◌}
use mathlib.Core.Bool.{Bool, true, false}
use mathlib.Core.List.{List, [], ◌∷◌, append-nil}
use lib.Dec.{eqb, ltb}
use lib.ListN.{length, get_or, take, drop, set, length-set, length-drop, drop_of_length-le}
use lib.Seq.{sets, length-sets, sets-eq, drop-cons, drop-drop}
use borrow.Author.Tests.{eq-eqb, ne_eqb, eqb-true, ltb-true, le-ltb, lt-ltb}
use Rattle.words.specs.Choice.{pick}
use Rattle.words.proofs.Laws.Choice.{left, right}
use Rattle.fields.specs.Fields.{before, place_of, none, number_in, longer, fields_of, numbers_in, each_number, all_numbers}
use Rattle.fields.proofs.FieldLaws.{place_from, number_rest}

-- A line with a space, and one without.
first_field : (l : List ℕ) → before 32 l < length l → fields_of l ≡ take (before 32 l) l ∷ fields_of (drop (before 32 l + 1) l)
unfolding before fields_of longer
first_field [] h = absurd (omega arith)
first_field (b ∷ l) h = go (eqb b 32) h (λ i. first_field l i)
  where
    go : (t : Bool) → pick t 0 (before 32 l + 1) < length (b ∷ l)
        → (before 32 l < length l → fields_of l ≡ take (before 32 l) l ∷ fields_of (drop (before 32 l + 1) l))
        → pick t ([] ∷ fields_of l) (longer b (fields_of l)) ≡ take (pick t 0 (before 32 l + 1)) (b ∷ l) ∷ fields_of (drop (pick t 0 (before 32 l + 1) + 1) (b ∷ l))
    go true i f = refl
    go false i f = rw (f (omega arith), add-one (before 32 l + 1), add-one (before 32 l))

only_field : (l : List ℕ) → length l ≤ before 32 l → fields_of l ≡ l ∷ []
unfolding before fields_of longer
only_field [] h = refl
only_field (b ∷ l) h = go (eqb b 32) h (λ i. only_field l i)
  where
    go : (t : Bool) → length (b ∷ l) ≤ pick t 0 (before 32 l + 1) → (length l ≤ before 32 l → fields_of l ≡ l ∷ []) → pick t ([] ∷ fields_of l) (longer b (fields_of l)) ≡ (b ∷ l) ∷ []
    go true i f = absurd (omega arith)
    go false i f = rw (f (omega arith))

-- The numbers from place p on, where e is the place of the next space, or the end.
module _ (line : List ℕ) (p e : ℕ) (at : e ≡ place_of 32 line p) where
  numbers_next : e < length line → numbers_in (drop p line) ≡ number_in (take (e - p) (drop p line)) ∷ numbers_in (drop (e + 1) line)
  unfolding numbers_in place_of
  numbers_next h =
      let d = drop p line in
      let n : before 32 d ≡ e - p = omega arith in
      let m : p + (before 32 d + 1) ≡ e + 1 = omega arith in
      rw (first_field d (omega (arith, length-drop p line)), drop-drop (before 32 d + 1) p line, m, n)

  numbers_last : length line ≤ e → numbers_in (drop p line) ≡ number_in (drop p line) ∷ []
  unfolding numbers_in place_of
  numbers_last h = rw (only_field (drop p line) (omega (arith, length-drop p line)))

-- What is left of a line from place p on, with k of its numbers put: o were the places for them, and w are they now.
module _ (line o : List ℕ) where
  pub record Left (w : List ℕ) (p k e : ℕ) : Type 0 where
    -- the place of the next space, or the end
    pub end_is : e ≡ place_of 32 line p
    pub few : k ≤ p
    pub inside : p ≤ length line
    pub same_places : length w ≡ length o
    pub numbers_are : sets w k (numbers_in (drop p line)) ≡ sets o 0 (numbers_in line)
    pub count_is : k + length (numbers_in (drop p line)) ≡ length (numbers_in line)

  pub left_all : (e : ℕ) → e ≡ place_of 32 line 0 → Left o 0 0 e
  left_all e at = record { end_is = at; few = omega arith; inside = omega arith; same_places = refl; numbers_are = refl; count_is = omega arith }

  module _ {w : List ℕ} {p k e : ℕ} (x : ℕ) (w' : List ℕ) (l : Left w p k e) (put : w' ≡ set w k x) where
    pub left_same : length w' ≡ length o
    left_same = ap length put ∙ length-set w k x ∙ l.same_places

    pub left_next : (e' : ℕ) → e < length line → x ≡ number_in (take (e - p) (drop p line)) → e' ≡ place_of 32 line (e + 1)
        → Left w' (e + 1) (k + 1) e'
    left_next e' h v at =
        let n : numbers_in (drop p line) ≡ x ∷ numbers_in (drop (e + 1) line) = rw v (numbers_next line p e l.end_is h) in
        record {
          end_is = at;
          few = omega (arith, l.few, l.end_is, place_from 32 line p);
          inside = omega arith;
          same_places = left_same;
          numbers_are =
              rw (put, add-one k) (sym (ap (λ (ns : List ℕ). sets w k ns) n) ∙ l.numbers_are);
          count_is = omega (arith, l.count_is, ap length n);
        }

    pub left_last : length line ≤ e → x ≡ number_in (take (length line - p) (drop p line))
        → (k + 1 ≡ length (numbers_in line)) × (w' ≡ sets o 0 (numbers_in line))
    left_last h v =
        let n : numbers_in (drop p line) ≡ x ∷ [] = rw (v ∙ number_rest p line) (numbers_last line p e l.end_is h) in
        (omega (arith, l.count_is, ap length n), put ∙ sym (ap (λ (ns : List ℕ). sets w k ns) n) ∙ l.numbers_are)

-- Numbers, one by one.
module _ (ns : List ℕ) (i : ℕ) where
  pub each_next : i < length ns → get_or ns i 0 < none → each_number (drop i ns) ≡ each_number (drop (i + 1) ns)
  unfolding each_number
  each_next h l = rw (add-one i, drop-cons ns i 0 h, lt-ltb (get_or ns i 0) none l)

  pub each_not : i < length ns → none ≤ get_or ns i 0 → each_number (drop i ns) ≡ false
  unfolding each_number
  each_not h l = rw (drop-cons ns i 0 h, le-ltb (get_or ns i 0) none l)

  pub each_end : length ns ≤ i → each_number (drop i ns) ≡ true
  unfolding each_number
  each_end h = rw (drop_of_length-le ns h)

each_lower : (ns : List ℕ) (i : ℕ) → each_number ns ≡ true → i < length ns → get_or ns i 0 < none
unfolding each_number
each_lower [] i e h = absurd (omega arith)
each_lower (x ∷ ns) zero e h = ltb-true x none (left (ltb x none) (each_number ns) e)
each_lower (x ∷ ns) (suc i) e h = each_lower ns i (right (ltb x none) (each_number ns) e) (omega arith)

-- As many numbers as places.
put_all : (l ns : List ℕ) → length ns ≡ length l → sets l 0 ns ≡ ns
put_all l ns e = sets-eq ns l 0 (omega arith) ∙ rw (drop_of_length-le l {i = 0 + length ns} (omega arith)) (append-nil ns)

-- r + 1 numbers, put into places: whether there are as many, and each is a number.
module _ (l ns x : List ℕ) (r : ℕ) (count : r + 1 ≡ length ns) (at : x ≡ sets l 0 ns) where
  same_places : length x ≡ length l
  same_places = ap length at ∙ length-sets l 0 ns

  pub other_count : length x ≢ r + 1 → false ≡ all_numbers (length l) ns
  unfolding all_numbers
  other_count n = rw (ne_eqb (length ns) (length l) (λ e. n (omega (arith, same_places))))

  pub same_count : length x ≡ r + 1 → each_number x ≡ all_numbers (length l) ns
  unfolding all_numbers
  same_count e =
      let z : length ns ≡ length l = omega (arith, same_places) in
      rw (eq-eqb (length ns) (length l) z) (ap each_number (at ∙ put_all l ns z))

-- k fields that are numbers, and the k places that they were put into.
module _ (k : ℕ) (ns : List ℕ) (good : all_numbers k ns ≡ true) where
  pub good_count : length ns ≡ k
  unfolding all_numbers
  good_count = eqb-true (length ns) k (left (eqb (length ns) k) (each_number ns) good)

  pub good_number : (i : ℕ) → i < k → get_or ns i 0 < none
  unfolding all_numbers
  good_number i h = each_lower ns i (right (eqb (length ns) k) (each_number ns) good) (omega (arith, good_count))

  pub good_places : (l x : List ℕ) → length l ≡ k → x ≡ sets l 0 ns → (x ≡ ns) × ((i : ℕ) → i < k → get_or x i 0 < none)
  good_places l x e at =
      let z : x ≡ ns = at ∙ put_all l ns (good_count ∙ sym e) in
      (z, λ i h. rw z (good_number i h))

-- numbers for as many places as there are are numbers for k of them
pub array_good : {k : ℕ} (l ns : List ℕ) → length l ≡ k → all_numbers (length l) ns ≡ true → all_numbers k ns ≡ true
array_good l ns len e = rw len at e
