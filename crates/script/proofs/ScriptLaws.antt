-- The calls of an input, line by line.
use Prim.Native.Nat.{ℕ, zero, suc, ◌+◌, ◌-◌, ◌≤◌, ◌<◌}
use native.Mathlib.Omega.{arith}
use native.Mathlib.Numerals.{add-one}
use mathlib.Core.Path.{◌≡◌, refl, sym, ap, subst, ◌∙◌}
use mathlib.Core.Logic.{◌≢◌}
use mathlib.Core.Bool.{Bool, true, false, ◌&&◌}
use mathlib.Core.List.{List, [], ◌∷◌}
use lib.ListN.{length, get_or, drop, set, length-set}
use lib.Dec.{eqb, ltb}
use lib.Seq.{sets}
use borrow.Author.Tests.{eq-eqb, ne_eqb, le-ltb}
use Rattle.words.specs.Choice.{pick}
use Rattle.words.proofs.Laws.Choice.{pick_ind}
use Rattle.fields.specs.Fields.{place_of, none, number_in}
use Rattle.script.specs.Script.{kind_in, call_in, call_from, calls_from, end_from, Reads}

-- A call's line without a number.
second_no : (a b : Bool) (w : ℕ) → 0 ≡ pick (a && (b && false)) w 0
second_no true true w = refl
second_no true false w = refl
second_no false b w = refl

module _ (line : List ℕ) (k m : ℕ) where
  pub call_large : m ≡ number_in (drop 2 line) → none ≤ m → 0 ≡ call_in line
  unfolding call_in
  call_large e h = rw (le-ltb (number_in (drop 2 line)) none (omega arith)) (second_no (ltb 0 (kind_in (get_or line 0 0))) (eqb (get_or line 1 0) 32) _)

module _ (b : List ℕ) (p : ℕ) where
  pub stop_calls : (k : ℕ) → call_from b p ≡ 0 → calls_from k b p ≡ []
  unfolding calls_from
  stop_calls zero z = refl
  stop_calls (suc k) z = rw (eq-eqb (call_from b p) 0 z)

  pub stop_end : (k : ℕ) → call_from b p ≡ 0 → end_from k b p ≡ p
  unfolding end_from
  stop_end zero z = refl
  stop_end (suc k) z = rw (eq-eqb (call_from b p) 0 z)

  pub next_calls : (k : ℕ) → call_from b p ≢ 0 → calls_from (suc k) b p ≡ call_from b p ∷ calls_from k b (place_of 10 b p + 1)
  unfolding calls_from
  next_calls k n = rw (ne_eqb (call_from b p) 0 n)

  pub next_end : (k : ℕ) → call_from b p ≢ 0 → end_from (suc k) b p ≡ end_from k b (place_of 10 b p + 1)
  unfolding end_from
  next_end k n = rw (ne_eqb (call_from b p) 0 n)

-- What is left to be read, with j words free, from the words w, the place k among them and the place p on.
module _ (b : List ℕ) (f : ℕ) (o : List ℕ) where
  pub record Rest (w : List ℕ) (k p j : ℕ) : Type 0 where
    pub room : k + j ≡ length o
    pub same : length w ≡ length o
    pub words_are : sets w k (calls_from j b p) ≡ sets o 0 (calls_from (length o) b f)
    pub count_is : k + length (calls_from j b p) ≡ length (calls_from (length o) b f)
    pub end_is : end_from j b p ≡ end_from (length o) b f

  pub rest_all : Rest o 0 f (length o)
  rest_all = record { room = omega arith; same = refl; words_are = refl; count_is = omega arith; end_is = refl }

  pub rest_none : {w : List ℕ} {k p j : ℕ} → Rest w k p j → 0 ≡ call_from b p → Reads b f o w k p
  rest_none {w} {k} {p} {j} r z =
      record {
        words_are = sym (ap (λ (l : List ℕ). sets w k l) (stop_calls b p j (sym z))) ∙ r.words_are;
        count_is = omega (arith, r.count_is, ap length (stop_calls b p j (sym z)));
        end_is = sym (stop_end b p j (sym z)) ∙ r.end_is;
      }

  pub rest_full : {w : List ℕ} {k p : ℕ} → Rest w k p 0 → Reads b f o w k p
  unfolding calls_from end_from
  rest_full {w} {k} {p} r =
      record { words_are = r.words_are; count_is = omega (arith, r.count_is); end_is = r.end_is }

  pub rest_next : {w : List ℕ} {k p : ℕ} (j m e : ℕ) → Rest w k p (suc j) → m ≡ call_from b p → m ≢ 0 → e ≡ place_of 10 b p + 1
      → Rest (set w k m) (k + 1) e j
  rest_next {w} {k} {p} j m e r c n a =
      let n' : call_from b p ≢ 0 = λ z. n (c ∙ z) in
      let q : calls_from (suc j) b p ≡ m ∷ calls_from j b e = rw (c, a) (next_calls b p j n') in
      record {
        room = omega (arith, r.room);
        same = length-set w k m ∙ r.same;
        words_are =
            ap (λ (i : ℕ). sets (set w k m) i (calls_from j b e)) (add-one k)
            ∙ sym (ap (λ (l : List ℕ). sets w k l) q)
            ∙ r.words_are;
        count_is = omega (arith, r.count_is, ap length q);
        end_is = ap (end_from j b) a ∙ sym (next_end b p j n') ∙ r.end_is;
      }

  -- The same by the words' length, as a loop has it.
  abbrev pub Left : List ℕ → ℕ → ℕ → Type 0
  Left w k p = Rest w k p (length o - k)

  pub left_all : Left o 0 f
  left_all =
      let e : length o ≡ length o - 0 = omega arith in
      subst (λ (j : ℕ). Rest o 0 f j) e rest_all

  pub left_full : {w : List ℕ} {k p : ℕ} → Left w k p → k ≡ length w → Reads b f o w (length w) p
  left_full {w} {k} {p} r h =
      let e : length o - k ≡ 0 = omega (arith, r.same) in
      rw (← h) (rest_full (subst (λ (j : ℕ). Rest w k p j) e r))

  pub left_next : {w : List ℕ} {k p : ℕ} (m e : ℕ) → Left w k p → k < length w → m ≡ call_from b p → m ≢ 0 → e ≡ place_of 10 b p + 1
      → Left (set w k m) (k + 1) e
  left_next {w} {k} {p} m e r h c n a =
      let q : length o - k ≡ suc (length o - (k + 1)) = omega (arith, r.same) in
      rest_next (length o - (k + 1)) m e (subst (λ (j : ℕ). Rest w k p j) q r) c n a

-- No more calls than words.
pub calls_fit : (k : ℕ) (b : List ℕ) (p : ℕ) → length (calls_from k b p) ≤ k
unfolding calls_from
calls_fit zero b p = omega arith
calls_fit (suc k) b p =
    pick_ind (λ l. length l ≤ suc k) (eqb (call_from b p) 0) [] _ (λ t. omega arith)
    (λ t. omega (arith, calls_fit k b (place_of 10 b p + 1)))
