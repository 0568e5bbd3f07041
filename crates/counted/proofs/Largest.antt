-- The cell that a read takes: the largest stamp, the writer's if equal, else the lowest reader's.
use Prim.Native.Nat.{ℕ, zero, suc, ◌+◌, ◌≤◌, ◌<◌, max}
use mathlib.Core.Path.{◌≡◌, refl, sym, ap, ◌∙◌}
use mathlib.Core.Logic.{◌≢◌}
use mathlib.Core.List.{List, [], ◌∷◌, ◌++◌}
use native.Mathlib.Omega.{arith}
use native.Mathlib.Decide.{dec_lt}
use lib.ListN.{length, get_or-append}
use lib.Seq.{get_or_at}
use lib.Dec.{eqb, ltb}
use borrow.Author.Tests.{ne_eqb, eq-eqb}
use Rattle.words.specs.Choice.{pick}
use Rattle.words.proofs.Laws.Choice.{eq_ind, lt_ind, pick_yes, pick_no}
use Rattle.counted.specs.declared.Cell.{Cell}
use Rattle.counted.specs.Reference.{void, nth, at_writer, top_of, first_with, result_of}

-- Cells in a list that grows at its end.
pub nth_old : (cells : List Cell) (x : Cell) (k : ℕ) → k < length cells → nth (cells ++ (x ∷ [])) k ≡ nth cells k
nth_old cells x k h = get_or-append cells (x ∷ []) void k h

pub nth_new : (cells : List Cell) (x : Cell) (k : ℕ) → length cells ≡ k → nth (cells ++ (x ∷ [])) k ≡ x
nth_new cells x k e = get_or_at cells x [] void k e

-- The largest stamp is one of the cells', and none is larger.
pub top_most : (cells : List Cell) (k : ℕ) → (nth cells k).stamp ≤ top_of cells
unfolding top_of
top_most [] k = omega arith
top_most (c ∷ cs) zero = omega arith
top_most (c ∷ cs) (suc k) = omega (arith, top_most cs k)

pub top_low : (cells : List Cell) (b : ℕ) → ((k : ℕ) → k < length cells → (nth cells k).stamp ≤ b) → top_of cells ≤ b
unfolding top_of
top_low [] b h = omega arith
top_low (c ∷ cs) b h = omega (arith, h 0 (omega arith), top_low cs b (λ k l. h (suc k) (omega arith)))

top_some : (c : Cell) (cs : List Cell) → (k : ℕ) × (k < suc (length cs)) × ((nth (c ∷ cs) k).stamp ≡ top_of (c ∷ cs))
unfolding top_of
top_some c [] = (0, omega arith, omega arith)
top_some c (d ∷ ds) = at (top_some d ds) (dec_lt c.stamp (top_of (d ∷ ds)))
  where
    at : (k : ℕ) × (k < suc (length ds)) × ((nth (d ∷ ds) k).stamp ≡ top_of (d ∷ ds)) → Dec (c.stamp < top_of (d ∷ ds))
        → (k : ℕ) × (k < suc (length (d ∷ ds))) × ((nth (c ∷ d ∷ ds) k).stamp ≡ top_of (c ∷ d ∷ ds))
    at (k, h, e) (yes l) = (suc k, omega arith, e ∙ omega arith)
    at (k, h, e) (no l) = (0, omega arith, omega arith)

top_append : (cells : List Cell) (x : Cell) → top_of (cells ++ (x ∷ [])) ≡ max (top_of cells) x.stamp
unfolding top_of
top_append [] x = omega arith
top_append (c ∷ cs) x = omega (arith, top_append cs x)

-- The first cell with a stamp.
first_ind : (Q : Cell → Type 0) (s : ℕ) (d : Cell) (cells : List Cell)
    → ((k : ℕ) → k < length cells → (nth cells k).stamp ≡ s → Q (nth cells k))
    → (((k : ℕ) → k < length cells → (nth cells k).stamp ≢ s) → Q d) → Q (first_with s d cells)
unfolding first_with
first_ind Q s d [] f g = g (λ k h. absurd (omega arith))
first_ind Q s d (c ∷ cs) f g =
    eq_ind Q c.stamp s _ _ (λ e. f 0 (omega arith) e)
    (λ ne. first_ind Q s d cs (λ k h e. f (suc k) (omega arith) e) (λ h. g (λ k. step ne h k)))
  where
    step : c.stamp ≢ s → ((k : ℕ) → k < length cs → (nth cs k).stamp ≢ s) → (k : ℕ) → k < length (c ∷ cs) → (nth (c ∷ cs) k).stamp ≢ s
    step ne h zero l = ne
    step ne h (suc k) l = h k (omega arith)

first_append : (s : ℕ) (d : Cell) (xs ys : List Cell) → first_with s d (xs ++ ys) ≡ first_with s (first_with s d ys) xs
unfolding first_with
first_append s d [] ys = refl
first_append s d (x ∷ xs) ys = ap (λ (c : Cell). pick (eqb x.stamp s) x c) (first_append s d xs ys)

first_above : (s : ℕ) (d : Cell) (cells : List Cell) → top_of cells < s → first_with s d cells ≡ d
unfolding first_with top_of
first_above s d [] h = refl
first_above s d (c ∷ cs) h = rw (ne_eqb c.stamp s (omega arith)) (first_above s d cs (omega arith))

first_at : (s : ℕ) (d : Cell) (cells : List Cell) (k : ℕ) → k < length cells → (nth cells k).stamp ≡ s → ((j : ℕ) → j < k → (nth cells j).stamp < s)
    → first_with s d cells ≡ nth cells k
unfolding first_with
first_at s d [] k h e f = absurd (omega arith)
first_at s d (c ∷ cs) zero h e f = rw (eq-eqb c.stamp s e)
first_at s d (c ∷ cs) (suc k) h e f =
    rw (ne_eqb c.stamp s (omega (arith, f 0 (omega arith)))) (first_at s d cs k (omega arith) e (λ j l. f (suc j) (omega arith)))

-- What a read takes of n cells, the writer's last.
module _ (n : ℕ) (cells : List Cell) (len : length cells ≡ n) (pos : 1 ≤ n) where
  abbrev w : Cell
  w = nth cells (at_writer n)

  some : (cells : List Cell) → 1 ≤ length cells → (k : ℕ) × (k < length cells) × ((nth cells k).stamp ≡ top_of cells)
  some [] h = absurd (omega arith)
  some (c ∷ cs) h = top_some c cs

  pub result_ind : (Q : Cell → Type 0) → (((k : ℕ) → k < n → (nth cells k).stamp ≤ w.stamp) → Q w)
      → ((k : ℕ) → k < n → w.stamp < (nth cells k).stamp → Q (nth cells k)) → Q (result_of n cells)
  unfolding result_of
  result_ind Q f g =
      eq_ind Q w.stamp (top_of cells) _ _ (λ e. f (λ k h. omega (arith, top_most cells k)))
      (λ ne. first_ind Q (top_of cells) w cells (λ k h e. g k (omega arith) (omega (arith, top_most cells (at_writer n))))
      (λ none. let z = some cells (omega arith) in absurd (none z.0 z.1 z.2)))

  -- "takes the largest stamp (the writer's if equal, ..)"
  pub writer_taken : ((j : ℕ) → j < n → (nth cells j).stamp ≤ w.stamp) → result_of n cells ≡ w
  unfolding result_of
  writer_taken h =
      let e : w.stamp ≡ top_of cells = omega (arith, top_most cells (at_writer n), top_low cells w.stamp (λ j l. h j (omega arith))) in
      pick_yes (eqb w.stamp (top_of cells)) w _ (eq-eqb w.stamp (top_of cells) e)

  -- "else the lowest reader": of the readers with the largest stamp the first, if the writer's stamp is smaller
  pub lowest_taken : (k : ℕ) → k < n → ((j : ℕ) → j < n → (nth cells j).stamp ≤ (nth cells k).stamp)
      → ((j : ℕ) → j < k → (nth cells j).stamp < (nth cells k).stamp) → w.stamp < (nth cells k).stamp → result_of n cells ≡ nth cells k
  unfolding result_of
  lowest_taken k h most below less =
      let e : top_of cells ≡ (nth cells k).stamp = omega (arith, top_most cells k, top_low cells (nth cells k).stamp (λ j l. most j (omega arith))) in
      pick_no (eqb w.stamp (top_of cells)) w _ (ne_eqb w.stamp (top_of cells) (omega arith))
      ∙ first_at (top_of cells) w cells k (omega arith) (sym e) (λ j l. omega (arith, below j l))

-- b stands for the cells looked at so far: it has their largest stamp and, if that is not 0, is the first of them that has it.
pub record Leads (b : Cell) (cells : List Cell) : Type 0 where
  pub top_is : top_of cells ≡ b.stamp
  pub first_is : 1 ≤ b.stamp → (d : Cell) → first_with b.stamp d cells ≡ b

pub leads_none : (b : Cell) → b.stamp ≡ 0 → Leads b []
unfolding top_of
leads_none b e = record { top_is = sym e; first_is = λ h. absurd (omega arith) }

-- one cell more: it leads if its stamp is larger
pub leads_more : (b x : Cell) (cells : List Cell) → Leads b cells → Leads (pick (ltb b.stamp x.stamp) x b) (cells ++ (x ∷ []))
unfolding first_with
leads_more b x cells l =
    lt_ind (λ (y : Cell). Leads y (cells ++ (x ∷ []))) b.stamp x.stamp _ _
    (λ h. record {
      top_is = top_append cells x ∙ omega (arith, l.top_is);
      first_is = λ _ d. first_append x.stamp d cells (x ∷ []) ∙ first_above x.stamp _ cells (omega (arith, l.top_is)) ∙ rw (eq-eqb x.stamp x.stamp refl);
    })
    (λ h. record {
      top_is = top_append cells x ∙ omega (arith, l.top_is);
      first_is = λ g d. first_append b.stamp d cells (x ∷ []) ∙ l.first_is g _;
    })

-- and the writer's, the last: it is taken unless a reader's stamp is larger
pub leads_last : (n : ℕ) (b x : Cell) (cells : List Cell) → length cells + 1 ≡ n → Leads b cells
    → result_of n (cells ++ (x ∷ [])) ≡ pick (ltb x.stamp b.stamp) b x
unfolding result_of
leads_last n b x cells len l =
    lt_ind (λ (y : Cell). result_of n (cells ++ (x ∷ [])) ≡ y) x.stamp b.stamp _ _
    (λ h. rw (last, top, pick_no (eqb x.stamp (max b.stamp x.stamp)) x (first_with (max b.stamp x.stamp) x (cells ++ (x ∷ []))) (ne_eqb x.stamp _ (omega arith))) (found h))
    (λ h. rw (last, top, pick_yes (eqb x.stamp (max b.stamp x.stamp)) x (first_with (max b.stamp x.stamp) x (cells ++ (x ∷ []))) (eq-eqb x.stamp _ (omega arith))))
  where
    last : nth (cells ++ (x ∷ [])) (at_writer n) ≡ x
    last = nth_new cells x (at_writer n) (omega arith)

    top : top_of (cells ++ (x ∷ [])) ≡ max b.stamp x.stamp
    top = top_append cells x ∙ omega (arith, l.top_is)

    found : x.stamp < b.stamp → first_with (max b.stamp x.stamp) x (cells ++ (x ∷ [])) ≡ b
    found h =
        let e : max b.stamp x.stamp ≡ b.stamp = omega arith in
        rw e (first_append b.stamp x cells (x ∷ []) ∙ l.first_is (omega arith) _)
