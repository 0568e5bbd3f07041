-- An array of a function's values.
use Prim.Native.Nat.{ℕ, suc, zero, ◌<◌}
use native.Mathlib.Omega.{arith}
use native.Mathlib.Decide.{ℕ_discrete, dec_lt}
use mathlib.Core.Path.{◌≡◌, refl, sym, ap, ◌∙◌}
use mathlib.Core.Logic.{◌≢◌}
use mathlib.Core.List.{List, [], ◌∷◌, ◌++◌, map}
use lib.ListN.{length, get_or, set, drop, replicate, length-append, length-set, length-replicate, get_or-replicate, get_or-append, get_or-eq_default}
use lib.Seq.{get_or_at, get_or-set_same, get_or-set_other, ext_get_or}
use Rattle.std.proofs.lemmas.List.{map-append}
use Rattle.judging.specs.Rowwise.{processors}
use Rattle.lags.specs.Sheet.{array_of, reads_of, lags_of, lines_in, line_at}
use Rattle.lags.specs.declared.Line.{Line}

pub array_length : {A : Type 0} (f : ℕ → A) (n : ℕ) → length (array_of f n) ≡ n
unfolding array_of
array_length f zero = refl
array_length f (suc n) = rw length-append (omega (arith, array_length f n))

pub array_get : {A : Type 0} (f : ℕ → A) (n i : ℕ) (d : A) → i < n → get_or (array_of f n) i d ≡ f i
unfolding array_of
array_get f zero i d a = absurd (omega arith)
array_get f (suc n) i d a = elim (ℕ_discrete i n) [
  | yes e ↦ rw e (get_or_at (array_of f n) (f n) [] d n (array_length f n))
  | no e ↦ get_or-append (array_of f n) _ d i (omega (arith, array_length f n)) ∙ array_get f n i d (omega arith)
]

pub array_at : (f : ℕ → ℕ) (n i : ℕ) → i < n → get_or (array_of f n) i 0 ≡ f i
array_at f n i a = array_get f n i 0 a

pub map_array : {A B : Type 0} (g : A → B) (f : ℕ → A) (n : ℕ) → map g (array_of f n) ≡ array_of (λ i. g (f i)) n
unfolding array_of
map_array g f zero = refl
map_array g f (suc n) = map-append g (array_of f n) (f n ∷ []) ∙ ap (λ l. l ++ (g (f n) ∷ [])) (map_array g f n)

-- a line within the array, and one beyond it
pub line_in : (log l : List ℕ) (i : ℕ) → i < processors → line_at (lines_in log l) i ≡ record { reads = reads_of log i; lags = lags_of log l i }
unfolding lines_in
line_in log l i a = array_get _ processors i _ a

pub lines_length : (log l : List ℕ) → length (lines_in log l) ≡ processors
unfolding lines_in
lines_length log l = array_length _ processors

pub no_line : (log l : List ℕ) (i : ℕ) → reads_of log i ≡ 0 → lags_of log l i ≡ 0 → line_at (lines_in log l) i ≡ record { reads = 0; lags = 0 }
no_line log l i r s = elim (dec_lt i processors) [
  | yes a ↦ line_in log l i a ∙ (λ j. record { reads = r j; lags = s j })
  | no a ↦ get_or-eq_default (lines_in log l) (record { reads = 0; lags = 0 }) {n = i} (omega (arith, lines_length log l))
]

-- lines with the same figures are the same
pub same_lines : (x y : List Line) → map (λ (l : Line). l.reads) x ≡ map (λ (l : Line). l.reads) y → map (λ (l : Line). l.lags) x ≡ map (λ (l : Line). l.lags) y → x ≡ y
same_lines [] [] e f = refl
same_lines [] (b ∷ y) e f = absurd (omega (arith, ap length e))
same_lines (a ∷ x) [] e f = absurd (omega (arith, ap length e))
same_lines (a ∷ x) (b ∷ y) e f =
    let r : a.reads ≡ b.reads = ap (λ (l : List ℕ). get_or l 0 0) e in
    let s : a.lags ≡ b.lags = ap (λ (l : List ℕ). get_or l 0 0) f in
    let t = same_lines x y (ap (drop 1) e) (ap (drop 1) f) in
    λ i. record { reads = r i; lags = s i } ∷ t i

pub array_same : (f g : ℕ → ℕ) (n : ℕ) → ((i : ℕ) → i < n → f i ≡ g i) → array_of f n ≡ array_of g n
unfolding array_of
array_same f g zero e = refl
array_same f g (suc n) e = rw (array_same f g n (λ i a. e i (omega arith)), e n (omega arith))

-- with one value changed
pub array_set : (f g : ℕ → ℕ) (n p x : ℕ) → p < n → g p ≡ x → ((i : ℕ) → i ≢ p → g i ≡ f i) → set (array_of f n) p x ≡ array_of g n
array_set f g n p x a e h =
    ext_get_or 0 (set (array_of f n) p x) (array_of g n) (length-set (array_of f n) p x ∙ array_length f n ∙ sym (array_length g n))
    (λ i b. at i (omega (arith, length-set (array_of f n) p x, array_length f n)))
  where
    at : (i : ℕ) → i < n → get_or (set (array_of f n) p x) i 0 ≡ get_or (array_of g n) i 0
    at i b = elim (ℕ_discrete i p) [
      | yes c ↦ rw (c, get_or-set_same (array_of f n) p x 0 (omega (arith, array_length f n))) (sym (array_at g n p a ∙ e))
      | no c ↦ get_or-set_other (array_of f n) p i x 0 c ∙ array_at f n i b ∙ sym (h i c) ∙ sym (array_at g n i b)
    ]

-- nothing but zeros, and beyond them
pub zeros_at : (n i : ℕ) → get_or {A = ℕ} (replicate n 0) i 0 ≡ 0
zeros_at n i = elim (dec_lt i n) [
  | yes a ↦ get_or-replicate n i 0 0 a
  | no a ↦ get_or-eq_default (replicate n 0) 0 {n = i} (omega (arith, length-replicate {A = ℕ} n 0))
]

pub zeros_array : (n : ℕ) → replicate n 0 ≡ array_of {A = ℕ} (λ _. 0) n
zeros_array n =
    ext_get_or 0 (replicate n 0) (array_of (λ _. 0) n) (length-replicate {A = ℕ} n 0 ∙ sym (array_length {A = ℕ} (λ _. 0) n))
    (λ i a. zeros_at n i ∙ sym (array_at (λ _. 0) n i (omega (arith, length-replicate {A = ℕ} n 0))))
