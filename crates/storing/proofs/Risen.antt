-- Numbers sorted rising, and that what matches in the papers' words does.
use Prim.Native.Nat.{ℕ, suc, zero, ◌≤◌, ◌<◌, ◌+◌, ◌-◌}
use native.Mathlib.Omega.{arith}
use native.Mathlib.Decide.{ℕ_discrete, dec_lt}
use mathlib.Core.Path.{◌≡◌, refl, sym, ap, subst, ◌∙◌}
use mathlib.Core.List.{List, [], ◌∷◌, ◌++◌, map}
use lib.Dec.{T, eqb}
use lib.ListN.{length, get_or, drop, length-append, length-drop, length-map, get_or-append}
use lib.Seq.{ext_get_or, get_or-drop, get_or-append-add}
use Rattle.words.proofs.Laws.Choice.{and_T, eq→T}
use Rattle.words.proofs.Laws.Same.{→same}
use Rattle.history.specs.Rows.{processor_of, processor_at}
use Rattle.storing.specs.Gather.{strip, gather, count_of}
use Rattle.storing.specs.Strips.{sorted, matched}
use Rattle.storing.specs.Meaning.{Match}
use Rattle.storing.proofs.Gathered.{strip_hit, strip_miss, strip_key, gather_same}
use Rattle.storing.proofs.Onward.{gather_out, gather_nil}
use Rattle.storing.proofs.Back.{processor_small, processor_at_lem}

-- sorted rising
abbrev pub Rises : List ℕ → Type 0
Rises l = (i j : ℕ) → i ≤ j → j < length l → get_or l i 0 ≤ get_or l j 0

-- what holds of the elements of two lists holds of those of both
append_ind : (P : ℕ → Type 0) (l m : List ℕ) → ((i : ℕ) → i < length l → P (get_or l i 0)) → ((i : ℕ) → i < length m → P (get_or m i 0))
    → (i : ℕ) → i < length (l ++ m) → P (get_or (l ++ m) i 0)
append_ind P l m f g i a = elim (dec_lt i (length l)) [
  | yes b ↦ rw (get_or-append l m 0 i b) (f i b)
  | no b ↦ let e : i ≡ length l + (i - length l) = omega arith in
      subst (λ (n : ℕ). P (get_or (l ++ m) n 0)) (sym e) (rw get_or-append-add (g (i - length l) (omega (arith, length-append l m))))
]

-- What is gathered is below the limit, and rises.
gather_below : (q : ℕ) (l : List ℕ) (i : ℕ) → i < length (gather (λ b. b) q l) → get_or (gather (λ b. b) q l) i 0 < q
unfolding gather
gather_below zero l i a = absurd (omega arith)
gather_below (suc q) l i a =
    append_ind (λ w. w < suc q) (gather (λ b. b) q l) (strip (λ b. b) q l)
    (λ j c. omega (arith, gather_below q l j c)) (λ j c. omega (arith, strip_key (λ b. b) q l j c)) i a

pub gather_rises : (q : ℕ) (l : List ℕ) → Rises (gather (λ b. b) q l)
unfolding gather
gather_rises zero l i j a c = absurd (omega arith)
gather_rises (suc q) l i j a c = elim (dec_lt j (length g)) [
  | yes d ↦ rw (get_or-append g s 0 i (omega arith), get_or-append g s 0 j d) (gather_rises q l i j a d)
  | no d ↦ let e : j ≡ length g + (j - length g) = omega arith in
      let f : get_or (g ++ s) j 0 ≡ q = ap (λ (n : ℕ). get_or (g ++ s) n 0) e
      ∙ get_or-append-add g s (j - length g) 0 ∙ strip_key (λ b. b) q l (j - length g) (omega (arith, length-append g s)) in
      omega (arith, gather_below (suc q) l i (omega arith))
]
  where
    g : List ℕ
    g = gather (λ b. b) q l

    s : List ℕ
    s = strip (λ b. b) q l

-- A list that rises is gathered already: its first is the first of those gathered.
gather_above : (q : ℕ) (l : List ℕ) → ((i : ℕ) → i < length l → q ≤ get_or l i 0) → gather (λ b. b) q l ≡ []
gather_above q [] f = gather_nil (λ b. b) q
gather_above q (x ∷ l) f = gather_out (λ b. b) q x l (f 0 (omega arith)) ∙ gather_above q l (λ i a. f (suc i) (omega arith))

gather_first : (q x : ℕ) (l : List ℕ) → x < q → ((i : ℕ) → i < length l → x ≤ get_or l i 0) → gather (λ b. b) q (x ∷ l) ≡ x ∷ gather (λ b. b) q l
unfolding gather
gather_first zero x l a f = absurd (omega arith)
gather_first (suc q) x l a f = elim (ℕ_discrete x q) [
  | yes e ↦ rw (gather_out (λ b. b) q x l (omega arith), gather_above q l (λ i c. omega (arith, f i c))) (strip_hit (λ b. b) q x l e)
  | no e ↦ rw (gather_first q x l (omega arith) f, strip_miss (λ b. b) q x l e)
]

gather_risen : (q : ℕ) (l : List ℕ) → Rises l → ((i : ℕ) → i < length l → get_or l i 0 < q) → gather (λ b. b) q l ≡ l
gather_risen q [] r f = gather_nil (λ b. b) q
gather_risen q (x ∷ l) r f =
    gather_first q x l (f 0 (omega arith)) (λ i a. r 0 (suc i) (omega arith) (omega arith))
    ∙ ap (x ∷◌) (gather_risen q l (λ i j a c. r (suc i) (suc j) (omega arith) (omega arith)) (λ i a. f (suc i) (omega arith)))

-- Lists with each number equally often are sorted alike.
strip_same : (p : ℕ) (l m : List ℕ) → count_of p l ≡ count_of p m → strip (λ b. b) p l ≡ strip (λ b. b) p m
strip_same p l m e = ext_get_or 0 _ _ e (λ i a. strip_key (λ b. b) p l i a ∙ sym (strip_key (λ b. b) p m i (omega arith)))

-- a number above all stands nowhere
pub strip_none : (p : ℕ) (l : List ℕ) → ((i : ℕ) → i < length l → get_or l i 0 < p) → strip (λ b. b) p l ≡ []
unfolding strip
strip_none p [] f = refl
strip_none p (x ∷ l) f = strip_miss (λ b. b) p x l (omega (arith, f 0 (omega arith))) ∙ strip_none p l (λ i a. f (suc i) (omega arith))

module _ (bytes rows : List ℕ) where
  -- the processors of the rows after row 0
  unfoldable pub rest : List ℕ
  rest = map processor_of (drop 1 rows)

  pub rest_length : length rest ≡ length rows - 1
  unfolding rest
  rest_length = length-map (drop 1 rows) processor_of ∙ length-drop 1 rows

  pub rest_at : (i k : ℕ) → 1 + i ≡ k → get_or rest i 0 ≡ processor_at rows k
  unfolding rest processor_at
  rest_at i k e = processor_at_lem (drop 1 rows) i ∙ ap processor_of (get_or-drop 1 rows i 0) ∙ ap (λ (n : ℕ). processor_of (get_or rows n 0)) e

  pub →match : Match bytes rows → T (matched bytes rows)
  unfolding matched sorted rest
  →match M =
      and_T (eqb (length rows) (length bytes + 1)) _ (eq→T (length rows) (length bytes + 1) M.number)
      (→same (gather (λ b. b) 256 bytes) rest
      (gather_same (λ b. b) 256 bytes rest (λ p _. strip_same p bytes rest (M.as_often p)) ∙ gather_risen 256 rest rises small))
    where
      rises : Rises rest
      rises i j a c =
          rw (rest_at i (1 + i) refl, rest_at j (1 + j) refl)
          (M.rising (1 + i) (1 + j) (omega arith) (omega arith) (omega (arith, rest_length)))

      small : (i : ℕ) → i < length rest → get_or rest i 0 < 256
      small i a = rw (processor_at_lem (drop 1 rows) i) (processor_small (get_or (drop 1 rows) i 0))
