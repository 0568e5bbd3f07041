-- Which turn a read's next sub-step is, and what the cells read say.
use Prim.Native.Nat.{ℕ, zero, suc, ◌+◌, ◌-◌, ◌≤◌, ◌<◌}
use mathlib.Core.Path.{◌≡◌, ◌∙◌, sym, ap, subst, subst₂}
use mathlib.Core.Logic.{◌≢◌, inl, inr}
use mathlib.Core.Bool.{Bool, true, false, not}
use mathlib.Core.List.{List, [], ◌∷◌, ◌++◌}
use native.Mathlib.Decide.{ℕ_discrete}
use native.Mathlib.Omega.{arith}
use lib.ListN.{length, length-append}
use lib.Dec.{ltb, leb}
use borrow.Author.Tests.{lt-ltb, le-ltb, le-leb, lt-leb}
use Rattle.words.specs.declared.stamp.Stamp.{Stamp}
use Rattle.words.specs.declared.cell.Cell.{Cell}
use Rattle.words.specs.Choice.{pick}
use Rattle.words.specs.Stamp.{same}
use Rattle.words.specs.Index.{other}
use Rattle.words.proofs.Laws.Choice.{pick_yes, pick_no, lt_ind, eq_ind, never, left, right, both}
use Rattle.words.proofs.Laws.Stamp.{same_equal, equal_same}
use Rattle.protocol.specs.Reference.{Turn, nth, first_with, agree, Result, result_of, failed, announcement, reads_from, stores_to, attempt_turn, result_turn, read_turn}
use Rattle.protocol.proofs.Seen.{nth_old}
use Rattle.protocol.proofs.Atomic.Sim.{Attempt, Trying, Outcome}

-- A cell of those sought, or none of them.
pub first_ind : (Q : Cell → Type 0) (cells : List Cell) (t : ℕ) (d : Cell) (k r : ℕ)
    → ((q : ℕ) → k ≤ q → q < k + r → (nth cells q).stamp.prev ≡ t → Q (nth cells q))
    → (((q : ℕ) → k ≤ q → q < k + r → (nth cells q).stamp.prev ≢ t) → Q d) → Q (first_with cells t d k r)
unfolding first_with
first_ind Q cells t d k zero f g = g (λ q a b. absurd (omega arith))
first_ind Q cells t d k (suc r) f g =
    eq_ind Q (nth cells k).stamp.prev t _ _ (λ e. f k (omega arith) (omega arith) e)
    (λ ne. first_ind Q cells t d (suc k) r (λ q a b e. f q (omega arith) (omega arith) e)
    (λ h. g (λ q a b. elim (ℕ_discrete q k) [ yes e ↦ rw e ne | no x ↦ h q (omega arith) (omega arith) ])))

module _ (n : ℕ) (cells : List Cell) (a : ℕ) where
  abbrev s₁ : Stamp
  s₁ = (nth cells a).stamp

  abbrev s₂ : Stamp
  s₂ = (nth cells (a + 1)).stamp

  abbrev s₃ : Stamp
  s₃ = (nth cells (a + (n + 1))).stamp

  -- The test of the three stamps says what it seems to.
  pub agree_same : agree n cells a ≡ true → (s₁ ≡ s₂) × (s₁ ≡ s₃)
  agree_same e = (same_equal s₁ s₂ (left (same s₁ s₂) (same s₁ s₃) e), same_equal s₁ s₃ (right (same s₁ s₂) (same s₁ s₃) e))

  pub agree_not : agree n cells a ≡ false → s₁ ≡ s₂ → s₁ ≢ s₃
  agree_not e p q = never (sym (both (same s₁ s₂) (same s₁ s₃) (equal_same s₁ s₂ p) (equal_same s₁ s₃ q)) ∙ e)

  -- the cell whose value and stamp are the result, if they agree
  abbrev pub found : Cell
  found = first_with cells s₃.cur (nth cells (a + (n + 1))) (a + 2) (n - 1)

  pub result_found : agree n cells a ≡ true → result_of n cells a ≡ record { value = found.value; stamp = found.stamp }
  unfolding result_of
  result_found e = pick_yes (agree n cells a) _ _ e

module _ (n : ℕ) where
  pub attempt_more : (cells : List Cell) (x : Cell) (sl M R : ℕ) → R ≤ length cells → Attempt n cells sl M R → Attempt n (cells ++ (x ∷ [])) sl M R
  attempt_more cells x sl M R h (inl a) = inl a
  attempt_more cells x sl M R h (inr a) =
      inr (a.0, a.1, a.2, rw (nth_old cells x 0 (omega (arith, a.2)), nth_old cells x 1 (omega (arith, a.2)), nth_old cells x (0 + (n + 1)) (omega (arith, a.2))) a.3)

  -- one cell more
  abbrev pub trying_more : (cells : List Cell) (x : Cell) (m sl l r l' r' : ℕ) → suc l ≡ l' → suc r ≡ r' → Trying n cells m sl l r
      → Trying n (cells ++ (x ∷ [])) (m + 1) sl l' r'
  trying_more cells x m sl l r l' r' el er t = record {
    M = t.M;
    R = t.R;
    attempt = attempt_more cells x sl t.M t.R (omega (arith, t.len)) t.attempt;
    m_is = omega (arith, t.m_is);
    len = length-append cells (x ∷ []) ∙ omega (arith, t.len);
  }

  module _ (p : ℕ) (t : List ℕ) (s : Stamp) (m : ℕ) (cells : List Cell) (Q : Turn → Type 0) where
    pub attempt_is : (σ : Bool) → failed n m cells ≡ σ → m - pick σ (n + 3) 0 < n + 3
        → read_turn n p t s m cells ≡ attempt_turn n p t s m cells (m - pick σ (n + 3) 0) (pick σ (n + 2) 0)
    unfolding read_turn
    attempt_is σ e h = rw e (pick_yes (ltb (m - pick σ (n + 3) 0) (n + 3)) _ _ (lt-ltb _ _ h))

    pub result_is : (σ : Bool) → failed n m cells ≡ σ → n + 3 ≤ m - pick σ (n + 3) 0
        → read_turn n p t s m cells ≡ result_turn n p t s m cells (m - pick σ (n + 3) 0 - (n + 3)) (result_of n cells (pick σ (n + 2) 0))
    unfolding read_turn
    result_is σ e h = rw e (pick_no (ltb (m - pick σ (n + 3) 0) (n + 3)) _ _ (le-ltb _ _ h))

    -- The sub-step is the attempt's.
    pub to_attempt : (sl l r : ℕ) (y : Trying n cells m sl l r) → l < n + 3 → Q (attempt_turn n p t s m cells l y.R) → Q (read_turn n p t s m cells)
    to_attempt sl l r y h z = at y.attempt
      where
        go : (σ : Bool) → failed n m cells ≡ σ → l ≡ m - pick σ (n + 3) 0 → y.R ≡ pick σ (n + 2) 0 → Q (read_turn n p t s m cells)
        go σ e el eR =
            subst Q (sym (attempt_is σ e (omega arith)))
            (subst₂ (λ (a b : ℕ). Q (attempt_turn n p t s m cells a b)) el eR z)

        at : Attempt n cells sl y.M y.R → Q (read_turn n p t s m cells)
        at (inl a) =
            let g : m < n + 3 = omega (arith, y.m_is, a.1) in
            go false (rw (lt-leb (n + 3) m g)) (omega (arith, y.m_is, a.1)) a.2
        at (inr a) =
            let g : n + 3 ≤ m = omega (arith, y.m_is, a.1) in
            go true (both (leb (n + 3) m) (not (agree n cells 0)) (le-leb (n + 3) m g) (ap not a.3)) (omega (arith, y.m_is, a.1)) a.2

    -- The sub-steps of an attempt.
    pub attempt_ind : (l a : ℕ) → (l ≡ 0 → Q (reads_from n p t s m cells 0))
        → (l ≡ 1 → Q (stores_to n p t s m cells 0 (announcement s (nth cells a))))
        → (l ≡ 2 → Q (reads_from n p t s m cells 0))
        → (3 ≤ l → l < n + 2 → Q (reads_from n p t s m cells (other p (l - 3))))
        → (3 ≤ l → n + 2 ≤ l → Q (reads_from n p t s m cells 0)) → Q (attempt_turn n p t s m cells l a)
    unfolding attempt_turn
    attempt_ind l a q0 q1 q2 q3 q4 =
        eq_ind Q l 0 _ _ q0 λ h0. eq_ind Q l 1 _ _ q1 λ h1. eq_ind Q l 2 _ _ q2 λ h2. lt_ind Q l (n + 2) _ _ (q3 (omega arith)) (q4 (omega arith))

    -- The sub-step is a store of the result.
    pub to_result : (M q : ℕ) (x : Result) → m ≡ M + q → Outcome n cells M x → q < n → Q (result_turn n p t s m cells q x) → Q (read_turn n p t s m cells)
    to_result M q x e o h z = at o
      where
        go : (σ : Bool) → failed n m cells ≡ σ → n + 3 ≤ m - pick σ (n + 3) 0 → q ≡ m - pick σ (n + 3) 0 - (n + 3) → x ≡ result_of n cells (pick σ (n + 2) 0)
            → Q (read_turn n p t s m cells)
        go σ e l eq ex =
            subst Q (sym (result_is σ e l))
            (subst₂ (λ (a : ℕ) (b : Result). Q (result_turn n p t s m cells a b)) eq ex z)

        at : Outcome n cells M x → Q (read_turn n p t s m cells)
        at (inl a) =
            let g : n + 3 ≤ m = omega (arith, a.1) in
            go false (rw (le-leb (n + 3) m g, a.0)) (omega (arith, a.1)) (omega (arith, a.1)) a.2
        at (inr a) =
            let g : n + 3 ≤ m = omega (arith, a.1) in
            go true (both (leb (n + 3) m) (not (agree n cells 0)) (le-leb (n + 3) m g) (ap not a.0)) (omega (arith, a.1)) (omega (arith, a.1)) a.2
