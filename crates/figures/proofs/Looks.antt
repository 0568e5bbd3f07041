-- One read of the first register: it has a second attempt exactly if, at its third look, one of its looks differs from what stands there.
use Prim.Native.Nat.{ℕ, ◌+◌, ◌-◌, ◌*◌, ◌≤◌, ◌<◌}
use mathlib.Core.Path.{◌≡◌, refl, sym, ap, ◌∙◌}
use mathlib.Core.Logic.{◌⊎◌, inl, inr}
use mathlib.Core.Bool.{Bool, true, false, ◌&&◌, ◌||◌}
use mathlib.Core.List.{List, [], ◌∷◌, ◌++◌}
use native.Mathlib.Omega.{arith}
use native.Mathlib.Nat.{sub-zero}
use native.Mathlib.Decide.{dec_lt}
use lib.Dec.{ltb}
use lib.ListN.{length, length-append}
use borrow.Author.Tests.{lt-leb, le-ltb}
use Rattle.words.specs.declared.cell.Cell.{Cell}
use Rattle.words.specs.declared.stamp.Stamp.{Stamp}
use Rattle.words.specs.Choice.{pick}
use Rattle.words.specs.Counting.{one}
use Rattle.words.specs.Stamp.{same}
use Rattle.words.proofs.Laws.Choice.{lt_ind}
use Rattle.words.proofs.Laws.Stamp.{same_equal, equal_same}
use Rattle.common.specs.Book.{idle, open_with}
use Rattle.protocol.specs.Table.{view}
use Rattle.protocol.specs.Reference.{Operation, Turn, nth, alike, agree, failed, Result, attempt_turn, result_turn, read_turn}
use Rattle.protocol.proofs.Seen.{nth_old, nth_new}
use Rattle.protocol.proofs.Atomic.Turns.{attempt_is, result_is, attempt_ind}

-- equal stamps
alike_self : (c : Cell) → alike c c ≡ true
alike_self c = equal_same c.stamp c.stamp refl

-- of three cells: a is as b and as c exactly if a is as c and b is
alike_three : (a b c : Cell) → (alike a b && alike a c) ≡ (alike a c && alike b c)
alike_three a b c = at (alike a c) refl
  where
    no_more : (x : Bool) → (x && false) ≡ false
    no_more true = refl
    no_more false = refl

    turned : (x y : Stamp) → same x y ≡ same y x
    turned x y = go (same x y) (same y x) refl refl
      where
        go : (u w : Bool) → same x y ≡ u → same y x ≡ w → u ≡ w
        go true true e f = refl
        go false false e f = refl
        go true false e f = sym (equal_same y x (sym (same_equal x y e))) ∙ f
        go false true e f = sym e ∙ equal_same x y (sym (same_equal y x f))

    at : (t : Bool) → alike a c ≡ t → (alike a b && alike a c) ≡ (alike a c && alike b c)
    at true e =
        let s = same_equal a.stamp c.stamp e in
        rw e (and_true (alike a b) ∙ ap (λ (x : Stamp). same x b.stamp) s ∙ turned c.stamp b.stamp)
      where
        and_true : (x : Bool) → (x && true) ≡ x
        and_true true = refl
        and_true false = refl
    at false e = rw e (no_more (alike a b))

more : (cells : List Cell) (c : Cell) → length (cells ++ (c ∷ [])) ≡ length cells + 1
more cells c = length-append cells (c ∷ [])

-- the looks that were made show a cell
abbrev pub shows : Cell → ℕ → List Cell → Bool
shows cell m cells = (ltb m 1 || alike (nth cells 0) cell) && (ltb m 3 || alike (nth cells 1) cell)

module _ (n : ℕ) where
  -- the words of a read that has moved m of them
  abbrev pub total : ℕ → List Cell → ℕ
  total m cells = 2 * n + 3 + (n + 3) * one (failed n m cells)

  -- in the first attempt, up to the third look; and behind it
  pub record First (m : ℕ) (cells : List Cell) : Type 0 where
    pub m_low : m ≤ n + 2
    pub short : m ≤ 1 → length cells ≡ m
    pub long : 2 ≤ m → length cells + 1 ≡ m

  pub record Behind (m : ℕ) (cells : List Cell) : Type 0 where
    pub m_low : n + 3 ≤ m
    pub m_high : m < total m cells
    pub long : n + 2 ≤ length cells

  abbrev pub Reading : Operation → Type 0
  Reading idle = Unit {0}
  Reading (open_with v m cells) = First m cells ⊎ Behind m cells

  -- what a sub-step of its own makes of it, if the writer's cell to it is `cell`
  pub data Own (cell : Cell) (m : ℕ) (cells : List Cell) : Operation → Type 0 where
    goes : (ds : List Cell) → m < n + 2 → First (m + 1) ds → shows cell (m + 1) ds ≡ shows cell m cells → Own cell m cells (open_with 0 (m + 1) ds)
    third : (ds : List Cell) → m ≡ n + 2 → agree n ds 0 ≡ shows cell m cells → n + 2 ≤ length ds → Own cell m cells (open_with 0 (m + 1) ds)
    stays : (ds : List Cell) → n + 3 ≤ m → agree n ds 0 ≡ agree n cells 0 → n + 2 ≤ length ds → m + 1 < total m cells → Own cell m cells (open_with 0 (m + 1) ds)
    ends : n + 3 ≤ m → m + 1 ≡ total m cells → Own cell m cells idle

  module _ (pos : 1 ≤ n) (p : ℕ) (t : List ℕ) (s : Stamp) (m : ℕ) (cells : List Cell) where
    abbrev Q : Turn → Type 0
    Q x = Own (view n t 0 p) m cells x.op

    module _ (F : First m cells) where
      first_turn : read_turn n p t s m cells ≡ attempt_turn n p t s m cells m 0
      first_turn =
          let e : failed n m cells ≡ false = rw (lt-leb (n + 3) m (omega (arith, F.m_low))) in
          attempt_is n p t s m cells Q false e (omega (arith, F.m_low)) ∙ ap (λ (l : ℕ). attempt_turn n p t s m cells l 0) (sub-zero m)

      -- a cell more behind the second look
      further : (c : Cell) → 3 ≤ m → m < n + 2 → Q (record { op = open_with 0 (m + 1) (cells ++ (c ∷ [])); stamp = s; table = t; value = 0 })
      further c l h =
          goes (cells ++ (c ∷ [])) h
          (record { m_low = omega arith; short = λ g. absurd (omega arith); long = λ _. omega (arith, more cells c, F.long (omega arith)) })
          (rw (nth_old cells c 0 (omega (arith, F.long (omega arith))), nth_old cells c 1 (omega (arith, F.long (omega arith))), le-ltb (m + 1) 1 (omega arith), le-ltb m 1 (omega arith), le-ltb (m + 1) 3 (omega arith), le-ltb m 3 (omega arith)))

      -- the third look
      last : m ≡ n + 2 → Q (record { op = open_with 0 (m + 1) (cells ++ (view n t 0 p ∷ [])); stamp = s; table = t; value = 0 })
      last e =
          let size : length cells ≡ n + 1 = omega (arith, F.long (omega arith)) in
          third (cells ++ (view n t 0 p ∷ [])) e
          (rw (nth_old cells (view n t 0 p) 0 (omega arith), nth_old cells (view n t 0 p) (0 + 1) (omega arith), nth_new cells (view n t 0 p) (0 + (n + 1)) (omega arith), le-ltb m 1 (omega arith), le-ltb m 3 (omega arith))
          (alike_three (nth cells 0) (nth cells 1) (view n t 0 p)))
          (omega (arith, more cells (view n t 0 p)))

      first_own : Q (read_turn n p t s m cells)
      first_own =
          rw first_turn
          (attempt_ind n p t s m cells Q m 0
          (λ e. goes (cells ++ (view n t 0 p ∷ [])) (omega arith)
          (record { m_low = omega arith; short = λ _. omega (arith, more cells (view n t 0 p), F.short (omega arith)); long = λ g. absurd (omega arith) })
          (rw (nth_new cells (view n t 0 p) 0 (omega (arith, F.short (omega arith))), alike_self (view n t 0 p), e)))
          (λ e. goes cells (omega arith)
          (record { m_low = omega arith; short = λ g. absurd (omega arith); long = λ _. omega (arith, F.short (omega arith)) })
          (rw e))
          (λ e. goes (cells ++ (view n t 0 p ∷ [])) (omega arith)
          (record { m_low = omega arith; short = λ g. absurd (omega arith); long = λ _. omega (arith, more cells (view n t 0 p), F.long (omega arith)) })
          (rw (nth_old cells (view n t 0 p) 0 (omega (arith, F.long (omega arith))), nth_new cells (view n t 0 p) 1 (omega (arith, F.long (omega arith))), alike_self (view n t 0 p), e)))
          (λ l h. further _ l h)
          (λ l h. last (omega (arith, F.m_low))))

    module _ (P : Behind m cells) where
      -- the looks of the first attempt stay as they were
      agree_more : (c : Cell) → agree n (cells ++ (c ∷ [])) 0 ≡ agree n cells 0
      agree_more c =
          rw (nth_old cells c 0 (omega (arith, P.long)), nth_old cells c (0 + 1) (omega (arith, P.long)), nth_old cells c (0 + (n + 1)) (omega (arith, P.long)))

      reads : (c : Cell) → m + 1 < total m cells → Own (view n t 0 p) m cells (open_with 0 (m + 1) (cells ++ (c ∷ [])))
      reads c h = stays (cells ++ (c ∷ [])) P.m_low (agree_more c) (omega (arith, more cells c, P.long)) h

      same_cells : m + 1 < total m cells → Own (view n t 0 p) m cells (open_with 0 (m + 1) cells)
      same_cells h = stays cells P.m_low refl P.long h

      -- the second attempt
      again : failed n m cells ≡ true → m - (n + 3) < n + 3 → Q (read_turn n p t s m cells)
      again e h =
          let low : m + 1 < total m cells = omega (arith, ap (λ (x : Bool). (n + 3) * one x) e, P.m_low) in
          rw (attempt_is n p t s m cells Q true e h)
          (attempt_ind n p t s m cells Q (m - (n + 3)) (n + 2) (λ _. reads _ low) (λ _. same_cells low) (λ _. reads _ low) (λ _ _. reads _ low) (λ _ _. reads _ low))

      -- the stores of the result
      stores : (k : ℕ) (x : Result) → k + (n + 3) + (n + 3) * one (failed n m cells) ≡ m → Q (result_turn n p t s m cells k x)
      unfolding result_turn
      stores k x e =
          lt_ind Q (k + 1) n _ _ (λ h. same_cells (omega arith)) (λ h. ends P.m_low (omega (arith, P.m_high)))

      behind_own : Q (read_turn n p t s m cells)
      behind_own = at (failed n m cells) refl (dec_lt (m - pick (failed n m cells) (n + 3) 0) (n + 3))
        where
          at : (σ : Bool) → failed n m cells ≡ σ → Dec (m - pick (failed n m cells) (n + 3) 0 < n + 3) → Q (read_turn n p t s m cells)
          at true e (yes h) = again e (rw e at h)
          at false e (yes h) = let g : m - 0 < n + 3 = rw e at h in absurd (omega (arith, P.m_low))
          at true e (no h) =
              let g : ¬ (m - (n + 3) < n + 3) = rw e at h in
              rw (result_is n p t s m cells Q true e (omega arith)) (stores _ _ (omega (arith, ap (λ (x : Bool). (n + 3) * one x) e)))
          at false e (no h) =
              rw (result_is n p t s m cells Q false e (omega (arith, P.m_low))) (stores _ _ (omega (arith, ap (λ (x : Bool). (n + 3) * one x) e, P.m_low)))

    pub own : First m cells ⊎ Behind m cells → Own (view n t 0 p) m cells (read_turn n p t s m cells).op
    own (inl F) = first_own F
    own (inr P) = behind_own P
