-- A register's log against its book's rows: L is the log as set-up left it.
use Prim.Native.Nat.{ℕ, suc, ◌+◌, ◌≤◌, ◌<◌}
use mathlib.Core.Path.{◌≡◌, refl, ap}
use mathlib.Core.Bool.{Bool, true, false}
use mathlib.Core.List.{List, [], ◌∷◌, ◌++◌, append_assoc}
use native.Mathlib.Omega.{arith}
use lib.ListN.{length, get_or, set, drop, length-append, length-set}
use lib.Seq.{set-append_seam, drop-cons}
use Rattle.words.specs.Choice.{pick}
use Rattle.words.proofs.Laws.Choice.{pick_ind}

-- A row more.
add_row : (L rows : List ℕ) (x : ℕ) → length rows < length L → set (rows ++ drop (length rows) L) (length rows) x ≡ (rows ++ x ∷ []) ++ drop (length (rows ++ x ∷ [])) L
add_row L rows x h =
    let e : length (rows ++ x ∷ []) ≡ suc (length rows) = simp length-append (omega arith) in
    rw (e, drop-cons L (length rows) 0 h, set-append_seam rows (get_or L (length rows) 0) (drop (suc (length rows)) L) x, append_assoc)

-- Rows with or without one more.
pub rows_rel : (L l rows : List ℕ) (used : ℕ) → used ≡ length rows → l ≡ rows ++ drop (length rows) L → (a : Bool) (x : ℕ) → (a ≡ false → used < length L)
    → (pick a used (used + 1) ≡ length (pick a rows (rows ++ x ∷ [])))
    × (pick a l (set l used x) ≡ pick a rows (rows ++ x ∷ []) ++ drop (length (pick a rows (rows ++ x ∷ []))) L)
rows_rel L l rows used u e true x h = (u, e)
rows_rel L l rows used u e false x h = (simp length-append (omega arith), rw (e, u) (add_row L rows x (omega (arith, h refl))))

-- The end row is looked at only at an end.
pub row_same : (c : Bool) (y z : ℕ) → (c ≡ false → y ≡ z) → (u : List ℕ) (f : ℕ → List ℕ) → pick c u (f y) ≡ pick c u (f z)
row_same true y z e u f = refl
row_same false y z e u f = ap f (e refl)

pub pick_length : (l : List ℕ) (b : Bool) (u x : ℕ) → length (pick b l (set l u x)) ≡ length l
pick_length l b u x = pick_ind (λ (m : List ℕ). length m ≡ length l) b _ _ (λ _. refl) (λ _. simp length-set)

-- The log as set-up left it: row 0, and the rest.
pub start_rows : (l : List ℕ) (x : ℕ) → 3 ≤ length l → set l 0 x ≡ (x ∷ []) ++ drop 1 (set l 0 x)
start_rows [] x h = absurd (omega arith)
start_rows (y ∷ l) x h = refl
