-- The cells from the writer: no reader stores there, and a sub-step of the writer stores in one at most.
use Prim.Native.Nat.{ℕ, ◌+◌, ◌-◌, ◌*◌, ◌≤◌, ◌<◌}
use mathlib.Core.Path.{◌≡◌, refl}
use mathlib.Core.Logic.{◌≢◌, inl, inr}
use mathlib.Core.List.{List}
use native.Mathlib.Omega.{arith}
use Rattle.words.specs.declared.cell.Cell.{Cell}
use Rattle.words.specs.declared.stamp.Stamp.{Stamp}
use Rattle.words.specs.Index.{other}
use Rattle.words.proofs.Laws.Choice.{lt_ind}
use Rattle.words.proofs.Laws.Index.{other_valid}
use Rattle.common.proofs.Places.{view_other}
use Rattle.protocol.specs.Table.{view, store}
use Rattle.protocol.specs.Reference.{Turn, Result, write_turn, result_turn, read_turn}
use Rattle.protocol.proofs.Table.{places}
use Rattle.protocol.proofs.Atomic.Turns.{attempt_ind}

-- of n readers: the writer's cell to reader p
module _ (n p : ℕ) (p1 : 1 ≤ p) (pn : p ≤ n) where
  -- a sub-step of reader q
  module _ (q : ℕ) (q1 : 1 ≤ q) (qn : q ≤ n) (t : List ℕ) (s : Stamp) (m : ℕ) (cells : List Cell) where
    abbrev Keeps : Turn → Type 0
    Keeps x = view n x.table 0 p ≡ view n t 0 p

    off : (j : ℕ) (c : Cell) → j ≤ n → j ≢ q → view n (store n t q j c) 0 p ≡ view n t 0 p
    off j c l ne = view_other (places n) q j t c (record { from = qn; dest = l; apart = ne }) 0 p (omega arith) (inl (omega arith))

    result_keeps : (k : ℕ) (x : Result) → Keeps (result_turn n q t s m cells k x)
    unfolding result_turn
    result_keeps k x =
        lt_ind Keeps (k + 1) n _ _ (λ h. let o = other_valid n q k q1 qn h in off (other q k) _ o.1 o.2) (λ _. off 0 _ (omega arith) (omega arith))

    pub read_keeps : Keeps (read_turn n q t s m cells)
    unfolding read_turn
    read_keeps =
        lt_ind Keeps _ (n + 3) _ _
        (λ _. attempt_ind n q t s m cells Keeps _ _ (λ _. refl) (λ _. off 0 _ (omega arith) (omega arith)) (λ _. refl) (λ _ _. refl) (λ _ _. refl))
        (λ _. result_keeps _ _)

  -- a sub-step of the writer, from n words on, if it is another's turn
  pub write_keeps : (t : List ℕ) (s : Stamp) (v m : ℕ) (cells : List Cell) → m < 2 * n → (n ≤ m → m - n + 1 ≢ p) → view n (write_turn n t s v m cells).table 0 p ≡ view n t 0 p
  unfolding write_turn
  write_keeps t s v m cells low ne =
      lt_ind (λ (x : Turn). view n x.table 0 p ≡ view n t 0 p) m n _ _ (λ _. refl)
      (λ h. lt_ind (λ (x : Turn). view n x.table 0 p ≡ view n t 0 p) (m + 1) (2 * n) _ _ (λ _. off_place _ h) (λ _. off_place _ h))
    where
      off_place : (c : Cell) → n ≤ m → view n (store n t 0 (m - n + 1) c) 0 p ≡ view n t 0 p
      off_place c h = view_other (places n) 0 (m - n + 1) t c (omega arith) 0 p (omega arith) (inr (ne h))
