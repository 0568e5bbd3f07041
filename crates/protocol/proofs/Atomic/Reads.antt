-- A read's begin and each of its sub-steps in the book are the numbered machine's.
use Prim.Native.Nat.{ℕ, suc, ◌≤◌, ◌<◌}
use mathlib.Core.Path.{◌≡◌, refl}
use mathlib.Core.Logic.{◌⊎◌, inl, inr}
use mathlib.Core.List.{List, [], ◌∷◌, ◌++◌}
use native.Mathlib.Omega.{arith}
use Rattle.words.specs.declared.cell.Cell.{Cell}
use Rattle.words.specs.Update.{upd}
use Rattle.words.specs.Row.{row_of}
use Rattle.numbered.proofs.Splits.{lt_or}
use Rattle.numbered.proofs.Machine.{Phase, rest, begun, looked, announced, second, storing, Reader, St}
use Rattle.numbered.proofs.Attempt.{to, r_begin_inv}
use Rattle.numbered.proofs.Log.{log_r_begins}
use Rattle.common.specs.Book.{idle, open_with, entered}
use Rattle.protocol.specs.Reference.{Model, read_turn}
use Rattle.protocol.proofs.Atomic.Cells.{Low}
use Rattle.protocol.proofs.Atomic.Sim.{ReadSim, Sim}
use Rattle.protocol.proofs.Atomic.Frames.{Go, local_sim}
use Rattle.protocol.proofs.Atomic.Attempts.{first_sim, announce_sim, second_sim, cell_sim}
use Rattle.protocol.proofs.Atomic.Third.{third_sim}
use Rattle.protocol.proofs.Atomic.Stores.{store_sim}

module _ (n : ℕ) (few : n ≤ 16) (c val : ℕ → ℕ) (low : Low c val) (b : Model) (s : St) (me : ℕ → Reader) (i : ℕ) (hi : i < n)
    (z : Sim n c val b s me) where
  abbrev stepped : ℕ → List Cell → Model
  stepped m cells = entered b (suc i) 4 (read_turn n (suc i) b.table (b.stamp (suc i)) m cells)

  pub r_step_sim : (v m : ℕ) (cells : List Cell) → b.op (suc i) ≡ open_with v m cells → Go n c val (stepped m cells) s
  r_step_sim v m cells e = at (me i).ph refl (rw e at (z.readers i hi))
    where
      at : (ph : Phase) → (me i).ph ≡ ph → ReadSim n c val i (open_with v m cells) ph → Go n c val (stepped m cells) s
      at rest g r = absurd r
      at (begun f sl) g r = first_sim n c val low b s me i hi z m f sl cells g r
      at (looked f sl u) g r = announce_sim n c val low b s me i hi z m f sl u cells g r.0 r.1
      at (announced f sl u) g r = second_sim n c val low b s me i hi z m f sl u cells g r.0 r.1
      at (second f sl u w k y) g r = next (lt_or (suc r.q) n)
        where
          next : (suc r.q < n) ⊎ (n ≤ suc r.q) → Go n c val (stepped m cells) s
          next (inl h) = cell_sim n c val low b s me i hi z m f sl u w k y cells g r h
          next (inr h) = third_sim n c val low b s me i hi z m f sl u w k y cells g r (omega (arith, r.low))
      at (storing f p m' k) g r = store_sim n few c val low b s me i hi z m f p m' k cells g r

  abbrev pub begun_read : Model
  begun_read = record b { rows = b.rows ++ (row_of 3 (suc i) 0 ∷ []); op = upd b.op (suc i) (open_with 0 0 []) }

  pub r_begin_sim : b.op (suc i) ≡ idle → Go n c val begun_read s
  r_begin_sim e = at (me i).ph refl (rw e at (z.readers i hi))
    where
      at : (ph : Phase) → (me i).ph ≡ ph → ReadSim n c val i idle ph → Go n c val begun_read s
      at rest g r = (
        s,
        upd me i (to (me i) (begun s.F 1)),
        local_sim n c val b s me i z _ _ _ _ (λ _. refl) (r_begin_inv n c s me i z.inv g)
            (record { M = 0; R = 0; attempt = inl (refl, refl, refl); m_is = refl; len = refl })
            (log_r_begins n val _ _ _ _ _ me _ z.log_ok few i _ hi refl),
        refl,
      )
      at (begun f sl) g r = absurd r
      at (looked f sl u) g r = absurd r
      at (announced f sl u) g r = absurd r
      at (second f sl u w k y) g r = absurd r
      at (storing f p m' k) g r = absurd r
