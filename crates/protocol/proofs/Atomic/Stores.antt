-- A read's stores and its end, one or the other.
use Prim.Native.Nat.{ℕ, suc, ◌≤◌, ◌<◌}
use mathlib.Core.Path.{◌≡◌, sym, subst}
use mathlib.Core.Logic.{◌⊎◌, inl, inr}
use mathlib.Core.List.{List}
use native.Mathlib.Omega.{arith}
use Rattle.words.specs.declared.cell.Cell.{Cell}
use Rattle.numbered.proofs.Splits.{lt_or}
use Rattle.numbered.proofs.Machine.{storing, Reader, St}
use Rattle.protocol.specs.Reference.{Model}
use Rattle.protocol.proofs.Atomic.Cells.{Low}
use Rattle.protocol.proofs.Atomic.Sim.{Storing, Sim}
use Rattle.protocol.proofs.Atomic.Turns.{to_result}
use Rattle.protocol.proofs.Atomic.Attempts.{turn}
use Rattle.protocol.proofs.Atomic.Results.{Next, at_q, put_sim, end_sim, put_is, end_is}

module _ (n : ℕ) (few : n ≤ 16) (c val : ℕ → ℕ) (low : Low c val) (b : Model) (s : St) (me : ℕ → Reader) (i : ℕ) (hi : i < n)
    (z : Sim n c val b s me) (m f p m' k : ℕ) (cells : List Cell) (e : (me i).ph ≡ storing f p m' k) (t : Storing n c val i cells m p m' k) where
  pub store_sim : Next n few c val low b s me i hi z (turn n c val low b s me i hi z m cells)
  store_sim = to_result n (suc i) _ _ m cells (Next n few c val low b s me i hi z) t.M t.q t.x t.m_is t.out t.low (go (lt_or (suc t.q) n))
    where
      go : (suc t.q < n) ⊎ (n ≤ suc t.q) → Next n few c val low b s me i hi z (at_q n few c val low b s me i hi z m f p m' k cells e t)
      go (inl more) =
          subst (Next n few c val low b s me i hi z) (sym (put_is n few c val low b s me i hi z m f p m' k cells e t more))
          (put_sim n few c val low b s me i hi z m f p m' k cells e t more)
      go (inr last) =
          let g : n ≡ suc t.q = omega (arith, t.low) in
          subst (Next n few c val low b s me i hi z) (sym (end_is n few c val low b s me i hi z m f p m' k cells e t g))
          (end_sim n few c val low b s me i hi z m f p m' k cells e t g)
