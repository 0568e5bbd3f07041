-- An attempt's sub-steps in the book, but for its last, are the numbered machine's.
use Prim.Native.Nat.{ℕ, suc, ◌+◌, ◌-◌, ◌<◌}
use mathlib.Core.Path.{◌≡◌, refl, ◌∙◌, sym, ap, ap₂, subst}
use mathlib.Core.Logic.{◌≢◌, ◌⊎◌, inl, inr}
use mathlib.Core.List.{List, [], ◌∷◌, ◌++◌}
use native.Mathlib.Omega.{arith}
use Rattle.words.specs.declared.cell.Cell.{Cell}
use Rattle.words.specs.Update.{upd}
use Rattle.words.specs.Index.{other}
use Rattle.words.proofs.Laws.Update.{upd_same, upd_other, upd_own}
use Rattle.numbered.proofs.Splits.{eq_or}
use Rattle.numbered.proofs.Machine.{begun, looked, announced, second, Reader, St}
use Rattle.numbered.proofs.Attempt.{to, r_look_inv, r_announce_inv, r_second_inv, r_cell_inv}
use Rattle.numbered.proofs.Log.{log_keep}
use Rattle.numbered.proofs.Peers.{peer, other_peer, peer_ne, peer_lt, peer_first, peer_next, peer_up}
use Rattle.common.specs.Book.{entered}
use Rattle.protocol.specs.Table.{view}
use Rattle.protocol.specs.Reference.{Model, Turn, nth, announcement, read_turn}
use Rattle.protocol.proofs.Seen.{nth_old, nth_new}
use Rattle.protocol.proofs.Atomic.Cells.{Low, back_of, cell_of}
use Rattle.protocol.proofs.Atomic.Sim.{Trying, Among, Sim}
use Rattle.protocol.proofs.Atomic.Turns.{trying_more, to_attempt, attempt_ind}
use Rattle.protocol.proofs.Atomic.Frames.{Go, local_sim, back_sim}

module _ (n : ℕ) (c val : ℕ → ℕ) (low : Low c val) (b : Model) (s : St) (me : ℕ → Reader) (i : ℕ) (hi : i < n)
    (z : Sim n c val b s me) where
  abbrev pub Goes : Turn → Type 0
  Goes x = Go n c val (entered b (suc i) 4 x) s

  abbrev pub turn : ℕ → List Cell → Turn
  turn m cells = read_turn n (suc i) b.table (b.stamp (suc i)) m cells

  -- The first read of the writer's cell.
  pub first_sim : (m f sl : ℕ) (cells : List Cell) → (me i).ph ≡ begun f sl → Trying n cells m sl 0 0 → Goes (turn m cells)
  first_sim m f sl cells e t =
      to_attempt n (suc i) _ _ m cells Goes sl 0 0 t (omega arith)
      (attempt_ind n (suc i) _ _ m cells Goes 0 t.R
      (λ _. (
        s,
        upd me i (to (me i) (looked f sl (s.w i))),
        local_sim n c val b s me i z _ _ _ _ (upd_own b.stamp (suc i)) (r_look_inv n c s me i z.inv f sl e)
            (trying_more n cells _ m sl 0 0 1 1 refl refl t, nth_new cells _ t.R (t.len ∙ omega arith) ∙ z.to_reader i hi)
            (log_keep n val _ _ _ _ _ me _ z.log_ok i _ (rw e)),
        refl,
      ))
      (λ h. absurd (omega arith)) (λ h. absurd (omega arith)) (λ h _. absurd (omega arith)) (λ h _. absurd (omega arith)))

  -- The cell that announces number u, beside the reader's own.
  said : (u : ℕ) {x : Cell} → x ≡ cell_of c val u → announcement (b.stamp (suc i)) x ≡ back_of c (me i).o u
  said u eu = ap₂ announcement (z.own_r i hi) eu ∙ refl

  -- It announces.
  pub announce_sim : (m f sl u : ℕ) (cells : List Cell) → (me i).ph ≡ looked f sl u → (t : Trying n cells m sl 1 1) → nth cells t.R ≡ cell_of c val u
      → Goes (turn m cells)
  announce_sim m f sl u cells e t eu =
      to_attempt n (suc i) _ _ m cells Goes sl 1 1 t (omega arith)
      (attempt_ind n (suc i) _ _ m cells Goes 1 t.R (λ h. absurd (omega arith))
      (λ _. (
        s,
        upd me i (record { o = (me i).o; a = u; ph = announced f sl u }),
        back_sim n c val b s me i z hi low (record { o = (me i).o; a = u; ph = announced f sl u }) s.F _ _ _ _ (r_announce_inv n c s me i z.inv f sl u e)
            (record { M = t.M; R = t.R; attempt = t.attempt; m_is = omega (arith, t.m_is); len = t.len }, eu)
            (said u eu) (upd_own b.stamp (suc i) 0) (upd_own b.stamp (suc i) (suc i) ∙ z.own_r i hi)
            (λ j _. upd_own b.stamp (suc i) (suc j)) (log_keep n val _ _ _ _ _ me _ z.log_ok i _ (rw e)),
        refl,
      ))
      (λ h. absurd (omega arith)) (λ h _. absurd (omega arith)) (λ h _. absurd (omega arith)))

  -- The second read of the writer's cell.
  pub second_sim : (m f sl u : ℕ) (cells : List Cell) → (me i).ph ≡ announced f sl u → (t : Trying n cells m sl 2 1) → nth cells t.R ≡ cell_of c val u
      → Goes (turn m cells)
  second_sim m f sl u cells e t eu =
      to_attempt n (suc i) _ _ m cells Goes sl 2 1 t (omega arith)
      (attempt_ind n (suc i) _ _ m cells Goes 2 t.R (λ h. absurd (omega arith)) (λ h. absurd (omega arith))
      (λ _. (
        s,
        upd me i (to (me i) (second f sl u (s.w i) (peer i 0) (λ _. 0))),
        local_sim n c val b s me i z _ _ _ _ (upd_own b.stamp (suc i)) (r_second_inv n c s me i z.inv f sl u (peer i 0) (λ _. 0) (peer_first i) e)
            (record {
              q = 0;
              t = trying_more n cells _ m sl 2 1 3 2 refl refl t;
              low = omega arith;
              k_is = refl;
              u_is = nth_old cells _ t.R (omega (arith, t.len)) ∙ eu;
              z_is = nth_new cells _ (t.R + 1) t.len ∙ z.to_reader i hi;
              y_is = λ r h. absurd (omega arith);
            })
            (log_keep n val _ _ _ _ _ me _ z.log_ok i _ (rw e)),
        refl,
      ))
      (λ h _. absurd (omega arith)) (λ h _. absurd (omega arith)))

  -- The cell of another reader.
  pub cell_sim : (m f sl u w k : ℕ) (y : ℕ → ℕ) (cells : List Cell) → (me i).ph ≡ second f sl u w k y → (t : Among n c val i cells m sl u w k y)
      → suc t.q < n → Goes (turn m cells)
  cell_sim m f sl u w k y cells e t more =
      to_attempt n (suc i) _ _ m cells Goes sl (3 + q) (2 + q) t.t (omega arith)
      (attempt_ind n (suc i) _ _ m cells Goes (3 + q) R (λ h. absurd (omega arith)) (λ h. absurd (omega arith)) (λ h. absurd (omega arith))
      (λ _ _. (
        s,
        upd me i (to (me i) (second f sl u w (peer i (suc q)) (upd y k (s.x k i)))),
        local_sim n c val b s me i z _ _ _ _ (upd_own b.stamp (suc i))
            (r_cell_inv n c s me i z.inv f sl u w k (peer i (suc q)) y (λ j ne h. rw t.k_is (peer_next i q j ne h)) (rw t.k_is (peer_lt i q n more)) (rw t.k_is (peer_ne i q)) e)
            (record {
              q = suc q;
              t = trying_more n cells _ m sl (3 + q) (2 + q) (3 + suc q) (2 + suc q) (omega arith) (omega arith) t.t;
              low = more;
              k_is = refl;
              u_is = nth_old cells _ R (omega (arith, t.t.len)) ∙ t.u_is;
              z_is = nth_old cells _ (R + 1) (omega (arith, t.t.len)) ∙ t.z_is;
              y_is = λ r h. met r (eq_or r q) h;
            })
            (log_keep n val _ _ _ _ _ me _ z.log_ok i _ (rw e)),
        refl,
      ))
      (λ _ h. absurd (omega arith)))
    where
      q : ℕ
      q = t.q

      R : ℕ
      R = t.t.R

      from : view n b.table (other (suc i) (3 + q - 3)) (suc i) ≡ cell_of c val (s.x k i)
      from =
          let g : 3 + q - 3 ≡ q = omega arith in
          ap (λ (j : ℕ). view n b.table (other (suc i) j) (suc i)) g
          ∙ ap (λ (j : ℕ). view n b.table j (suc i)) (other_peer i q)
          ∙ z.between (peer i q) i (peer_lt i q n more) hi (λ h. peer_ne i q (sym h))
          ∙ ap (λ (j : ℕ). cell_of c val (s.x j i)) (sym t.k_is)

      met : (r : ℕ) → (r ≡ q) ⊎ (r ≢ q) → r < suc q
          → nth (cells ++ (view n b.table (other (suc i) (3 + q - 3)) (suc i) ∷ [])) (R + (2 + r)) ≡ cell_of c val (upd y k (s.x k i) (peer i r))
      met r (inl g) h =
          nth_new cells _ (R + (2 + r)) (t.t.len ∙ omega arith) ∙ from
          ∙ ap (cell_of c val) (sym (subst (λ (j : ℕ). upd y k (s.x k i) j ≡ s.x k i) (t.k_is ∙ ap (peer i) (sym g)) (upd_same y k (s.x k i))))
      met r (inr g) h =
          nth_old cells _ (R + (2 + r)) (omega (arith, t.t.len)) ∙ t.y_is r (omega arith)
          ∙ ap (cell_of c val) (sym (upd_other y k (s.x k i) (peer i r) (omega (arith, peer_up i r q (omega arith), t.k_is))))
