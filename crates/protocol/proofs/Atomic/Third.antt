-- The third read of the writer's cell in the book, and what the attempt gives, are the numbered machine's.
use Prim.Native.Nat.{ℕ, suc, ◌+◌, ◌-◌, ◌≤◌, ◌<◌, pred}
use mathlib.Core.Path.{◌≡◌, refl, ◌∙◌, sym, ap, subst}
use mathlib.Core.Logic.{◌≢◌, inl, inr}
use mathlib.Core.Bool.{Bool, true, false}
use mathlib.Core.List.{List, [], ◌∷◌, ◌++◌}
use native.Mathlib.Omega.{arith}
use lib.ListN.{length}
use Rattle.words.specs.declared.cell.Cell.{Cell}
use Rattle.words.specs.Stamp.{none}
use Rattle.words.specs.Update.{upd}
use Rattle.words.proofs.Laws.Update.{upd_own}
use Rattle.words.proofs.Laws.Choice.{pick_no}
use Rattle.numbered.proofs.Machine.{Phase, begun, second, storing, Reader, St, Inv, Second}
use Rattle.numbered.proofs.Attempt.{to}
use Rattle.numbered.proofs.Third.{r_third_match_inv, r_third_none_inv, r_third_again_inv, r_third_fail_inv, here}
use Rattle.numbered.proofs.Log.{floor_of, log_keep}
use Rattle.numbered.proofs.Peers.{peer, peer_ne, peer_lt, peer_first, peer_last, peer_rank}
use Rattle.common.specs.Book.{open_with}
use Rattle.protocol.specs.Table.{view}
use Rattle.protocol.specs.Reference.{Model, Turn, nth, agree, Result, result_of, shown}
use Rattle.protocol.proofs.Seen.{nth_old, nth_new}
use Rattle.protocol.proofs.Atomic.Cells.{Low, stamp_of, value_of, cell_of, value_is, cur_same, prev_same, stamp_same, stamp_cur, prev_of, written, shown_of}
use Rattle.protocol.proofs.Atomic.Sim.{Attempt, Trying, Among, Outcome, ReadSim, Sim}
use Rattle.protocol.proofs.Atomic.Turns.{first_ind, agree_same, agree_not, found, result_found, trying_more, to_attempt, attempt_ind}
use Rattle.protocol.proofs.Atomic.Frames.{local_sim}
use Rattle.protocol.proofs.Atomic.Attempts.{Goes, turn}

module _ (n : ℕ) (c val : ℕ → ℕ) (low : Low c val) (b : Model) (s : St) (me : ℕ → Reader) (i : ℕ) (hi : i < n)
    (z : Sim n c val b s me) where
  abbrev Next : Turn → Type 0
  Next = Goes n c val low b s me i hi z

  -- cells: with the third. u, w: the first and the second.
  module _ (f sl u w M R m : ℕ) (y : ℕ → ℕ) (cells : List Cell) (a : Attempt n cells sl M R) (u_is : nth cells R ≡ cell_of c val u)
      (z_is : nth cells (R + 1) ≡ cell_of c val w) (t-is : nth cells (R + (n + 1)) ≡ cell_of c val (s.w i))
      (y_is : (r : ℕ) → suc r < n → nth cells (R + (2 + r)) ≡ cell_of c val (y (peer i r))) (m_is : m ≡ M + (n + 3)) (len : length cells ≡ R + (n + 2))
      (e : (me i).ph ≡ second f sl u w n y) where
    sec : Second n c s i (me i).o (me i).a f sl u w n y
    sec = rw e at (z.inv.rd i hi).phase

    u_pos : 1 ≤ u
    u_pos = sec.pos

    z_pos : 1 ≤ w
    z_pos = omega (arith, sec.pos, sec.rise)

    w_pos : 1 ≤ s.w i
    w_pos = omega (arith, z.inv.D-w i hi, z.inv.D-pos)

    stamp_is : (x : Cell) (p : ℕ) → x ≡ cell_of c val p → x.stamp ≡ stamp_of c p
    stamp_is x p e = ap (λ (k : Cell). k.stamp) e

    -- the phase behind it
    abbrev After : Type 0
    After = (ph : Phase) × Inv n c s (upd me i (to (me i) ph)) × ReadSim n c val i (open_with 0 m cells) ph × (floor_of ph ≡ suc f)

    -- a cell of a write that may be the result
    Good : Cell → Type 0
    Good x = (p : ℕ) × Inv n c s (upd me i (to (me i) (storing f p p (peer i 0)))) × (x ≡ cell_of c val p) × (1 ≤ p)

    module _ (sm : agree n cells R ≡ true) where
      u_z : stamp_of c u ≡ stamp_of c w
      u_z = sym (stamp_is _ u u_is) ∙ (agree_same n cells R sm).0 ∙ stamp_is _ w z_is

      z_t : stamp_of c w ≡ stamp_of c (s.w i)
      z_t = sym u_z ∙ sym (stamp_is _ u u_is) ∙ (agree_same n cells R sm).1 ∙ stamp_is _ (s.w i) t-is

      e1 : c u ≡ c w
      e1 = cur_same c u w u_pos z_pos u_z

      e2 : c (pred u) ≡ c (pred w)
      e2 = prev_same c u w u_pos z_pos u_z

      e3 : c w ≡ c (s.w i)
      e3 = cur_same c w (s.w i) z_pos w_pos z_t

      t_cur : (nth cells (R + (n + 1))).stamp.cur ≡ c (s.w i)
      t_cur = ap (λ (k : Cell). k.stamp.cur) t-is ∙ stamp_cur c (s.w i) w_pos

      good : Good (found n cells R)
      unfolding Good
      good =
          first_ind Good cells _ _ (R + 2) (n - 1)
          (λ q lo hi' g.
          let r : ℕ = q - (R + 2) in
          let q_is : R + (2 + r) ≡ q = omega arith in
          let x_is : nth cells q ≡ cell_of c val (y (peer i r)) = subst (λ (k : ℕ). nth cells k ≡ cell_of c val (y (peer i r))) q_is (y_is r (omega arith)) in
          let pos : 1 ≤ y (peer i r) = written c val low _ _ _ x_is (g ∙ t_cur) in (
            y (peer i r),
            r_third_match_inv n c s me i z.inv f sl u w (peer i 0) y (peer_first i) e e1 e2 e3 (peer i r) (peer_lt i r n (omega arith)) (peer_ne i r) pos
                (sym (prev_of c val _ _ x_is pos) ∙ g ∙ t_cur),
            x_is,
            pos,
          ))
          (λ none.
          let same : s.w i ≡ w = here n c s me i z.inv f sl u w (peer i 0) y (peer_first i) e e1 e2 e3 hi in (
            w,
            r_third_none_inv n c s me i z.inv f sl u w (peer i 0) y (peer_first i) e e1 e2 e3
                (λ j hj nj pos g.
                let o = peer_rank i n j hi hj nj in
                let x_is : nth cells (R + (2 + o.0)) ≡ cell_of c val (y j) = y_is o.0 o.1 ∙ ap (λ (k : ℕ). cell_of c val (y k)) o.2 in
                none (R + (2 + o.0)) (omega arith) (omega (arith, o.1)) (prev_of c val _ _ x_is pos ∙ g ∙ sym t_cur)),
            t-is ∙ ap (cell_of c val) same,
            z_pos,
          ))

      after_same : Good (found n cells R) → After
      unfolding Good
      after_same (p, v, x_is, pos) = (
        storing f p p (peer i 0),
        v,
        record {
          q = 0;
          M = M + (n + 3);
          x = result_of n cells R;
          low = omega arith;
          k_is = refl;
          m_is = omega arith;
          out = out a;
          value_is = ap (λ (k : Result). k.value) is ∙ value_is c val p pos;
          stamp_is = ap (λ (k : Result). k.stamp) is;
          shown_is = ap shown is ∙ shown_of c val low p;
        },
        refl,
      )
        where
          is : result_of n cells R ≡ record { value = value_of c val p; stamp = stamp_of c p }
          is = result_found n cells R sm ∙ ap (λ (k : Cell). record { value = k.value; stamp = k.stamp }) x_is

          out : Attempt n cells sl M R → Outcome n cells (M + (n + 3)) (result_of n cells R)
          out (inl at) = inl (subst (λ (k : ℕ). agree n cells k ≡ true) at.2 sm, omega (arith, at.1), ap (result_of n cells) at.2)
          out (inr at) = inr (at.3, omega (arith, at.1), ap (result_of n cells) at.2)

    module _ (df : agree n cells R ≡ false) where
      differ : c u ≡ c w → c (pred u) ≡ c (pred w) → c w ≡ c (s.w i) → c (pred w) ≢ c (pred (s.w i))
      differ d1 d2 d3 d4 =
          let p : stamp_of c u ≡ stamp_of c w = stamp_same c u w u_pos z_pos d1 d2 in
          let q : stamp_of c w ≡ stamp_of c (s.w i) = stamp_same c w (s.w i) z_pos w_pos d3 d4 in
          agree_not n cells R df (stamp_is _ u u_is ∙ p ∙ sym (stamp_is _ w z_is)) (stamp_is _ u u_is ∙ p ∙ q ∙ sym (stamp_is _ (s.w i) t-is))

      after_differ : Attempt n cells sl M R → After
      unfolding result_of
      after_differ (inl at) = (
        begun f 0,
        r_third_again_inv n c s me i z.inv f sl u w (peer i 0) y (peer_first i) e differ at.0,
        record {
          M = n + 3;
          R = n + 2;
          attempt = inr (refl, refl, refl, subst (λ (k : ℕ). agree n cells k ≡ false) at.2 df);
          m_is = omega (arith, at.1);
          len = omega (arith, at.2);
        },
        refl,
      )
      after_differ (inr at) = (
        storing f 0 u (peer i 0),
        r_third_fail_inv n c s me i z.inv f sl u w (peer i 0) y (peer_first i) e differ at.0,
        record {
          q = 0;
          M = M + (n + 3);
          x = result_of n cells R;
          low = omega arith;
          k_is = refl;
          m_is = omega arith;
          out = inr (at.3, omega (arith, at.1), ap (result_of n cells) at.2);
          value_is = ap (λ (k : Result). k.value) is ∙ value_is c val u u_pos;
          stamp_is = ap (λ (k : Result). k.stamp) is;
          shown_is = ap shown is;
        },
        refl,
      )
        where
          -- the value is the first look's, of number u, and the stamp none
          is : result_of n cells R ≡ record { value = value_of c val u; stamp = none }
          is = pick_no (agree n cells R) _ _ df ∙ ap (λ (k : Cell). record { value = k.value; stamp = none }) u_is

    after : (t : Bool) → agree n cells R ≡ t → After
    after true g = after_same g (good g)
    after false g = after_differ g a

    third : Next (record { op = open_with 0 m cells; stamp = b.stamp (suc i); table = b.table; value = 0 })
    third = go (after (agree n cells R) refl)
      where
        go : After → Next (record { op = open_with 0 m cells; stamp = b.stamp (suc i); table = b.table; value = 0 })
        go (ph, v, r, fl) = (
          s,
          upd me i (to (me i) ph),
          local_sim n c val b s me i z (open_with 0 m cells) ph b.rows _ (upd_own b.stamp (suc i)) v r
              (log_keep n val _ _ _ _ _ me _ z.log_ok i (to (me i) ph) (fl ∙ rw e)),
          refl,
        )

  pub third_sim : (m f sl u w k : ℕ) (y : ℕ → ℕ) (cells : List Cell) → (me i).ph ≡ second f sl u w k y → (t : Among n c val i cells m sl u w k y)
      → n ≡ suc t.q → Next (turn n c val low b s me i hi z m cells)
  third_sim m f sl u w k y cells e t last =
      to_attempt n (suc i) _ _ m cells Next sl (3 + t.q) (2 + t.q) t.t (omega arith)
      (attempt_ind n (suc i) _ _ m cells Next (3 + t.q) t.t.R (λ h. absurd (omega arith)) (λ h. absurd (omega arith)) (λ h. absurd (omega arith))
      (λ _ h. absurd (omega arith))
      (λ _ _.
      let cells' : List Cell = cells ++ (view n b.table 0 (suc i) ∷ []) in
      let t' : Trying n cells' (m + 1) sl (n + 3) (n + 2) =
      trying_more n cells _ m sl (3 + t.q) (2 + t.q) (n + 3) (n + 2) (omega arith) (omega arith) t.t in
      third f sl u w t.t.M t.t.R (m + 1) y cells' t'.attempt
      (nth_old cells _ t.t.R (omega (arith, t.t.len)) ∙ t.u_is) (nth_old cells _ (t.t.R + 1) (omega (arith, t.t.len)) ∙ t.z_is)
      (nth_new cells _ (t.t.R + (n + 1)) (t.t.len ∙ omega arith) ∙ z.to_reader i hi)
      (λ r h. nth_old cells _ (t.t.R + (2 + r)) (omega (arith, t.t.len)) ∙ t.y_is r (omega arith)) t'.m_is t'.len
      (e ∙ ap (λ (k : ℕ). second f sl u w k y) (t.k_is ∙ peer_last i t.q n hi last))))
