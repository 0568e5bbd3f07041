-- The reader's stores and its end keep the invariant.
use mathlib.Core.Path.{◌≡◌, refl, sym, subst}
use mathlib.Core.Logic.{◌≢◌, ◌⊎◌, inl, inr}
use Prim.Native.Nat.{ℕ, ◌≤◌, ◌<◌, max, pred}
use native.Mathlib.Omega.{arith}
use Rattle.words.specs.Update.{upd}
use Rattle.words.proofs.Laws.Update.{upd_elim, upd_same, upd_other}
use Rattle.numbered.proofs.Splits.{eq_or, lt_or}
use Rattle.numbered.proofs.Machine.{rest, storing, Reader, St, Reach, Storing, Ok, Inv}
use Rattle.numbered.proofs.Frame.{Later, ok_up, reach_up, reach_less, safe_up}
use Rattle.numbered.proofs.Attempt.{to}

module _ (n : ℕ) (c : ℕ → ℕ) where
  -- Reader i stores p to reader k.
  abbrev pub r_put : St → ℕ → ℕ → ℕ → St
  r_put s i k p = record { K = s.K; D = s.D; F = s.F; wk = s.wk; B = s.B; w = s.w; x = upd s.x i (upd (s.x i) k p) }

  module _ (s : St) (me : ℕ → Reader) (i : ℕ) (hi : i < n) (v : Inv n c s me) where
    module _ (f p m k k' : ℕ) (nxt : (j : ℕ) → j ≢ i → j < k' → j ≤ k) (up : k < k') (nk : k ≢ i) (hk : k < n) (e : (me i).ph ≡ storing f p m k) where
      b : Storing n c s i (me i).o (me i).a f p m k
      b = rw e at (v.rd i hi).phase

      -- What can be come by through a cell only grows.
      cell_up : (j r : ℕ) → j < n → s.x r j ≤ max (upd s.x i (upd (s.x i) k p) r j) (s.w j)
      cell_up j r hj = upd_elim (λ r z. s.x r j ≤ max (z j) (s.w j)) s.x i (upd (s.x i) k p)
          (upd_elim (λ j z. j < n → s.x i j ≤ max z (s.w j)) (s.x i) k p
          (λ _. omega (arith, b.after k hk nk (omega arith), b.own_low, b.least, b.most, v.D-w k hk)) (λ j _ _. omega arith) j hj)
          (λ r _. omega arith) r

      later : (j o a : ℕ) → j < n → Later n c s (r_put s i k p) j o a
      later j o a hj = record {
        K-up = omega arith;
        D-up = omega arith;
        F-up = omega arith;
        w_up = omega arith;
        cov_up = λ r _ _ q h. omega (arith, cell_up j r hj);
        kept_up = λ q _ k. record { fresh = k.fresh; saw = k.saw };
      }

      pub r_store_inv : Inv n c (r_put s i k p) (upd me i (to (me i) (storing f p m k')))
      r_store_inv = record {
        next = v.next;
        next2 = v.next2;
        D-pos = v.D-pos;
        D-K = v.D-K;
        K-D = v.K-D;
        D-F = v.D-F;
        F-K = v.F-K;
        D-w = v.D-w;
        w_K = v.w_K;
        writer = v.writer;
        rd = upd_elim (λ j z. j < n → Ok n c (r_put s i k p) j z) me i _
            (λ h. record {
              own_kept = λ g. let q = (v.rd i hi).own_kept g in record { fresh = q.fresh; saw = q.saw };
              reach = reach_up n c s (r_put s i k p) i 0 0 (later i 0 0 hi) s.F (v.rd i hi).reach;
              phase = record {
                own_low = b.own_low;
                floor = b.floor;
                least = b.least;
                most = b.most;
                hi = b.hi;
                num = b.num;
                safe = λ g. safe_up n c s (r_put s i k p) i (me i).o (me i).a (later i (me i).o (me i).a hi) (pred p) (b.safe g);
                reach = reach_up n c s (r_put s i k p) i 0 0 (later i 0 0 hi) p b.reach;
                before = λ j nj g. rw (upd_same s.x i) (upd_elim (λ j z. j < k' → j ≢ i → z ≡ p) (s.x i) k p (λ _ _. refl) (λ j ne g nj. b.before j nj (omega (arith, nxt j nj g))) j g nj);
                after = λ j hj nj g. rw (upd_same s.x i, upd_other (s.x i) k p j (omega arith)) (b.after j hj nj (omega arith));
              };
            })
            (λ j nj hj. ok_up n c s (r_put s i k p) j (me j) (later j (me j).o (me j).a hj)
            (λ r _. rw (upd_other s.x i (upd (s.x i) k p) j nj))
            (reach_up n c s (r_put s i k p) j 0 0 (later j 0 0 hj) s.F (v.rd j hj).reach) (v.rd j hj));
      }

    -- The read ends.
    abbrev pub r_done : ℕ → St
    r_done m = record { K = s.K; D = s.D; F = max s.F m; wk = s.wk; B = s.B; w = s.w; x = s.x }

    module _ (f p m : ℕ) (e : (me i).ph ≡ storing f p m n) where
      d : Storing n c s i (me i).o (me i).a f p m n
      d = rw e at (v.rd i hi).phase

      later_d : (j o a : ℕ) → Later n c s (r_done m) j o a
      later_d j o a = record {
        K-up = omega arith;
        D-up = omega arith;
        F-up = omega arith;
        w_up = omega arith;
        cov_up = λ r _ _ q h. h;
        kept_up = λ q _ k. record { fresh = k.fresh; saw = k.saw };
      }

      -- The result is within j's reach, if it is newer than all that ended.
      new : (j : ℕ) → j < n → (j ≡ i) ⊎ (j ≢ i) → s.F < m → Reach n c (r_done m) j m
      new j hj (inl q) h = subst (λ (z : ℕ). Reach n c (r_done m) z m) (sym q)
          (reach_less n c (r_done m) i p m (omega (arith, d.most)) (reach_up n c s (r_done m) i 0 0 (later_d i 0 0) p d.reach))
      new j hj (inr q) h = inr (i, record { range = hi; other = λ z. q (sym z); cov = omega (arith, d.before j q hj, d.most) })

      reach : (j : ℕ) → j < n → (s.F < m) ⊎ (m ≤ s.F) → Reach n c (r_done m) j (max s.F m)
      reach j hj (inl h) = reach_less n c (r_done m) j m _ (omega arith) (new j hj (eq_or j i) h)
      reach j hj (inr h) = reach_less n c (r_done m) j s.F _ (omega arith) (reach_up n c s (r_done m) j 0 0 (later_d j 0 0) s.F (v.rd j hj).reach)

      own_low : (1 ≤ p → m ≡ p) → (0 < p) ⊎ (p ≤ 0) → p ≤ max s.F m
      own_low g (inl h) = omega (arith, g h)
      own_low g (inr h) = omega arith

      pub r_end_inv : Inv n c (r_done m) (upd me i (record { o = p; a = 0; ph = rest }))
      r_end_inv = record {
        next = v.next;
        next2 = v.next2;
        D-pos = v.D-pos;
        D-K = v.D-K;
        K-D = v.K-D;
        D-F = omega arith;
        F-K = omega (arith, d.most, d.hi);
        D-w = v.D-w;
        w_K = v.w_K;
        writer = v.writer;
        rd = upd_elim (λ j z. j < n → Ok n c (r_done m) j z) me i _
            (λ h. record {
              own_kept = λ g. let q = (d.safe g).kept in record { fresh = q.fresh; saw = q.saw };
              reach = reach i hi (lt_or s.F m);
              phase = record { own_low = own_low d.num (lt_or 0 p); row = λ j hj nj. d.before j nj hj };
            })
            (λ j nj hj. ok_up n c s (r_done m) j (me j) (later_d j (me j).o (me j).a) (λ r _. refl) (reach j hj (lt_or s.F m)) (v.rd j hj));
      }

      -- What the log's order needs: the number returned lies between the floor and the newest number.
      pub r_end_order : (f ≤ m) × (m ≤ s.K)
      r_end_order = (d.least, omega (arith, d.most, d.hi))
