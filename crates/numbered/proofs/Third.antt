-- The third read of the writer's cell keeps the invariant.
use mathlib.Core.Path.{◌≡◌, refl, sym, ap}
use mathlib.Core.Logic.{◌≢◌, ◌⊎◌, inl, inr}
use Prim.Native.Nat.{ℕ, suc, ◌≤◌, ◌<◌, pred}
use native.Mathlib.Omega.{arith}
use Rattle.words.specs.Update.{upd}
use Rattle.numbered.proofs.Splits.{eq_or, lt_or}
use Rattle.numbered.proofs.Machine.{begun, second, storing, Reader, St, Kept, Hope, Same, Second, Inv}
use Rattle.numbered.proofs.Attempt.{to, phased}

module _ (n : ℕ) (c : ℕ → ℕ) (s : St) (me : ℕ → Reader) (i : ℕ) (v : Inv n c s me) where
  -- Where the writer's cell shows the ticket of a kept write, it shows that write.
  still : (z : ℕ) → Kept n c s i z → z ≤ s.w i → c z ≡ c (s.w i) → (z < s.w i) ⊎ (s.w i ≤ z) → s.w i ≡ z
  still z k h e (inl g) = absurd (k.fresh (s.w i) g (v.w_K i) (sym e))
  still z k h e (inr g) = omega arith

  -- k: the first other reader.
  module _ (f sl u z k : ℕ) (y : ℕ → ℕ) (first : (j : ℕ) → j ≢ i → k ≤ j) (e : (me i).ph ≡ second f sl u z n y) where
    at : i < n → Second n c s i (me i).o (me i).a f sl u z n y
    at h = rw e at (v.rd i h).phase

    -- All three reads of the writer's cell have equal stamps.
    module _ (e1 : c u ≡ c z) (e2 : c (pred u) ≡ c (pred z)) (e3 : c z ≡ c (s.w i)) where
      same : i < n → Same n c s i (me i).o (me i).a z n y
      same h = (at h).same e1 e2

      pub here : i < n → s.w i ≡ z
      here h = still z (same h).cur_safe.kept (at h).rise2 e3 (lt_or z (s.w i))

      -- A cell of another reader whose write follows the one read: its number is the result.
      pub r_third_match_inv : (j : ℕ) → j < n → j ≢ i → 1 ≤ y j → c (pred (y j)) ≡ c (s.w i) → Inv n c s (upd me i (to (me i) (storing f (y j) (y j) k)))
      r_third_match_inv j hj nj pos ej = phased n c s me i _ v λ h.
          let b = at h in
          let m = same h in
          let t = m.met j hj nj hj in
          let w : s.w i ≡ z = here h in
          let l : suc z ≤ y j = t.late pos (cc) in
          let d : s.D ≤ s.w i = v.D-w i h in
          let g : pred (y j) ≡ z = omega (arith, t.low) in
          record {
            own_low = b.own_low;
            floor = b.floor;
            least = omega arith;
            most = omega arith;
            hi = t.low;
            num = λ _. refl;
            safe = λ _. rw g m.cur_safe;
            reach = inr (j, record { range = hj; other = nj; cov = t.cov });
            before = λ k nk g. absurd (omega (arith, first k nk));
            after = λ k hk nk _. b.row k hk nk;
          }

      -- No such cell: the number read is the result.
      pub r_third_none_inv : ((j : ℕ) → j < n → j ≢ i → 1 ≤ y j → c (pred (y j)) ≢ c (s.w i)) → Inv n c s (upd me i (to (me i) (storing f z z k)))
      r_third_none_inv none = phased n c s me i _ v λ h.
          let b = at h in
          let m = same h in
          let w : s.w i ≡ z = here h in
          record {
            own_low = b.own_low;
            floor = b.floor;
            least = least h w b.hope;
            most = omega arith;
            hi = omega (arith, v.w_K i);
            num = λ _. refl;
            safe = λ _. m.prv_safe;
            reach = inl (omega arith);
            before = λ k nk g. absurd (omega (arith, first k nk));
            after = λ k hk nk _. b.row k hk nk;
          }
        where
          not_next : (j : ℕ) → i < n → s.w i ≡ z → j < n → j ≢ i → (y j ≡ suc z) ⊎ (y j ≢ suc z) → y j ≤ z
          not_next j h w hj nj (inl g) =
              let g' : pred (y j) ≡ z = omega arith in
              absurd (none j hj nj (omega arith) (rw (g', w) refl))
          not_next j h w hj nj (inr g) = omega (arith, ((same h).met j hj nj hj).low, v.D-w i h)

          least : i < n → s.w i ≡ z → Hope n c s i f n y → f ≤ z
          least h w (inl g) = omega arith
          least h w (inr (j, r, g)) = omega (arith, g r.range, not_next j h w r.range r.other (eq_or (y j) (suc z)))

    -- Not all equal.
    module _ (differ : c u ≡ c z → c (pred u) ≡ c (pred z) → c z ≡ c (s.w i) → c (pred z) ≢ c (pred (s.w i))) where
      moved : u ≤ z → z ≤ s.w i → (u ≡ s.w i) ⊎ (u ≢ s.w i) → suc u ≤ s.w i
      moved a b (inl g) =
          let p : u ≡ z = omega arith in
          let q : z ≡ s.w i = omega arith in
          absurd (differ (ap c p) (ap (λ t. c (pred t)) p) (ap c q) (ap (λ t. c (pred t)) q))
      moved a b (inr g) = omega arith

      -- In the first attempt: a second one.
      pub r_third_again_inv : sl ≡ 1 → Inv n c s (upd me i (to (me i) (begun f 0)))
      r_third_again_inv es = phased n c s me i _ v λ h.
          let b = at h in
          let m : suc u ≤ s.w i = moved b.rise b.rise2 (eq_or u (s.w i)) in
          record { floor = b.floor; own_low = b.own_low; row = b.row; hope = inl (omega (arith, b.near)); near = omega (arith, b.near) }

      -- In the second attempt: the read fails.
      pub r_third_fail_inv : sl ≡ 0 → Inv n c s (upd me i (to (me i) (storing f 0 u k)))
      r_third_fail_inv es = phased n c s me i _ v λ h.
          let b = at h in
          let m : suc u ≤ s.w i = moved b.rise b.rise2 (eq_or u (s.w i)) in
          record {
            own_low = b.own_low;
            floor = b.floor;
            least = omega (arith, b.near);
            most = omega (arith, v.w_K i);
            hi = omega arith;
            num = λ g. absurd (omega arith);
            safe = λ g. absurd (omega arith);
            reach = inl (omega arith);
            before = λ k nk g. absurd (omega (arith, first k nk));
            after = λ k hk nk _. b.row k hk nk;
          }
