-- The machine whose tickets are the numbers themselves: no two writes have the same, and the writer need not read the readers' cells.
-- A read looks at the other readers and then at the writer, and takes the largest number. It is the machine's attempt with the first two
-- reads of the writer's cell, and what it announces, made at its begin; its number is announced when the result is taken.
use mathlib.Core.Path.{◌≡◌, refl}
use mathlib.Core.Logic.{◌≢◌, ◌⊎◌, inl, inr}
use Prim.Native.Nat.{ℕ, suc, ◌≤◌, ◌<◌, pred}
use native.Mathlib.Omega.{arith}
use Rattle.words.specs.Update.{upd}
use Rattle.numbered.proofs.Machine.{rest, second, storing, cur, prv, Reader, St, Kept, Reach, Hope, Met, Second, Idle, Inv}
use Rattle.numbered.proofs.Writer.{w_ticket, w_new_inv}
use Rattle.numbered.proofs.Attempt.{local, hope_start}

abbrev pub itself : ℕ → ℕ
itself k = k

module _ (n : ℕ) (s : St) (me : ℕ → Reader) (quiet : s.wk ≡ 0) (v : Inv n itself s me) where
  kept : (i q : ℕ) → Kept n itself s i q
  kept i q = record { fresh = λ m a b. omega arith; saw = λ h. absurd (omega arith) }

  -- A write gets the next number as it begins.
  pub w_number_inv : s.K ≡ s.D → Inv n itself (w_ticket n itself s) me
  w_number_inv e =
      let prv : suc s.K ≢ pred s.K = omega arith in
      w_new_inv n itself s me v e (omega arith) prv (λ i q _ h _. omega arith)

  module _ (i : ℕ) where
    -- where a read of reader i stands, when it has looked at the readers below k and found y
    abbrev pub scanning : ℕ → ℕ → ℕ → (ℕ → ℕ) → Reader
    scanning f u k y = record { o = (me i).o; a = u; ph = second f 1 u u k y }

    -- A read begins. k: the first other reader.
    pub r_scan_inv : (k : ℕ) (y : ℕ → ℕ) → ((j : ℕ) → j ≢ i → k ≤ j) → (me i).ph ≡ rest → Inv n itself s (upd me i (scanning s.F (s.w i) k y))
    r_scan_inv k y low e = local n itself s me i _ v λ h.
        let b : Idle n itself s i (me i).o = rw e at (v.rd i h).phase in
        let d : s.D ≤ s.w i = v.D-w i h in
        record {
          own_kept = λ _. kept i _;
          reach = (v.rd i h).reach;
          phase = record {
            floor = omega arith;
            own_low = b.own_low;
            row = b.row;
            hope = hope_start n itself s me i v s.F k y low (v.rd i h).reach;
            near = omega arith;
            pos = omega arith;
            rise = omega arith;
            rise2 = omega arith;
            same = λ _ _. record {
              cur_safe = record { bars = cur (omega arith) refl; kept = kept i _ };
              prv_safe = record { bars = prv (omega arith) refl; kept = kept i _ };
              met = λ j _ ne g. absurd (omega (arith, low j ne));
            };
          };
        }

    -- The largest: the writer's, if no reader's is larger, else a reader's that is.
    abbrev pub Largest : (ℕ → ℕ) → ℕ → Type 0
    Largest y p =
        ((p ≡ s.w i) × ((j : ℕ) → j < n → j ≢ i → y j ≤ s.w i))
        ⊎ ((j : ℕ) × (j < n) × (j ≢ i) × (p ≡ y j) × (s.w i < y j))

    -- k: the first other reader.
    module _ (f u k : ℕ) (y : ℕ → ℕ) (first : (j : ℕ) → j ≢ i → k ≤ j) (e : (me i).ph ≡ second f 1 u u n y) where
      at : i < n → Second n itself s i (me i).o (me i).a f 1 u u n y
      at h = rw e at (v.rd i h).phase

      met : i < n → (j : ℕ) → j < n → j ≢ i → Met n itself s i u j (y j)
      met h j hj nj = ((at h).same refl refl).met j hj nj hj

      -- "the largest stamp a read meets is the one it finds at the writer or one more"
      pub one_more : i < n → (j : ℕ) → j < n → j ≢ i → y j ≤ suc (s.w i)
      one_more h j hj nj = omega (arith, (met h j hj nj).low, v.D-w i h)

      -- It looks at the writer last, and takes the largest.
      pub r_largest_inv : (p : ℕ) → Largest y p → Inv n itself s (upd me i (record { o = (me i).o; a = p; ph = storing f p p k }))
      r_largest_inv p l = local n itself s me i _ v λ h. record {
        own_kept = λ _. kept i _;
        reach = (v.rd i h).reach;
        phase = record {
          own_low = (at h).own_low;
          floor = (at h).floor;
          least = least h l (at h).hope;
          most = omega arith;
          hi = most h l;
          num = λ _. refl;
          safe = λ g. record { bars = prv g refl; kept = kept i _ };
          reach = reach h l;
          before = λ j nj g. absurd (omega (arith, first j nj));
          after = λ j hj nj _. (at h).row j hj nj;
        };
      }
        where
          least : i < n → Largest y p → Hope n itself s i f n y → f ≤ p
          least h (inl (q, a)) (inl g) = omega arith
          least h (inl (q, a)) (inr (j, r, g)) = omega (arith, g r.range, a j r.range r.other)
          least h (inr (j, hj, nj, q, g)) o = omega (arith, (at h).floor, v.D-w i h)

          most : i < n → Largest y p → p ≤ s.K
          most h (inl (q, a)) = omega (arith, v.w_K i)
          most h (inr (j, hj, nj, q, g)) = omega (arith, (met h j hj nj).low)

          reach : i < n → Largest y p → Reach n itself s i p
          reach h (inl (q, a)) = inl (omega arith)
          reach h (inr (j, hj, nj, q, g)) = inr (j, record { range = hj; other = nj; cov = omega (arith, (met h j hj nj).cov) })
