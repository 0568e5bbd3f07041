-- What a step leaves of the facts of a reader that did not take it.
use mathlib.Core.Path.{◌≡◌, refl, ◌∙◌}
use mathlib.Core.Logic.{◌≢◌, inl, inr}
use Prim.Native.Nat.{ℕ, ◌≤◌, ◌<◌, max, pred}
use native.Mathlib.Omega.{arith}
use Rattle.numbered.proofs.Machine.{Phase, rest, begun, looked, announced, second, storing, Reader, St, Bars, own, Kept, Safe, Via, Reach, Hope, Row, Met, Same, Begun, Looked, Second, Storing, PhOk, Ok}

module _ (n : ℕ) (c : ℕ → ℕ) where
  pub record Later (s t : St) (i o a : ℕ) : Type 0 where
    pub K-up : s.K ≤ t.K
    pub D-up : s.D ≤ t.D
    pub F-up : s.F ≤ t.F
    pub w_up : s.w i ≤ t.w i
    pub cov_up : (j : ℕ) → j < n → j ≢ i → (p : ℕ) → p ≤ max (s.x j i) (s.w i) → p ≤ max (t.x j i) (t.w i)
    pub kept_up : (q : ℕ) → Bars n c o a (c q) → Kept n c s i q → Kept n c t i q

  -- Reader i's own cells are as before.
  abbrev pub Still : St → St → ℕ → Type 0
  Still s t i = (j : ℕ) → j ≢ i → t.x i j ≡ s.x i j

  module _ (s t : St) (i o a : ℕ) (l : Later s t i o a) where
    via_up : (p j : ℕ) → Via n c s i p j → Via n c t i p j
    via_up p j v = record { range = v.range; other = v.other; cov = l.cov_up j v.range v.other p v.cov }

    pub reach_up : (p : ℕ) → Reach n c s i p → Reach n c t i p
    reach_up p (inl h) = inl (omega arith)
    reach_up p (inr (j, v)) = inr (j, via_up p j v)

    hope_up : (p k : ℕ) (y : ℕ → ℕ) → Hope n c s i p k y → Hope n c t i p k y
    hope_up p k y (inl h) = inl (omega arith)
    hope_up p k y (inr (j, v, r)) = inr (j, via_up p j v, λ h. omega (arith, r h, l.w_up))

    pub safe_up : (q : ℕ) → Safe n c s i o a q → Safe n c t i o a q
    safe_up q f = record { bars = f.bars; kept = l.kept_up q f.bars f.kept }

    met_up : (v j p : ℕ) → j < n → j ≢ i → Met n c s i v j p → Met n c t i v j p
    met_up v j p h ne m = record { low = omega arith; cov = l.cov_up j h ne p m.cov; late = m.late }

    same_up : (v k : ℕ) (y : ℕ → ℕ) → Same n c s i o a v k y → Same n c t i o a v k y
    same_up v k y m = record {
      cur_safe = safe_up v m.cur_safe;
      prv_safe = safe_up (pred v) m.prv_safe;
      met = λ j h ne b. met_up v j (y j) h ne (m.met j h ne b);
    }

    module _ (st : Still s t i) where
      row_up : Row n c s i o → Row n c t i o
      row_up r j h ne = st j ne ∙ r j h ne

      begun_up : (f sl : ℕ) → Begun n c s i o f sl → Begun n c t i o f sl
      begun_up f sl b = record { floor = omega arith; own_low = b.own_low; row = row_up b.row; hope = reach_up f b.hope; near = omega arith }

      looked_up : (f sl u : ℕ) → Looked n c s i o f sl u → Looked n c t i o f sl u
      looked_up f sl u b = record {
        floor = omega arith;
        own_low = b.own_low;
        row = row_up b.row;
        hope = reach_up f b.hope;
        near = b.near;
        pos = b.pos;
        rise = omega arith;
      }

      second_up : (f sl u v k : ℕ) (y : ℕ → ℕ) → Second n c s i o a f sl u v k y → Second n c t i o a f sl u v k y
      second_up f sl u v k y b = record {
        floor = omega arith;
        own_low = b.own_low;
        row = row_up b.row;
        hope = hope_up f k y b.hope;
        near = b.near;
        pos = b.pos;
        rise = b.rise;
        rise2 = omega arith;
        same = λ e e'. same_up v k y (b.same e e');
      }

      storing_up : (f p m k : ℕ) → Storing n c s i o a f p m k → Storing n c t i o a f p m k
      storing_up f p m k b = record {
        own_low = b.own_low;
        floor = omega arith;
        least = b.least;
        most = omega arith;
        hi = omega arith;
        num = b.num;
        safe = λ h. safe_up (pred p) (b.safe h);
        reach = reach_up p b.reach;
        before = λ j ne h. st j ne ∙ b.before j ne h;
        after = λ j h ne g. st j ne ∙ b.after j h ne g;
      }

      phase_up : (ph : Phase) → PhOk n c s i o a ph → PhOk n c t i o a ph
      phase_up rest b = record { own_low = omega arith; row = row_up b.row }
      phase_up (begun f sl) b = begun_up f sl b
      phase_up (looked f sl u) b = looked_up f sl u b
      phase_up (announced f sl u) b = (b.0, looked_up f sl u b.1)
      phase_up (second f sl u v k y) b = second_up f sl u v k y b
      phase_up (storing f p m k) b = storing_up f p m k b

  pub reach_less : (s : St) (i p q : ℕ) → q ≤ p → Reach n c s i p → Reach n c s i q
  reach_less s i p q h (inl g) = inl (omega arith)
  reach_less s i p q h (inr (j, v)) = inr (j, record { range = v.range; other = v.other; cov = omega (arith, v.cov) })

  -- A reader's facts stay, if the newest number that ended reads returned is still within its reach.
  pub ok_up : (s t : St) (i : ℕ) (r : Reader) → Later s t i r.o r.a → Still s t i → Reach n c t i t.F → Ok n c s i r → Ok n c t i r
  ok_up s t i r l st reach k = record {
    own_kept = λ h. l.kept_up (pred r.o) (own h refl) (k.own_kept h);
    reach = reach;
    phase = phase_up s t i r.o r.a l st r.ph k.phase;
  }
