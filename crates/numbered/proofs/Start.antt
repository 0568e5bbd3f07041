-- The fresh register meets the invariant.
use mathlib.Core.Path.{◌≡◌, refl}
use mathlib.Core.Logic.{◌≢◌, inl}
use mathlib.Core.List.{[]}
use Prim.Native.Nat.{ℕ}
use native.Mathlib.Omega.{arith}
use Rattle.numbered.proofs.Machine.{rest, Reader, St, Inv}

abbrev pub fresh_st : St
fresh_st = record { K = 1; D = 1; F = 1; wk = 0; B = []; w = λ _. 1; x = λ _ _. 0 }

abbrev pub fresh_me : ℕ → Reader
fresh_me i = record { o = 0; a = 0; ph = rest }

pub start_inv : (n : ℕ) (c : ℕ → ℕ) → c 1 ≢ c 0 → Inv n c fresh_st fresh_me
start_inv n c ne = record {
  next = λ k h. let g : k ≡ 0 = omega arith in rw g ne;
  next2 = λ k h. absurd (omega arith);
  D-pos = omega arith;
  D-K = omega arith;
  K-D = omega arith;
  D-F = omega arith;
  F-K = omega arith;
  D-w = λ i _. omega arith;
  w_K = λ i. omega arith;
  writer = λ h. absurd (omega arith);
  rd = λ i _. record { own_kept = λ h. absurd (omega arith); reach = inl (omega arith); phase = record { own_low = omega arith; row = λ j _ _. refl } };
}
