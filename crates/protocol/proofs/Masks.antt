-- A ticket's own set has that ticket alone.
use Prim.Native.Nat.{ℕ, ◌^◌, ◌<◌}
use mathlib.Core.Path.{◌≡◌, refl, sym, subst}
use mathlib.Core.Bool.{Bool, true, false}
use native.Mathlib.Omega.{arith}
use native.Mathlib.Decide.{ℕ_discrete}
use native.Mathlib.Nat.{zero-div}
use lib.Dec.{ltb, eqb}
use borrow.Author.Tests.{ltb-false, eq-eqb, ne_eqb}
use Rattle.words.specs.Choice.{pick}
use Rattle.words.specs.Counting.{one}
use Rattle.words.proofs.Laws.Choice.{lt_ind}
use Rattle.protocol.specs.Tickets.{bit}
use Rattle.protocol.proofs.Tickets.{bit_same, bit_other}
use Rattle.protocol.proofs.Excluded.{mask}

pub mask_bit : (u t : ℕ) → t < 63 → bit (mask u) t ≡ one (eqb t u)
unfolding mask
mask_bit u t h = at (ltb u 63) refl
  where
    at : (b : Bool) → ltb u 63 ≡ b → bit (pick b (2 ^ u) 0) t ≡ one (eqb t u)
    at true e = elim (ℕ_discrete t u) [
      | yes q ↦ rw (eq-eqb t u q) (subst (λ (x : ℕ). bit (2 ^ x) t ≡ 1) q (bit_same t))
      | no q ↦ rw (ne_eqb t u q) (bit_other u t (λ z. q (sym z)))
    ]
    at false e = rw (ne_eqb t u (λ z. omega (arith, ltb-false u 63 e)), zero-div)

-- none, 63, is in none
pub none_mask : (u : ℕ) → bit (mask u) 63 ≡ 0
unfolding mask
none_mask u = lt_ind (λ x. bit x 63 ≡ 0) u 63 (2 ^ u) 0 (λ h. bit_other u 63 (omega arith)) (λ _. refl)
