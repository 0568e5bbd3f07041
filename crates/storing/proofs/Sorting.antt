-- Question 16 in the papers' words.
use Prim.Native.Nat.{ℕ, ◌<◌, ◌-◌}
use native.Mathlib.Omega.{arith}
use native.Mathlib.Decide.{dec_lt}
use mathlib.Core.Path.{◌≡◌, sym, ap, ◌∙◌}
use mathlib.Core.Logic.{◌↔◌}
use mathlib.Core.List.{List}
use lib.Dec.{T}
use lib.ListN.{length, get_or}
use Rattle.storing.specs.Gather.{count_of}
use Rattle.storing.specs.Strips.{sorted, matched}
use Rattle.storing.specs.Meaning.{Match}
use Rattle.storing.proofs.Gathered.{strip_in, strip_past}
use Rattle.storing.proofs.Matching.{matched→}
use Rattle.storing.proofs.Risen.{Rises, gather_rises, strip_none, rest, rest_length, rest_at, →match}

module _ (bytes rows : List ℕ) (small : (i : ℕ) → i < length bytes → get_or bytes i 0 < 256) where
  count_sorted : (p : ℕ) → count_of p bytes ≡ count_of p (sorted bytes)
  unfolding sorted
  count_sorted p = elim (dec_lt p 256) [
    | yes a ↦ ap length (sym (strip_in (λ b. b) p 256 bytes a))
    | no a ↦ ap length (strip_none p bytes (λ i b. omega (arith, small i b)) ∙ sym (strip_past (λ b. b) p 256 bytes (omega arith)))
  ]

  match→ : T (matched bytes rows) → Match bytes rows
  unfolding rest sorted
  match→ t =
      let M = matched→ bytes rows t in
      let r : Rises (rest bytes rows) = rw (← M.processors) (gather_rises 256 bytes) in
      record {
        number = M.number;
        rising = λ i j a c d.
            rw (← rest_at bytes rows (i - 1) i (omega arith), ← rest_at bytes rows (j - 1) j (omega arith))
            (r (i - 1) (j - 1) (omega arith) (omega (arith, rest_length bytes rows)));
        as_often = λ p. count_sorted p ∙ ap (count_of p) M.processors;
      }

  pub match_if : T (matched bytes rows) ↔ Match bytes rows
  match_if = (match→, →match bytes rows)
