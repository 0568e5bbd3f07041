-- Where strips belong to bytes, and how long each strip then is.
use Prim.Native.Nat.{ℕ, ◌≤◌, ◌<◌, ◌+◌}
use mathlib.Core.Path.{◌≡◌, sym, ap, ◌∙◌}
use mathlib.Core.List.{List, map}
use lib.Dec.{T, eqb, eqb→eq}
use lib.ListN.{length, drop, length-map}
use Rattle.words.proofs.Laws.Choice.{T-left, T-right}
use Rattle.words.proofs.Laws.Same.{same→}
use Rattle.history.specs.Rows.{processor_of}
use Rattle.storing.specs.Gather.{strip, gather}
use Rattle.storing.specs.Strips.{sorted, matched}
use Rattle.storing.proofs.Gathered.{strip_in, gather_gather}
use Rattle.storing.proofs.Onward.{strip_count, map_gather}

-- the strips belong to the bytes
pub record Matched (bytes rows : List ℕ) : Type 0 where
  pub number : length rows ≡ length bytes + 1
  pub processors : sorted bytes ≡ map processor_of (drop 1 rows)

pub matched→ : (bytes rows : List ℕ) → T (matched bytes rows) → Matched bytes rows
unfolding matched
matched→ bytes rows t = record {
  number = eqb→eq _ _ (T-left (eqb (length rows) (length bytes + 1)) _ t);
  processors = same→ _ _ (T-right (eqb (length rows) (length bytes + 1)) _ t);
}

module _ (bytes rows : List ℕ) (M : Matched bytes rows) where
  pub strip_size : (p : ℕ) → p < 256 → length (strip processor_of p (drop 1 rows)) ≡ length (strip (λ b. b) p bytes)
  unfolding sorted
  strip_size p a =
      strip_count processor_of p (drop 1 rows)
      ∙ ap (λ (l : List ℕ). length (strip (λ b. b) p l)) (sym M.processors)
      ∙ ap length (strip_in (λ b. b) p 256 bytes a)

  pub gather_size : (p : ℕ) → p ≤ 256 → length (gather processor_of p (drop 1 rows)) ≡ length (gather (λ b. b) p bytes)
  unfolding sorted
  gather_size p a =
      sym (length-map (gather processor_of p (drop 1 rows)) processor_of)
      ∙ ap length (map_gather processor_of p (drop 1 rows) ∙ ap (gather (λ b. b) p) (sym M.processors) ∙ gather_gather (λ b. b) p 256 bytes a)
