-- The log that strips give, row by row.
use Prim.Native.Nat.{ℕ, suc, zero, ◌<◌, ◌+◌}
use native.Mathlib.Omega.{arith}
use native.Mathlib.Decide.{dec_lt}
use mathlib.Core.Path.{◌≡◌, refl, sym, ap, ◌∙◌}
use mathlib.Core.List.{List, [], ◌∷◌, map}
use lib.ListN.{length, get_or, take, drop, length-append, get_or-append, get_or-map}
use lib.Seq.{get_or_at, get_or-drop, get_or-take, take_at, drop_at, length-take-le}
use Rattle.history.specs.Rows.{processor_of}
use Rattle.storing.specs.Gather.{strip, gather}
use Rattle.storing.specs.Strips.{back_at, back_to, log_of, sorted}
use Rattle.storing.proofs.Counts.{count_less}
use Rattle.storing.proofs.Matching.{Matched, strip_size, gather_size}
use Rattle.storing.proofs.Gathered.{strip_key}
use Rattle.storing.proofs.Onward.{gather_at, gathered}

pub processor_small : (w : ℕ) → processor_of w < 256
processor_small w = omega arith

pub processor_at_lem : (l : List ℕ) (i : ℕ) → get_or (map processor_of l) i 0 ≡ processor_of (get_or l i 0)
processor_at_lem l i = get_or-map processor_of l i 0

module _ (bytes rows : List ℕ) where
  pub length_back : (k : ℕ) → length (back_to bytes rows k) ≡ k
  unfolding back_to
  length_back zero = refl
  length_back (suc k) = length-append (back_to bytes rows k) (back_at bytes rows k ∷ []) ∙ rw (length_back k) (omega arith)

  pub back_at_lem : (k i : ℕ) → i < k → get_or (back_to bytes rows k) i 0 ≡ back_at bytes rows i
  unfolding back_to
  back_at_lem zero i a = absurd (omega arith)
  back_at_lem (suc k) i a = elim (dec_lt i k) [
    | yes b ↦ get_or-append (back_to bytes rows k) (back_at bytes rows k ∷ []) 0 i (rw length_back b) ∙ back_at_lem k i b
    | no b ↦ let e : i ≡ k = omega arith in rw e (get_or_at (back_to bytes rows k) (back_at bytes rows k) [] 0 k (length_back k))
  ]

-- Where the strips belong to the bytes.
module _ (bytes rows : List ℕ) (M : Matched bytes rows) where
  pub rest_gathered : gather processor_of 256 (drop 1 rows) ≡ drop 1 rows
  unfolding sorted
  rest_gathered = gathered processor_of 256 (drop 1 rows) bytes (sym M.processors)

  first_length : length (take 1 rows) ≡ 1
  first_length = length-take-le 1 rows (omega (arith, M.number))

  -- the log that they give
  pub log_head : take 1 (log_of bytes rows) ≡ take 1 rows
  unfolding log_of
  log_head = take_at (take 1 rows) (back_to bytes rows (length bytes)) 1 first_length

  pub log_rest : drop 1 (log_of bytes rows) ≡ back_to bytes rows (length bytes)
  unfolding log_of
  log_rest = drop_at (take 1 rows) (back_to bytes rows (length bytes)) 1 first_length

  pub log_length : length (log_of bytes rows) ≡ length rows
  unfolding log_of
  log_length = rw (length-append, first_length, length_back) (omega (arith, M.number))

  pub log_first : get_or (log_of bytes rows) 0 0 ≡ get_or rows 0 0
  log_first = sym (get_or-take 1 (log_of bytes rows) 0 0 (omega arith)) ∙ ap (λ (l : List ℕ). get_or l 0 0) log_head ∙ get_or-take 1 rows 0 0 (omega arith)

  pub log_row : (k : ℕ) → k < length bytes → get_or (log_of bytes rows) (1 + k) 0 ≡ back_at bytes rows k
  log_row k a =
      sym (get_or-drop 1 (log_of bytes rows) k 0) ∙ ap (λ (l : List ℕ). get_or l k 0) log_rest ∙ back_at_lem bytes rows (length bytes) k a

  -- A strip stands behind those before it.
  pub strip_place : (p i : ℕ) → p < 256 → i < length (strip (λ b. b) p bytes)
      → get_or (strip processor_of p (drop 1 rows)) i 0 ≡ get_or rows (1 + (length (gather (λ b. b) p bytes) + i)) 0
  strip_place p i a b =
      sym (
      sym (get_or-drop 1 rows (length (gather (λ b. b) p bytes) + i) 0)
      ∙ ap (λ (l : List ℕ). get_or l (length (gather (λ b. b) p bytes) + i) 0) (sym rest_gathered)
      ∙ ap (λ (n : ℕ). get_or (gather processor_of 256 (drop 1 rows)) (n + i) 0) (sym (gather_size bytes rows M p (omega arith)))
      ∙ gather_at processor_of p 256 (drop 1 rows) i a (omega (arith, strip_size bytes rows M p a))
      )

  module _ (k : ℕ) (inside : k < length bytes) (small : get_or bytes k 0 < 256) where
    pub back_processor : processor_of (back_at bytes rows k) ≡ get_or bytes k 0
    unfolding back_at
    back_processor = strip_key processor_of (get_or bytes k 0) (drop 1 rows) (length (strip (λ b. b) (get_or bytes k 0) (take k bytes)))
        (omega (arith, strip_size bytes rows M (get_or bytes k 0) small, count_less bytes k inside))

    pub back_place : back_at bytes rows k ≡ get_or rows (1 + (length (gather (λ b. b) (get_or bytes k 0) bytes) + length (strip (λ b. b) (get_or bytes k 0) (take k bytes)))) 0
    unfolding back_at
    back_place = strip_place (get_or bytes k 0) (length (strip (λ b. b) (get_or bytes k 0) (take k bytes))) small (count_less bytes k inside)
