-- "Putting the strips back must give the log."
use Prim.Native.Nat.{ℕ, suc, zero, ◌≤◌, ◌<◌}
use native.Mathlib.Omega.{arith}
use mathlib.Core.Path.{◌≡◌, refl, sym, ap, ◌∙◌}
use mathlib.Core.Logic.{◌≢◌}
use native.Mathlib.Decide.{ℕ_discrete}
use mathlib.Core.List.{List, [], ◌∷◌, ◌++◌, append-nil, map}
use lib.ListN.{length, get_or, take, drop, length-map, take-append-drop}
use lib.Seq.{ext_get_or, take_all, take-length, take-suc}
use Rattle.history.specs.Rows.{processor_of}
use Rattle.storing.specs.Gather.{strip, gather}
use Rattle.storing.specs.Strips.{strip_bytes, strip_rows, back_at, back_to, log_of}
use Rattle.storing.proofs.Gathered.{gather_same, strip_append, strip_hit, strip_miss}
use Rattle.storing.proofs.Onward.{gather_nil}
use Rattle.storing.proofs.Counts.{count_hit, count_miss, count_less}
use Rattle.storing.proofs.OwnRow.{own_row}
use Rattle.storing.proofs.Back.{processor_at_lem, length_back, back_at_lem, log_head, log_rest, rest_gathered, back_processor}
use Rattle.storing.proofs.Matching.{Matched, strip_size}

-- any rows
pub log_back : (log : List ℕ) → log_of (strip_bytes log) (strip_rows log) ≡ log
unfolding log_of strip_bytes strip_rows back_to
log_back [] = rw (gather_nil processor_of 256)
log_back (h ∷ r) = ap (h ∷◌) (ext_get_or 0 (back_to (map processor_of r) (h ∷ gather processor_of 256 r) (length (map processor_of r))) r size each)
  where
    m : ℕ
    m = length (map processor_of r)

    size : length (back_to (map processor_of r) (h ∷ gather processor_of 256 r) m) ≡ length r
    size = length_back (map processor_of r) (h ∷ gather processor_of 256 r) m ∙ length-map r processor_of

    each : (i : ℕ) → i < length (back_to (map processor_of r) (h ∷ gather processor_of 256 r) m)
        → get_or (back_to (map processor_of r) (h ∷ gather processor_of 256 r) m) i 0 ≡ get_or r i 0
    each i a = back_at_lem (map processor_of r) (h ∷ gather processor_of 256 r) m i (omega (arith, size, length-map r processor_of)) ∙ own_row h r i (omega (arith, size))

-- Stored again, the strips that were put back.
module _ (bytes rows : List ℕ) (M : Matched bytes rows) (small : (k : ℕ) → k < length bytes → get_or bytes k 0 < 256) where
  back_strip : (p k : ℕ) → k ≤ length bytes
      → strip processor_of p (back_to bytes rows k) ≡ take (length (strip (λ b. b) p (take k bytes))) (strip processor_of p (drop 1 rows))
  unfolding back_to back_at strip
  back_strip p zero a = refl
  back_strip p (suc k) a =
      strip_append processor_of p (back_to bytes rows k) (back_at bytes rows k ∷ [])
      ∙ ap (◌++ strip processor_of p (back_at bytes rows k ∷ [])) (back_strip p k (omega arith))
      ∙ elim (ℕ_discrete (get_or bytes k 0) p) [ yes e ↦ hit e | no e ↦ miss e ]
    where
      c : ℕ
      c = length (strip (λ b. b) p (take k bytes))

      own : processor_of (back_at bytes rows k) ≡ get_or bytes k 0
      own = back_processor bytes rows M k (omega arith) (small k (omega arith))

      hit : get_or bytes k 0 ≡ p
          → take c (strip processor_of p (drop 1 rows)) ++ strip processor_of p (back_at bytes rows k ∷ [])
          ≡ take (length (strip (λ b. b) p (take (suc k) bytes))) (strip processor_of p (drop 1 rows))
      hit e =
          let l : c < length (strip processor_of p (drop 1 rows)) =
          rw (← e) (omega (arith, strip_size bytes rows M (get_or bytes k 0) (small k (omega arith)), count_less bytes k (omega arith))) in
          ap (take c (strip processor_of p (drop 1 rows)) ++◌)
          (strip_hit processor_of p (back_at bytes rows k) [] (own ∙ e) ∙ ap (λ (w : ℕ). w ∷ []) (rw (← e)))
          ∙ sym (take-suc (strip processor_of p (drop 1 rows)) c 0 l)
          ∙ ap (λ (n : ℕ). take n (strip processor_of p (drop 1 rows))) (sym (count_hit bytes p k (omega arith) e))

      miss : get_or bytes k 0 ≢ p
          → take c (strip processor_of p (drop 1 rows)) ++ strip processor_of p (back_at bytes rows k ∷ [])
          ≡ take (length (strip (λ b. b) p (take (suc k) bytes))) (strip processor_of p (drop 1 rows))
      miss e =
          ap (take c (strip processor_of p (drop 1 rows)) ++◌) (strip_miss processor_of p (back_at bytes rows k) [] (omega (arith, own)))
          ∙ append-nil (take c (strip processor_of p (drop 1 rows)))
          ∙ ap (λ (n : ℕ). take n (strip processor_of p (drop 1 rows))) (sym (count_miss bytes p k (omega arith) e))

  pub bytes_back : strip_bytes (log_of bytes rows) ≡ bytes
  unfolding strip_bytes
  bytes_back =
      ap (map processor_of) (log_rest bytes rows M)
      ∙ ext_get_or 0 (map processor_of (back_to bytes rows (length bytes))) bytes size
      (λ i a. processor_at_lem (back_to bytes rows (length bytes)) i
      ∙ ap processor_of (back_at_lem bytes rows (length bytes) i (omega (arith, size)))
      ∙ back_processor bytes rows M i (omega (arith, size)) (small i (omega (arith, size))))
    where
      size : length (map processor_of (back_to bytes rows (length bytes))) ≡ length bytes
      size = length-map (back_to bytes rows (length bytes)) processor_of ∙ length_back bytes rows (length bytes)

  pub strips_back : strip_rows (log_of bytes rows) ≡ rows
  unfolding strip_rows
  strips_back =
      ap (◌++ gather processor_of 256 (drop 1 (log_of bytes rows))) (log_head bytes rows M)
      ∙ ap (λ (l : List ℕ). take 1 rows ++ gather processor_of 256 l) (log_rest bytes rows M)
      ∙ ap (take 1 rows ++◌) (gather_same processor_of 256 (back_to bytes rows (length bytes)) (drop 1 rows) whole ∙ rest_gathered bytes rows M)
      ∙ take-append-drop 1 rows
    where
      whole : (p : ℕ) → p < 256 → strip processor_of p (back_to bytes rows (length bytes)) ≡ strip processor_of p (drop 1 rows)
      whole p a =
          back_strip p (length bytes) (omega arith)
          ∙ take_all (length (strip (λ b. b) p (take (length bytes) bytes))) (strip processor_of p (drop 1 rows)) (rw (take-length bytes) (omega (arith, strip_size bytes rows M p a)))
