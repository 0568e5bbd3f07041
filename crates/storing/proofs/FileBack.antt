-- What `strips store` writes `strips restore` turns into the log, and how much either writes.
use Prim.Native.Nat.{ℕ, suc, zero, ◌≤◌, ◌<◌, ◌+◌, ◌*◌, ◌%◌, ◌^◌}
use native.Mathlib.Omega.{arith}
use native.Mathlib.Decide.{dec_lt}
use mathlib.Core.Path.{◌≡◌, refl, ap, ◌∙◌}
use mathlib.Core.Logic.{◌≢◌}
use mathlib.Core.Bool.{true, ◌&&◌}
use mathlib.Core.List.{List, [], ◌∷◌, ◌++◌}
use lib.Dec.{leb}
use lib.ListN.{length, get_or, drop, length-append, get_or-eq_default}
use lib.Seq.{take-append_seam, drop-append_seam}
use borrow.Author.Tests.{le-leb, eq-eqb}
use Rattle.words.proofs.Laws.Choice.{pick_ind, both, T→true}
use Rattle.logbytes.specs.Bytes.{rows_of, rows_in, bytes_of}
use Rattle.logbytes.proofs.Laws.{word_bytes, bytes_length, rows_bytes, bytes_rows, rows_some, rows_small}
use Rattle.history.specs.WellFormed.{well_formed}
use Rattle.judging.specs.Answer.{right_length}
use Rattle.judging.proofs.Asked.{right→}
use Rattle.storing.specs.Strips.{strip_bytes, strip_rows, log_of, matched}
use Rattle.storing.specs.Answer.{storing, restoring}
use Rattle.storing.specs.File.{file_of, count_in, bytes_in, rest_in, whole, Written, refused, written, rows_file, store_file, log_file, restore_file}
use Rattle.storing.proofs.RoundTrip.{log_back}
use Rattle.storing.proofs.Passes.{stored_matched}
use Rattle.storing.proofs.Placed.{in_strips, every_place}

-- The parts of a file.
module _ (bytes rows : List ℕ) where
  -- how long it is
  pub file_length : length (file_of bytes rows) ≡ 8 + length bytes + length rows * 8
  unfolding file_of
  file_length =
      length-append (bytes_of (length bytes ∷ [])) (bytes ++ bytes_of rows)
      ∙ omega (arith, bytes_length (length bytes ∷ []), length-append bytes (bytes_of rows), bytes_length rows)

  -- behind the count stand the bytes and the rows
  file_behind : drop 8 (file_of bytes rows) ≡ bytes ++ bytes_of rows
  unfolding file_of bytes_of
  file_behind = refl

  module _ (small : length bytes < 2 ^ 64) where
    -- the bytes' count
    pub file_count : count_in (file_of bytes rows) ≡ length bytes
    unfolding file_of bytes_of
    file_count = word_bytes (length bytes) [] small

    -- the bytes
    pub file_bytes : bytes_in (file_of bytes rows) ≡ bytes
    unfolding bytes_in
    file_bytes = rw (file_count, file_behind) (take-append_seam bytes (bytes_of rows))

    -- behind them the rows' bytes
    pub file_rest : rest_in (file_of bytes rows) ≡ bytes_of rows
    unfolding rest_in
    file_rest = rw (file_count, file_behind) (drop-append_seam bytes (bytes_of rows))

    -- all of that is there
    pub file_whole : whole (file_of bytes rows) ≡ true
    unfolding whole
    file_whole = rw (file_count, file_behind, file_rest) (
        both (leb 8 (length (file_of bytes rows))) _ (le-leb 8 (length (file_of bytes rows)) (omega (arith, file_length)))
        (both (leb (length bytes) (length (bytes ++ bytes_of rows))) _
        (le-leb (length bytes) (length (bytes ++ bytes_of rows)) (omega (arith, length-append bytes (bytes_of rows))))
        (eq-eqb (length (bytes_of rows) % 8) 0 (omega (arith, bytes_length rows)))))

  -- So restoring a file is restoring its bytes and rows.
  restore_parts : length (file_of bytes rows) ≤ 65536 → ((i : ℕ) → get_or rows i 0 < 2 ^ 64)
      → restore_file (file_of bytes rows) ≡ log_file bytes rows
  unfolding restore_file
  restore_parts few words =
      let small : length bytes < 2 ^ 64 = omega (arith, file_length) in
      rw (le-leb (length (file_of bytes rows)) 65536 few, file_whole small, file_rest small, file_bytes small, rows_bytes rows words)

-- What holds of the refusals, and of what is done where the tests pass, holds of the answer.
storing_ind : {A : Type 0} (P : A → Type 0) (log : List ℕ) (b r : ℕ) (refuse : ℕ → A) (done : A) → ((k : ℕ) → k ≢ 0 → P (refuse k))
    → (right_length (length log) ≡ true → well_formed log ≡ true → P done) → P (storing log b r refuse done)
unfolding storing
storing_ind P log b r refuse done f g = pick_ind P (right_length (length log)) _ _
    (λ e. pick_ind P (well_formed log) _ _
    (λ w. pick_ind P (leb (length log) (b + 1) && leb (length log) r) _ _ (λ _. g e w) (λ _. f 11 (omega arith)))
    (λ _. f 10 (omega arith)))
    (λ _. f 9 (omega arith))

restoring_ind : {A : Type 0} (P : A → Type 0) (bytes rows : List ℕ) (n : ℕ) (refuse : ℕ → A) (done : A) → ((k : ℕ) → P (refuse k))
    → (right_length (length (log_of bytes rows)) ≡ true → P done) → P (restoring bytes rows n refuse done)
unfolding restoring
restoring_ind P bytes rows n refuse done f g = pick_ind P (matched bytes rows) _ _
    (λ _. pick_ind P (right_length (length (log_of bytes rows))) _ _
    (λ e. pick_ind P (well_formed (log_of bytes rows)) _ _
    (λ _. pick_ind P (leb (length (log_of bytes rows)) n) _ _ (λ _. g e) (λ _. f 11))
    (λ _. f 10))
    (λ _. f 9))
    (λ _. f 16)

-- The rows of the strips are rows of the log.
strip_words : (log : List ℕ) → 1 ≤ length log → ((i : ℕ) → get_or log i 0 < 2 ^ 64) → (i : ℕ) → get_or (strip_rows log) i 0 < 2 ^ 64
strip_words log a f zero = omega (arith, (in_strips log a).row_0, f 0)
strip_words log a f (suc i) = elim (dec_lt (suc i) (length log)) [
  | yes b ↦ let x = every_place log a (suc i) (omega arith) b in
      rw (← x.3) (omega (arith, (in_strips log a).there x.0 (x.1, x.2), f x.0))
  | no b ↦ let e : get_or (strip_rows log) (suc i) 0 ≡ 0 = get_or-eq_default (strip_rows log) 0 (omega (arith, (in_strips log a).rows_number)) in
      omega arith
]

-- The file of a log's strips: a byte fewer than rows, at most 4,096 of them.
module _ (log : List ℕ) (right : right_length (length log) ≡ true) where
  some : 1 ≤ length log
  some = (right→ log (rw right tt)).some

  strips_length : length (file_of (strip_bytes log) (strip_rows log)) ≤ 36871
  strips_length =
      let S = in_strips log some in
      omega (arith, file_length (strip_bytes log) (strip_rows log), S.bytes_number, S.rows_number, (right→ log (rw right tt)).few)

  strips_restored : well_formed log ≡ true → ((i : ℕ) → get_or log i 0 < 2 ^ 64)
      → restore_file (file_of (strip_bytes log) (strip_rows log)) ≡ written (bytes_of log)
  unfolding restoring log_file
  strips_restored form words =
      restore_parts (strip_bytes log) (strip_rows log) (omega (arith, strips_length)) (strip_words log some words)
      ∙ rw (
        T→true (matched (strip_bytes log) (strip_rows log)) (stored_matched log some),
        log_back log,
        right,
        form,
        le-leb (length log) 4096 (right→ log (rw right tt)).few,
      )

-- A stored log's file has at most 8 + 4,095 + 32,768 bytes.
pub stored_length : (log : List ℕ) → length (store_file log).bytes ≤ 36871
unfolding store_file rows_file
stored_length log = storing_ind (λ x. length x.bytes ≤ 36871) (rows_in log 4096) 4095 4096 refused _
    (λ k _. omega arith) (λ e _. strips_length (rows_in log 4096) e)

-- A restored log has at most 4,096 rows, of 8 bytes each.
pub restored_length : (file : List ℕ) → length (restore_file file).bytes ≤ 32768
unfolding restore_file log_file
restored_length file = pick_ind P (leb (length file) 65536) _ _
    (λ _. pick_ind P (whole file) _ _
    (λ _. restoring_ind P (bytes_in file) (rows_of (rest_in file)) 4096 refused _ (λ k. omega arith) done)
    (λ _. omega arith))
    (λ _. omega arith)
  where
    P : Written → Type 0
    P x = length x.bytes ≤ 32768

    log : List ℕ
    log = log_of (bytes_in file) (rows_of (rest_in file))

    done : right_length (length log) ≡ true → length (bytes_of log) ≤ 32768
    done e = omega (arith, bytes_length log, (right→ log (rw e tt)).few)

-- What was stored is restored, byte for byte.
pub file_back : (log : List ℕ) → ((i : ℕ) → get_or log i 0 < 256) → (store_file log).number ≡ 0 → restore_file (store_file log).bytes ≡ written log
unfolding store_file rows_file
file_back log small = storing_ind (λ x. x.number ≡ 0 → restore_file x.bytes ≡ written log) (rows_in log 4096) 4095 4096 refused _
    (λ k n e. absurd (n e))
    (λ right form _.
    let r = rows_some log 4096 (some (rows_in log 4096) right) in
    strips_restored (rows_in log 4096) right form (rw r.1 (rows_small log small))
    ∙ ap written (ap bytes_of r.1 ∙ bytes_rows log r.0 small))
