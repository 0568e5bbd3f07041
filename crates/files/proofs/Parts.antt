-- What the functions of the program find: strips in arrays that have places for every log.
use Prim.Native.Nat.{ℕ, ◌≤◌, ◌<◌, ◌+◌, ◌-◌, ◌%◌}
use native.Mathlib.Omega.{arith}
use mathlib.Core.Path.{◌≡◌, refl, sym, ap, subst, ◌∙◌}
use mathlib.Core.Logic.{◌≢◌}
use mathlib.Core.Bool.{true, false}
use mathlib.Core.List.{List, ◌++◌}
use lib.Dec.{eqb, leb, eqb→eq, leb→le}
use lib.ListN.{length, take, drop, replicate, length-drop, length-replicate}
use lib.Seq.{take_all, drop-drop}
use borrow.Author.Tests.{eq-eqb, ne_eqb, le-leb, lt-leb}
use Rattle.std.specs.Prelude.{Result, Ok, Err}
use Rattle.words.proofs.Laws.Choice.{left, right}
use Rattle.logbytes.specs.Bytes.{rows_of, rows_in, bytes_of}
use Rattle.logbytes.proofs.Laws.{rows_whole}
use Rattle.judging.specs.Meaning.{RightLength}
use Rattle.judging.proofs.ByteLaws.{rows_front, rows_count}
use Rattle.lines.specs.Lines.{Puts, Within}
use Rattle.lines.proofs.Puts.{nothing, within, whole as all}
use Rattle.storing.specs.Strips.{strip_bytes, strip_rows, log_of}
use Rattle.storing.specs.Answer.{fault_number, storing, Stored, restoring, Restored}
use Rattle.storing.specs.Meaning.{StoreSays, RestoreSays, says_0, says_9, says_10, says_11, says_16}
use Rattle.storing.specs.File.{Written, file_of, count_in, bytes_in, rest_in, whole, refused, written, rows_file, log_file, restore_file}
use Rattle.storing.specs.declared.Fault.{Fault}
use Rattle.storing.specs.declared.Fault.TheVariants.{WrongLength, Malformed, NoRoom, Unmatched}
use Rattle.storing.proofs.Answers.{storing_by, restoring_by}
use Rattle.storing.proofs.FileBack.{restored_length}
use Rattle.storing.proofs.Unique.{only_strips, only_log}
use Rattle.files.specs.Made.{Made, put_count}

-- nothing is put of a refusal, and all of what is written
none_made : {w : Written} (o : List ℕ) (f : Fault) → w ≡ refused (fault_number f) → Made w o o (Err f)
none_made o f e = rw e (record { number_is = refl; put = nothing o 0 })

made : {w : Written} {l o o' : List ℕ} {n : ℕ} → w ≡ written l → Puts l 0 o o' n → Made w o o' (Ok n)
made e p = rw e (record { number_is = refl; put = p })

-- a fault's number is not 0
some_number : (f : Fault) → fault_number f ≢ 0
some_number WrongLength e = omega arith
some_number Malformed e = omega arith
some_number NoRoom e = omega arith
some_number Unmatched e = omega arith

-- the arrays as they are lent
abbrev pub byte_array : List ℕ
byte_array = replicate 4095 0

abbrev pub row_array : List ℕ
row_array = replicate 4096 0

abbrev pub long_array : List ℕ
long_array = replicate 8192 0

-- What was stored.
module _ {rows b r : List ℕ} {k : ℕ} (S : record { leaves : Stored rows byte_array row_array b r k; meaning : StoreSays rows byte_array row_array b r k }) where
  number : k ≡ storing rows 4095 4096 (λ j. j) 0
  number = rw (length-replicate {A = ℕ} 4095 0, length-replicate {A = ℕ} 4096 0) at S.leaves.number

  pub not_stored_lem : (o : List ℕ) (f : Fault) → k ≡ fault_number f → Made (rows_file rows) o o (Err f)
  unfolding rows_file
  not_stored_lem o f e = none_made o f (storing_by rows 4095 4096 refused _ k number ∙ rw (e, ne_eqb (fault_number f) 0 (some_number f)))

  -- the log has its rows, and its strips stand in front
  pub record InFront : Type 0 where
    pub size : RightLength rows
    pub bytes_are : take (length rows - 1) b ≡ strip_bytes rows
    pub rows_are : take (length rows) r ≡ strip_rows rows

  pub in_front : k ≡ 0 → InFront
  in_front z = go S.meaning z
    where
      go : {j : ℕ} → StoreSays rows byte_array row_array b r j → j ≡ 0 → InFront
      go (says_0 F x y s) e =
          let o = only_strips rows _ _ F.size.some s in
          record { size = F.size; bytes_are = o.0; rows_are = o.1 }
      go (says_9 x y s) e = absurd (omega arith)
      go (says_10 x y s t) e = absurd (omega arith)
      go (says_11 x y s t) e = absurd (omega arith)

  pub all_stored : {o o' : List ℕ} {n : ℕ} → k ≡ 0 → Puts (file_of (take (length rows - 1) b) (take (length rows) r)) 0 o o' n → Made (rows_file rows) o o' (Ok n)
  unfolding rows_file
  all_stored z p =
      let F = in_front z in
      made (storing_by rows 4095 4096 refused _ k number ∙ rw (eq-eqb k 0 z)) (rw (F.bytes_are, F.rows_are) at p)

-- What was restored.
module _ {bytes rows log : List ℕ} {k : ℕ} (R : record { leaves : Restored bytes rows row_array log k; meaning : RestoreSays bytes rows row_array log k }) where
  restored_number : k ≡ restoring bytes rows 4096 (λ j. j) 0
  restored_number = rw (length-replicate {A = ℕ} 4096 0) at R.leaves.number

  not_restored_lem : (l : List ℕ) (f : Fault) → k ≡ fault_number f → Made (log_file bytes rows) l l (Err f)
  unfolding log_file
  not_restored_lem l f e =
      none_made l f (restoring_by bytes rows 4096 refused _ k restored_number ∙ rw (e, ne_eqb (fault_number f) 0 (some_number f)))

  record LogInFront : Type 0 where
    pub size : length rows ≤ 4096
    pub log_is : take (length rows) log ≡ log_of bytes rows

  log_in_front : k ≡ 0 → LogInFront
  log_in_front z = go R.meaning z
    where
      go : {j : ℕ} → RestoreSays bytes rows row_array log j → j ≡ 0 → LogInFront
      go (says_0 M x F s) e = record { size = omega (arith, x.room, length-replicate {A = ℕ} 4096 0); log_is = only_log _ bytes rows F.size.some s }
      go (says_16 x s) e = absurd (omega arith)
      go (says_9 x y s) e = absurd (omega arith)
      go (says_10 x y l t u v) e = absurd (omega arith)
      go (says_11 x l t u v w) e = absurd (omega arith)

  all_restored : {l l' : List ℕ} {n : ℕ} → k ≡ 0 → Puts (bytes_of (take (length rows) log)) 0 l l' n → Made (log_file bytes rows) l l' (Ok n)
  unfolding log_file
  all_restored z p = made (restoring_by bytes rows 4096 refused _ k restored_number ∙ rw (eq-eqb k 0 z)) (rw (log_in_front z).log_is at p)

-- The parts of a file.
module _ (f : List ℕ) where
  pub too_short : length f < 8 → false ≡ whole f
  unfolding whole
  too_short a = rw (lt-leb 8 (length f) a)

  pub too_few : 8 ≤ length f → length f - 8 < count_in f → false ≡ whole f
  unfolding whole
  too_few a b = rw (le-leb 8 (length f) a, lt-leb (count_in f) (length (drop 8 f)) (omega (arith, length-drop 8 f)))

  pub whole_rows : 8 ≤ length f → count_in f ≤ length f - 8 → eqb ((length f - 8 - count_in f) % 8) 0 ≡ whole f
  unfolding whole rest_in
  whole_rows a b =
      let n : length (drop (count_in f) (drop 8 f)) ≡ length f - 8 - count_in f = omega (arith, length-drop 8 f, length-drop (count_in f) (drop 8 f)) in
      rw (le-leb 8 (length f) a, le-leb (count_in f) (length (drop 8 f)) (omega (arith, length-drop 8 f)), n)

  -- a file that can be taken apart
  pub record Whole : Type 0 where
    pub head : 8 ≤ length f
    pub room : count_in f ≤ length f - 8
    pub rows : (length f - 8 - count_in f) % 8 ≡ 0

  pub whole→ : whole f ≡ true → Whole
  unfolding whole rest_in
  whole→ e =
      let h = left (leb 8 (length f)) _ e in
      let g = right (leb 8 (length f)) _ e in
      let c : count_in f ≤ length (drop 8 f) = leb→le (count_in f) (length (drop 8 f)) (rw (left (leb (count_in f) (length (drop 8 f))) _ g) tt) in
      let z : length (rest_in f) % 8 ≡ 0 = eqb→eq (length (rest_in f) % 8) 0 (rw (right (leb (count_in f) (length (drop 8 f))) _ g) tt) in
      record {
        head = leb→le 8 (length f) (rw h tt);
        room = omega (arith, c, length-drop 8 f);
        rows = omega (arith, z, c, length-drop 8 f, length-drop (count_in f) (drop 8 f));
      }

  -- its bytes, and what stands behind them, as the code has them
  bytes_part : {k : ℕ} → k ≡ count_in f → take (8 + k - 8) (drop 8 f) ≡ bytes_in f
  unfolding bytes_in
  bytes_part {k} e = let n : 8 + k - 8 ≡ count_in f = omega arith in rw n

  pub rest_part : {k : ℕ} → k ≡ count_in f → take (length f - (8 + k)) (drop (8 + k) f) ≡ rest_in f
  unfolding rest_in
  rest_part {k} e =
      take_all (length f - (8 + k)) (drop (8 + k) f) (omega (arith, length-drop (8 + k) f))
      ∙ ap (λ (i : ℕ). drop (8 + i) f) e ∙ sym (drop-drop (count_in f) 8 f)

  pub rest_size : Whole → length f ≤ 65536 → (length (rest_in f) % 8 ≡ 0) × (length (rest_in f) ≤ 65536)
  unfolding rest_in
  rest_size W a =
      let n : length (rest_in f) ≡ length f - 8 - count_in f = omega (arith, W.head, W.room, length-drop 8 f, length-drop (count_in f) (drop 8 f)) in
      rw n (W.rows, omega arith)

  pub file_long : {o : List ℕ} → 65536 < length f → Made (restore_file f) o o (Err WrongLength)
  unfolding restore_file
  file_long {o} a = none_made o WrongLength (rw (lt-leb (length f) 65536 a))

  pub file_apart : {o : List ℕ} → length f ≤ 65536 → whole f ≡ false → Made (restore_file f) o o (Err Unmatched)
  unfolding restore_file
  file_apart {o} a e = none_made o Unmatched (rw (le-leb (length f) 65536 a, e))

  pub file_made : {o o' : List ℕ} {j : ℕ} {r : Result ℕ Fault} → length f ≤ 65536 → whole f ≡ true → j ≡ count_in f
      → Made (log_file (take (8 + j - 8) (drop 8 f)) (rows_of (take (length f - (8 + j)) (drop (8 + j) f)))) o o' r → Made (restore_file f) o o' r
  unfolding restore_file
  file_made a e z m = rw (le-leb (length f) 65536 a, e) (rw (bytes_part z, rest_part z) at m)

  -- what stands in front of the lent bytes, and whole if there is room
  pub filed : {o o' : List ℕ} {r : Result ℕ Fault} → Made (restore_file f) o o' r → record {
    made : Made (restore_file f) o o' r;
    within : Within (put_count r) o';
    whole : 32768 ≤ length o → take (put_count r) o' ≡ (restore_file f).bytes;
  }
  filed m = record { made = m; within = within m.put; whole = λ room. all m.put (omega (arith, restored_length f, room)) }

-- The rows behind a file's bytes, read, and what was restored from them.
module _ (rest : List ℕ) (size : (length rest % 8 ≡ 0) × (length rest ≤ 65536)) {e : List ℕ} {r : ℕ}
    (a : (r ≡ length (rows_in rest (length long_array))) × (e ≡ rows_in rest (length long_array) ++ drop r long_array)) where
  rest_rows : take r e ≡ rows_of rest
  rest_rows = rows_front rest long_array a ∙ rows_whole rest (length long_array) size.0 (omega (arith, length-replicate {A = ℕ} 8192 0))

  module _ {bytes log : List ℕ} {k : ℕ} (R : record { leaves : Restored bytes (take r e) row_array log k; meaning : RestoreSays bytes (take r e) row_array log k }) where
    pub few_rows : k ≡ 0 → r ≤ 4096
    few_rows z = omega (arith, (log_in_front R z).size, rows_count rest long_array a)

    pub rest_refused : (o : List ℕ) (f : Fault) → k ≡ fault_number f → Made (log_file bytes (rows_of rest)) o o (Err f)
    rest_refused o f n = rw rest_rows at (not_restored_lem R o f n)

    pub rest_restored : {o o' : List ℕ} {n : ℕ} → k ≡ 0 → Puts (bytes_of (take r log)) 0 o o' n → Made (log_file bytes (rows_of rest)) o o' (Ok n)
    rest_restored {o} {o'} {n} z p =
        rw rest_rows at (all_restored R z (subst (λ (i : ℕ). Puts (bytes_of (take i log)) 0 o o' n) (rows_count rest long_array a) p))
