-- What the answers mean leaves nothing open: a number and buffers of which it holds are the ones that the definitions give.
use Prim.Native.Nat.{ℕ, ◌<◌}
use native.Mathlib.Omega.{arith}
use mathlib.Core.Path.{◌≡◌, refl, sym, ap, ◌∙◌}
use mathlib.Core.Logic.{inl, inr}
use mathlib.Core.Bool.{true, false}
use mathlib.Core.List.{List}
use lib.ListN.{length, get_or, take, take-append-drop}
use Rattle.words.proofs.Laws.Choice.{T→true, not→false}
use Rattle.history.specs.Form.{LogFormed}
use Rattle.history.specs.WellFormed.{well_formed}
use Rattle.history.proofs.Form.{log_formed}
use Rattle.judging.specs.Answer.{right_length, laid}
use Rattle.judging.specs.Meaning.{RightLength, Formed}
use Rattle.judging.proofs.Asked.{right→, →right, tested}
use Rattle.storing.specs.Strips.{log_of, matched}
use Rattle.storing.specs.Answer.{Stored, Restored}
use Rattle.storing.specs.Meaning.{StripsOf, Match, Front, StoreSays, says_0, says_9, says_10, says_11, RestoreSays, says_16}
use Rattle.storing.proofs.Answers.{store_9, store_10, store_bytes, store_rows, store_yes}
use Rattle.storing.proofs.Answers.{restore_16, restore_9, restore_10, restore_11, restore_yes}
use Rattle.storing.proofs.Sorting.{match_if}
use Rattle.storing.proofs.Unique.{only_strips, only_log}

-- The tests, by what they mean.
module _ {log : List ℕ} where
  right : RightLength log → right_length (length log) ≡ true
  right s = T→true (right_length (length log)) (→right log s)

  not_right : ¬ RightLength log → right_length (length log) ≡ false
  not_right n = not→false (right_length (length log)) (λ t. n (right→ log t))

  formed : Formed log → well_formed log ≡ true
  formed F = T→true (well_formed log) (tested F)

  not_formed : ¬ LogFormed log → well_formed log ≡ false
  not_formed n = not→false (well_formed log) (λ t. n ((log_formed log).only_if t))

-- places with l at their front
laid_is : {l o o' : List ℕ} {n : ℕ} → Front o o' n → length l ≡ n → take n o' ≡ l → o' ≡ laid l o
unfolding laid
laid_is {o' = o'} {n = n} F size e = rw size (sym (take-append-drop n o') ∙ rw (e, F.beyond))

pub store_exact : {log b r b' r' : List ℕ} {k : ℕ} → StoreSays log b r b' r' k → Stored log b r b' r' k
store_exact {log = log} {b = b} {r = r} (says_9 n e f) = rw (e, f) (store_9 log b r refl (not_right n))
store_exact {log = log} {b = b} {r = r} (says_10 s n e f) = rw (e, f) (store_10 log b r refl (right s) refl (not_formed n))
store_exact {log = log} {b = b} {r = r} (says_11 F (inl a) e f) =
    rw (e, f) (store_bytes log b r refl (right F.size) refl (formed F) (omega arith))
store_exact {log = log} {b = b} {r = r} (says_11 F (inr a) e f) = rw (e, f) (store_rows log b r refl (right F.size) refl (formed F) a)
store_exact {log = log} {b = b} {r = r} (says_0 F A B S) =
    let e = only_strips log _ _ F.size.some S in
    store_yes log b r refl (right F.size) refl (formed F) (omega (arith, A.room)) B.room
    (laid_is A (sym (ap length e.0) ∙ omega (arith, S.bytes_number)) e.0) (laid_is B (sym (ap length e.1) ∙ S.rows_number) e.1)

-- the log of strips
the_log : {log bytes rows : List ℕ} → StripsOf log bytes rows → log ≡ log_of bytes rows
the_log {log = log} {bytes = bytes} {rows = rows} S = only_log log bytes rows (omega (arith, S.bytes_number)) S

module _ {bytes rows : List ℕ} (small : (i : ℕ) → i < length bytes → get_or bytes i 0 < 256) where
  match : Match bytes rows → matched bytes rows ≡ true
  match M = T→true (matched bytes rows) ((match_if bytes rows small).1 M)

  no_match : ¬ Match bytes rows → matched bytes rows ≡ false
  no_match n = not→false (matched bytes rows) (λ t. n ((match_if bytes rows small).0 t))

  pub restore_exact : {o o' : List ℕ} {k : ℕ} → RestoreSays bytes rows o o' k → Restored bytes rows o o' k
  restore_exact {o = o} (says_16 n e) = rw e (restore_16 bytes rows o refl (no_match n))
  restore_exact {o = o} (says_9 M n e) = rw e (restore_9 bytes rows o refl (match M) refl (not_right n))
  restore_exact {o = o} (says_10 M s log S n e) =
      rw e (restore_10 bytes rows o refl (match M) refl (right s) refl (ap well_formed (sym (the_log S)) ∙ not_formed n))
  restore_exact {o = o} (says_11 M log S F a e) = rw e (
      restore_11 bytes rows o refl (match M) refl (ap right_length S.rows_number ∙ right F.size) refl
      (ap well_formed (sym (the_log S)) ∙ formed F) a)
  restore_exact {o = o} (says_0 M A F S) =
      let e = the_log S in
      let n = S.rows_number in
      restore_yes bytes rows o refl (match M) refl (ap right_length n ∙ right F.size) refl (ap well_formed (sym e) ∙ formed F)
      A.room (laid_is A (sym (n ∙ ap length e)) e)
