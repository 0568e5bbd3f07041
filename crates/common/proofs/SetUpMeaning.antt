-- The number that set-up gives means what document 01 says.
use Rattle.std.specs.Prelude.{Ok}
use Prim.Native.Nat.{ℕ}
use native.Mathlib.Omega.{arith}
use mathlib.Core.Path.{◌≡◌, refl, sym, ◌∙◌}
use mathlib.Core.Logic.{◌↔◌}
use mathlib.Core.Bool.{true}
use mathlib.Core.List.{List, ◌++◌}
use lib.Dec.{leb}
use lib.ListN.{length, set, drop}
use borrow.Author.Tests.{leb-true, le-leb}
use Rattle.words.proofs.Laws.Choice.{pick_ind, le_ind, never, left, right, both}
use Rattle.common.specs.Answers.{number_of}
use Rattle.common.specs.Rules.{Rules}
use Rattle.common.specs.declared.Done.TheVariants.{Accepted}
use Rattle.common.specs.SetUp.{Outcome, fresh_state, start_row, readers_fit, rows_fit, set_up_of}
use Rattle.common.specs.SetUpMeaning.{FitReaders, FitRows, FitSetUp, SetUpSays, is_set_up, says_1, says_2, says_3}

-- The tests say what their questions ask.
readers_fit_lem : (n : ℕ) → readers_fit n ≡ true → FitReaders n
readers_fit_lem n e = omega (arith, leb-true 1 n (left (leb 1 n) _ e), leb-true n _ (right (leb 1 n) _ e))

fit_readers : (n : ℕ) → FitReaders n → readers_fit n ≡ true
fit_readers n F = both (leb 1 n) _ (le-leb 1 n F.low) (le-leb n _ (omega (arith, F.high)))

rows_fit_lem : (rows : ℕ) → rows_fit rows ≡ true → FitRows rows
rows_fit_lem rows e = omega (arith, leb-true 3 rows (left (leb 3 rows) _ e), leb-true rows _ (right (leb 3 rows) _ e))

fit_rows : (rows : ℕ) → FitRows rows → rows_fit rows ≡ true
fit_rows rows F = both (leb 3 rows) _ (le-leb 3 rows F.low) (le-leb rows _ (omega (arith, F.high)))

module _ (R : Rules) (n v fresh : ℕ) (t l : List ℕ) where
  abbrev Says : Outcome → Type 0
  Says o = SetUpSays n (R.cells n) (length t) (length l) (number_of o.answer)

  -- "Set-up: are there 1 to 16 readers (1)? At least n²+n cells (2)? Is the log 3 to 4,096 rows (3)?"
  pub set_up_says : Says (set_up_of R n v fresh t l)
  unfolding set_up_of
  set_up_says =
      pick_ind Says (readers_fit n) _ _
      (λ e. let F = readers_fit_lem n e in
      le_ind Says (R.cells n) (length t) _ _
      (λ h. pick_ind Says (rows_fit (length l)) _ _ (λ g. is_set_up (record { readers = F; enough = h; log = rows_fit_lem (length l) g }))
      (λ g. says_3 F h (λ r. never (sym (fit_rows (length l) r) ∙ g))))
      (λ h. says_2 F h))
      (λ e. says_1 (λ r. never (sym (fit_readers n r) ∙ e)))

  -- It is accepted exactly if there are 1 to 16 readers, cells enough, and 3 to 4,096 rows;
  pub set_up_if : (number_of (set_up_of R n v fresh t l).answer ≡ 0) ↔ FitSetUp n (R.cells n) (length t) (length l)
  set_up_if = at set_up_says
    where
      at : {k : ℕ} → SetUpSays n (R.cells n) (length t) (length l) k → (k ≡ 0) ↔ FitSetUp n (R.cells n) (length t) (length l)
      at (is_set_up F) = (λ _. F, λ _. refl)
      at (says_1 no_readers) = (λ z. absurd (omega arith), λ F. absurd (no_readers F.readers))
      at (says_2 _ few) = (λ z. absurd (omega arith), λ F. absurd (omega (arith, F.enough)))
      at (says_3 _ _ no_rows) = (λ z. absurd (omega arith), λ F. absurd (no_rows F.log))

  -- and then it leaves a fresh register.
  pub set_up_leaves : FitSetUp n (R.cells n) (length t) (length l) → set_up_of R n v fresh t l ≡ record {
    answer = Ok Accepted;
    state = fresh_state R.counted n fresh (length l);
    table = R.fresh_cells n v fresh ++ drop (R.cells n) t;
    log = set l 0 (start_row n v);
  }
  unfolding set_up_of
  set_up_leaves F =
      rw (fit_readers n F.readers, le-leb (R.cells n) (length t) F.enough, fit_rows (length l) F.log)
