-- "A no gives its number and alters nothing": a refused set-up over a lent state leaves it, the table and the log as they were.
use Prim.Native.Nat.{ℕ}
use mathlib.Core.Path.{◌≡◌, refl, sym, ap, ◌∙◌}
use mathlib.Core.Bool.{Bool, true, false, ◌&&◌}
use mathlib.Core.List.{List}
use lib.ListN.{length}
use lib.Dec.{leb}
use Rattle.words.proofs.Laws.Choice.{pick_ind, never}
use Rattle.std.specs.Prelude.{Ok, Err}
use Rattle.common.specs.Answers.{Answer}
use Rattle.common.specs.declared.Refusal.{Refusal}
use Rattle.common.specs.declared.State.{State}
use Rattle.common.specs.Effects.{Unaltered}
use Rattle.common.specs.Rules.{Rules}
use Rattle.common.specs.SetUp.{Outcome, refused, no_state, set_up_of}
use Rattle.entries.specs.Contract.{over, set_up_over}

abbrev is_refused : Answer → Bool
is_refused (Ok done) = false
is_refused (Err why) = true

module _ (R : Rules) (s : State) (t l : List ℕ) where
  -- what is to be shown of a set-up's outcome
  Keeps : Outcome → Type 0
  Keeps o = (r : Refusal) → o.answer ≡ Err r → Unaltered s t l (over s o)

  refuses : (why : Refusal) (fresh : State) → Keeps (refused why fresh t l)
  unfolding Keeps
  refuses why fresh _ _ = record { state_same = refl; table_same = refl; log_same = refl }

  takes : (o : Outcome) → is_refused o.answer ≡ false → Keeps o
  unfolding Keeps
  takes o f r e = never (sym (ap is_refused e) ∙ f)

  pub set_up_unaltered : (n v fresh : ℕ) (r : Refusal) → (set_up_over R s t l n v fresh).answer ≡ Err r → Unaltered s t l (set_up_over R s t l n v fresh)
  unfolding set_up_of Keeps
  set_up_unaltered n v fresh =
      pick_ind Keeps (leb 1 n && leb n 16) _ _
      (λ _. pick_ind Keeps (leb (R.cells n) (length t)) _ _
      (λ _. pick_ind Keeps (leb 3 (length l) && leb (length l) 4096) _ _ (λ _. takes _ refl) (λ _. refuses _ (no_state R.counted)))
      (λ _. refuses _ (no_state R.counted)))
      (λ _. refuses _ (no_state R.counted))
