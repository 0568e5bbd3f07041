-- A sub-step moves one word, so it sets at most one cell; a retirement moves none.
use Prim.Native.Nat.{ℕ, ◌<◌}
use mathlib.Core.Path.{◌≡◌, refl}
use mathlib.Core.Bool.{Bool, true, false}
use mathlib.Core.List.{List}
use lib.ListN.{length, set}
use Rattle.words.specs.Choice.{pick}
use Rattle.words.proofs.Laws.Choice.{pick_ind}
use Rattle.common.specs.Effects.{OneWord, reads, stores, AtMostOne, as_it_was, one_set}
use Rattle.common.specs.declared.State.{State}
use Rattle.common.specs.Rules.{Rules, state_ok}
use Rattle.common.specs.SetUp.{Outcome}
use Rattle.common.specs.Register.{retire_of}
use Rattle.common.proofs.Asked.{as_processor_lem}

module _ (place : ℕ → ℕ → ℕ) (Has : ℕ → ℕ → Type 0) where
  -- a choice by a test that does not look at the table
  pub word_by : {S A : Type 0} (p : ℕ) (f : S → A) (g : S → List ℕ) (b : Bool) (X Y : List ℕ → S)
      → (b ≡ true → OneWord place Has p (λ t. f (X t)) (λ t. g (X t))) → (b ≡ false → OneWord place Has p (λ t. f (Y t)) (λ t. g (Y t)))
      → OneWord place Has p (λ t. f (pick b (X t) (Y t))) (λ t. g (pick b (X t) (Y t)))
  word_by p f g true X Y x y = x refl
  word_by p f g false X Y x y = y refl

  -- b: the table's cells
  pub word_cell : {A : Type 0} (b : ℕ) → ((i j : ℕ) → Has i j → place i j < b) → (p : ℕ) (next : List ℕ → A) (table : List ℕ → List ℕ)
      → OneWord place Has p next table → (t : List ℕ) → AtMostOne b t (table t)
  word_cell b low p next table (reads q v same d) t = rw (same t) as_it_was
  word_cell b low p next table (stores q w v put d) t = rw (put t) (one_set (place p q) w (low p q v))

pub row_or : (rows used : ℕ) (l : List ℕ) (b : Bool) (w : ℕ) → used < rows → AtMostOne rows l (pick b l (set l used w))
row_or rows used l true w h = as_it_was
row_or rows used l false w h = one_set used w h

module _ (R : Rules) (s : State) (t l : List ℕ) (p : ℕ) where
  abbrev Still : Outcome → Type 0
  Still o = (o.table ≡ t) × (o.log ≡ l)

  -- A retirement moves no word and adds no row.
  pub retires_still : ((retire_of R s t l p).table ≡ t) × ((retire_of R s t l p).log ≡ l)
  unfolding retire_of
  retires_still =
      pick_ind Still (state_ok R s (length t) (length l)) _ _
      (λ _. as_processor_lem Still s t l (refl, refl) (refl, refl) 1 p _ λ _ _ _. (refl, refl)) (λ _. (refl, refl))
