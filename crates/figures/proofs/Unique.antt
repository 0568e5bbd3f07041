-- No other answer says what it means.
use Prim.Native.Nat.{ℕ, ◌≤◌, ◌<◌}
use mathlib.Core.Path.{◌≡◌, refl, ap}
use mathlib.Core.Logic.{◌⊎◌, inl, inr}
use mathlib.Core.Bool.{Bool, true, false}
use native.Mathlib.Omega.{arith}
use lib.Dec.{leb}
use borrow.Author.Tests.{leb-true}
use Rattle.words.proofs.Laws.Choice.{left, right}
use Rattle.common.specs.SetUp.{readers_fit, rows_fit}
use Rattle.common.specs.Book.{Telling}
use Rattle.figures.specs.declared.Figures.{Figures}
use Rattle.figures.specs.Sizing.{Sizing}
use Rattle.figures.specs.declared.NoFigures.TheVariants.{Refused, Larger, TooLong}
use Rattle.std.proofs.Common.{Ok, Err}
use Rattle.figures.specs.Sizing.{size_of}
use Rattle.figures.specs.Meaning.{Hold, Sharp, Mean, NoLog, UpTo2000, Says}
use Rattle.figures.proofs.Meaning.{says}

-- figures that hold, against ones that are sharp
module _ {Stamp Cell : Type 0} (B : Telling Stamp Cell) (n v fresh writes reads : ℕ) (f g : Figures) (H : Hold B n v fresh writes reads f) (S : Sharp B n v fresh writes reads g) where
  rows_least : rows_fit f.rows ≡ true → g.rows ≤ f.rows
  rows_least e = S.fewest f.rows e (H.enough f.rows (omega arith))

  least_least : f.least ≤ g.least
  least_least = let z = S.least_reached g.rows (omega arith) in (H.between g.rows g.least z.0 z.1).0

  most_most : g.most ≤ f.most
  most_most = let z = S.most_reached g.rows (omega arith) in (H.between g.rows g.most z.0 z.1).1

module _ {Stamp Cell : Type 0} (B : Telling Stamp Cell) (n v fresh writes reads : ℕ) (f g : Figures) where
  same_figures : rows_fit f.rows ≡ true → rows_fit g.rows ≡ true → Hold B n v fresh writes reads f → Sharp B n v fresh writes reads f → Hold B n v fresh writes reads g
      → Sharp B n v fresh writes reads g → f ≡ g
  same_figures d e Hf Sf Hg Sg =
      let r : f.rows ≡ g.rows = omega (arith, rows_least B n v fresh writes reads f g Hf Sg d, rows_least B n v fresh writes reads g f Hg Sf e) in
      let l : f.least ≡ g.least = omega (arith, least_least B n v fresh writes reads f g Hf Sg, least_least B n v fresh writes reads g f Hg Sf) in
      let m : f.most ≡ g.most = omega (arith, most_most B n v fresh writes reads f g Hf Sg, most_most B n v fresh writes reads g f Hg Sf) in
      λ i. record { rows = r i; least = l i; most = m i }

-- the registers' figures: with start reading 0 and, if writes are at most 2,000, fresh stamp 0
figures_are : (counted : Bool) (n writes reads : ℕ) (f g : Figures) → writes ≤ 2000 → rows_fit f.rows ≡ true → rows_fit g.rows ≡ true → Mean counted n writes reads f
    → Mean counted n writes reads g → f ≡ g
figures_are false n writes reads f g w d e F G =
    let x = F 0 (omega arith) in let y = G 0 (omega arith) in same_figures _ n 0 0 writes reads f g d e x.0 x.1 y.0 y.1
figures_are true n writes reads f g w d e F G =
    let x = F 0 0 (omega arith) in let y = G 0 0 (omega arith) in
    same_figures _ n 0 0 writes reads f g d e x.0 (x.1 (omega arith)) y.0 (y.1 (omega arith))

-- figures and no log
not_both : (counted : Bool) (n writes reads : ℕ) (f : Figures) → writes ≤ 2000 → rows_fit f.rows ≡ true → Mean counted n writes reads f → NoLog counted n writes reads → ⊥
not_both false n writes reads f w e F N = N 0 f.rows (omega arith) e ((F 0 (omega arith)).0.enough f.rows (omega arith))
not_both true n writes reads f w e F N = N 0 0 f.rows (omega arith) (omega arith) e ((F 0 0 (omega arith)).0.enough f.rows (omega arith))

-- readers that do not fit
not_fit : (n : ℕ) → (n < 1) ⊎ (16 < n) → readers_fit n ≡ true → ⊥
not_fit n (inl h) e = omega (arith, leb-true 1 n (left (leb 1 n) (leb n 16) e))
not_fit n (inr h) e = omega (arith, leb-true n 16 (right (leb 1 n) (leb n 16) e))

not_few : (writes reads : ℕ) → (2000 < writes) ⊎ (2000 < reads) → UpTo2000 writes reads → ⊥
not_few writes reads (inl h) e = omega (arith, e.0)
not_few writes reads (inr h) e = omega (arith, e.1)

module _ (counted : Bool) (n writes reads : ℕ) where
  one_answer : (r s : Sizing) → Says counted n writes reads r → Says counted n writes reads s → r ≡ s
  one_answer (Err Refused) (Err Refused) a b = refl
  one_answer (Err Refused) (Err Larger) a b = absurd (not_fit n a b.0)
  one_answer (Err Refused) (Err TooLong) a b = absurd (not_fit n a b.0)
  one_answer (Err Refused) (Ok g) a b = absurd (not_fit n a b.0)
  one_answer (Err Larger) (Err Refused) a b = absurd (not_fit n b a.0)
  one_answer (Err Larger) (Err Larger) a b = refl
  one_answer (Err Larger) (Err TooLong) a b = absurd (not_few writes reads a.1 b.1)
  one_answer (Err Larger) (Ok g) a b = absurd (not_few writes reads a.1 b.1)
  one_answer (Err TooLong) (Err Refused) a b = absurd (not_fit n b a.0)
  one_answer (Err TooLong) (Err Larger) a b = absurd (not_few writes reads b.1 a.1)
  one_answer (Err TooLong) (Err TooLong) a b = refl
  one_answer (Err TooLong) (Ok g) a b = absurd (not_both counted n writes reads g b.1.0 b.2 b.3 a.2)
  one_answer (Ok f) (Err Refused) a b = absurd (not_fit n b a.0)
  one_answer (Ok f) (Err Larger) a b = absurd (not_few writes reads b.1 a.1)
  one_answer (Ok f) (Err TooLong) a b = absurd (not_both counted n writes reads f a.1.0 a.2 a.3 b.2)
  one_answer (Ok f) (Ok g) a b = ap Ok (figures_are counted n writes reads f g a.1.0 a.2 b.2 a.3 b.3)

  -- what says so is what is answered
  pub only_one : (s : Sizing) → Says counted n writes reads s → s ≡ size_of counted n writes reads
  only_one s h = one_answer s (size_of counted n writes reads) h (says counted n writes reads)
