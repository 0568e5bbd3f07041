-- The input of a sizing, and what its registers have alike.
use Prim.Native.Nat.{ℕ, ◌≤◌, ◌<◌}
use native.Mathlib.Omega.{arith}
use mathlib.Core.Path.{◌≡◌, refl}
use mathlib.Core.Bool.{true, false, ◌&&◌}
use mathlib.Core.List.{List}
use lib.Dec.{leb}
use lib.ListN.{length, take}
use Rattle.words.proofs.Laws.Choice.{pick_two}
use Rattle.common.specs.SetUp.{readers_fit}
use Rattle.figures.specs.Sizing.{rows_for, most_of, most_rows, size_of}
use Rattle.figures.specs.Sizing.{Sizing}
use Rattle.fields.specs.Fields.{all_numbers, first_numbers, given, one_line}
use Rattle.fields.proofs.OneLine.{long_line, good_line}
use Rattle.lines.specs.Lines.{bad_line}
use Rattle.printing.specs.Print.{most_bytes}
use Rattle.printing.specs.Sizing.{has_figures, sizing_text, sizing_print}
use Rattle.printing.proofs.Laws.{enough_text}

module _ (b : List ℕ) where
  -- every line of three numbers is read
  pub long_sizing : 65536 < length b → sizing_print b ≡ bad_line 1
  unfolding sizing_print
  long_sizing h = rw (long_line most_bytes 3 b (omega arith))

  pub all_sized : length b ≤ 65536 → one_line b ≡ true → all_numbers 3 (first_numbers b) ≡ true
      → sizing_print b ≡ sizing_text (given b 0) (given b 1) (given b 2)
  unfolding sizing_print
  all_sized h o n = rw (good_line most_bytes 3 b (omega arith) o n)

-- Both registers have figures, or neither.
abbrev Alike : Sizing → Sizing → Type 0
Alike s t = has_figures s ≡ has_figures t

pub both_or_none : (n writes reads : ℕ) → Alike (size_of false n writes reads) (size_of true n writes reads)
unfolding size_of
both_or_none n writes reads =
    pick_two Alike (readers_fit n) _ _ _ _
    (λ _. pick_two Alike (leb writes most_of && leb reads most_of) _ _ _ _ (λ _. pick_two Alike (leb (rows_for writes reads) most_rows) _ _ _ _ (λ _. refl) (λ _. refl)) (λ _. refl))
    (λ _. refl)

-- So much of an input is all that a program need read.
pub enough_for_sizing : (b : List ℕ) → sizing_print (take 65537 b) ≡ sizing_print b
enough_for_sizing b = enough_text sizing_print long_sizing b
