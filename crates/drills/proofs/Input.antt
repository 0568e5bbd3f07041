-- The input of a drill, and its cases.
use Prim.Native.Nat.{ℕ, ◌+◌}
use mathlib.Core.Path.{◌≡◌, refl, sym, ap, ◌∙◌}
use mathlib.Core.Bool.{Bool, true, false, ◌&&◌}
use mathlib.Core.List.{List}
use lib.Dec.{leb}
use lib.ListN.{length, get_or}
use Rattle.words.specs.Choice.{pick}
use Rattle.fields.specs.Fields.{all_numbers, first_numbers, one_line, one_line_of}
use Rattle.lines.specs.Lines.{bad_line}
use Rattle.lines.specs.Adds.{Adds, Sink}
use Rattle.printing.specs.Print.{most_bytes}
use Rattle.printing.specs.Drill.{given, turns_given, drill_lines, drill_print}

-- "a+b not 1 to 16"
abbrev pub good_turns : ℕ → Bool
good_turns k = leb 1 k && leb k 16

module _ (b : List ℕ) where
  -- the print, with what is asked in the code's order
  abbrev lines : List ℕ
  lines = drill_lines (given b 0) (given b 1) (given b 2) (given b 3) (given b 4)

  asked : drill_print b ≡ pick (one_line_of most_bytes 5 b) (pick (good_turns (turns_given b)) lines (bad_line 1)) (bad_line 1)
  unfolding drill_print one_line_of
  asked = go (leb (length b) most_bytes) (one_line b) (all_numbers 5 (first_numbers b))
    where
      go : (x y z : Bool) → pick (x && (y && (z && good_turns (turns_given b)))) lines (bad_line 1) ≡ pick (x && (y && z)) (pick (good_turns (turns_given b)) lines (bad_line 1)) (bad_line 1)
      go true true true = refl
      go true true false = refl
      go true false z = refl
      go false y z = refl

  pub not_read : {old new : Sink} → one_line_of most_bytes 5 b ≡ false → Adds (bad_line 1) old new → Adds (drill_print b) old new
  not_read e P = rw (asked, e) P

  module _ (ns : List ℕ) (e : one_line_of most_bytes 5 b ≡ true) (at : ns ≡ first_numbers b) where
    turns_are : good_turns (get_or ns 3 0 + get_or ns 4 0) ≡ good_turns (turns_given b)
    turns_are = ap (λ (l : List ℕ). good_turns (get_or l 3 0 + get_or l 4 0)) at

    pub bad_turns : {old new : Sink} → good_turns (get_or ns 3 0 + get_or ns 4 0) ≡ false → Adds (bad_line 1) old new → Adds (drill_print b) old new
    bad_turns i P = rw (asked, e, sym turns_are ∙ i) P

    pub good_drill : {old new : Sink} → good_turns (get_or ns 3 0 + get_or ns 4 0) ≡ true
        → Adds (drill_lines (get_or ns 0 0) (get_or ns 1 0) (get_or ns 2 0) (get_or ns 3 0) (get_or ns 4 0)) old new
        → Adds (drill_print b) old new
    good_drill i P = rw (asked, e, sym turns_are ∙ i, ← at) P
