-- The texts of a sizing.
use Prim.Native.Nat.{ℕ}
use mathlib.Core.Path.{◌≡◌, refl, sym, ap, subst, ◌∙◌}
use mathlib.Core.Bool.{Bool, true, false}
use mathlib.Core.List.{List, append-nil}
use lib.ListN.{get_or}
use Rattle.figures.specs.Sizing.{Sizing}
use Rattle.figures.specs.declared.NoFigures.TheVariants.{Refused, Larger, TooLong}
use Rattle.std.proofs.Common.{Ok, Err, is_ok}
use Rattle.figures.specs.declared.NoFigures.{NoFigures}
use Rattle.figures.specs.Sizing.{size_of}
use Rattle.fields.specs.Fields.{first_numbers, one_line_of}
use Rattle.lines.specs.Ascii.{ascii}
use Rattle.lines.specs.Lines.{bad_line}
use Rattle.lines.specs.Adds.{Adds, Sink}
use Rattle.lines.proofs.Adds.{then_adds}
use Rattle.printing.specs.Print.{most_bytes}
use Rattle.printing.specs.Sizing.{answer_line, has_figures, sizing_text, sizing_print}

-- The line of one answer is that of another that it equals.
pub as_answer : (name : List ℕ) (s t : Sizing) {old new : Sink} → s ≡ t → Adds (answer_line name t) old new → Adds (answer_line name s) old new
as_answer name s t {old} {new} e a = subst (λ (u : Sizing). Adds (answer_line name u) old new) (sym e) a

pub as_refusal : (name : List ℕ) (s : Sizing) (e k : NoFigures) {old new : Sink} → s ≡ Err e → e ≡ k → Adds (answer_line name (Err k)) old new
    → Adds (answer_line name s) old new
as_refusal name s e k g h a = as_answer name s (Err k) (g ∙ ap Err h) a

-- The lines of both registers, or the one line that has no figures.
there : (s : Sizing) → is_ok s ≡ has_figures s
there (Ok f) = refl
there (Err e) = no e
  where
    no : (e : NoFigures) → false ≡ has_figures (Err e)
    no Refused = refl
    no Larger = refl
    no TooLong = refl

module _ (n writes reads : ℕ) (s : Sizing) (e : s ≡ size_of false n writes reads) where
  pub both_lines : (c : Sizing) {old mid new : Sink} → is_ok s ≡ true → c ≡ size_of true n writes reads
      → Adds (answer_line (ascii "tickets") s) old mid
      → Adds (answer_line (ascii "counted") c) mid new
      → Adds (sizing_text n writes reads) old new
  unfolding sizing_text
  both_lines c g h a b = rw (← e, ← h, sym (there s) ∙ g) (then_adds a b)

  pub one_answer : {old new : Sink} → is_ok s ≡ false → Adds (answer_line (ascii "tickets") s) old new
      → Adds (sizing_text n writes reads) old new
  unfolding sizing_text
  one_answer h a = rw (← e, sym (there s) ∙ h, append-nil (answer_line (ascii "tickets") s)) a

-- The input.
module _ (b : List ℕ) (t : Bool) (e : t ≡ one_line_of most_bytes 3 b) where
  pub not_read : {old new : Sink} → t ≡ false → Adds (bad_line 1) old new → Adds (sizing_print b) old new
  unfolding sizing_print
  not_read f a = rw (sym e ∙ f) a

  pub is_read_lem : (ns : List ℕ) {old new : Sink} → t ≡ true → ns ≡ first_numbers b
      → Adds (sizing_text (get_or ns 0 0) (get_or ns 1 0) (get_or ns 2 0)) old new
      → Adds (sizing_print b) old new
  unfolding sizing_print
  is_read_lem ns f at a = rw (sym e ∙ f, ← at) a
