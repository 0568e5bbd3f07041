-- A sheet, text by text.
use Prim.Native.Nat.{ℕ, ◌+◌, ◌≤◌}
use native.Mathlib.Omega.{arith}
use native.Mathlib.Numerals.{add-one}
use mathlib.Core.Path.{◌≡◌, sym, ap, subst, ◌∙◌}
use mathlib.Core.List.{List}
use lib.ListN.{length}
use Rattle.std.specs.Prelude.{Some, Ok, Err}
use Rattle.history.specs.Listing.{listing}
use Rattle.judging.specs.declared.Fault.{Fault}
use Rattle.judging.specs.declared.Fault.TheVariants.{WrongLength, Malformed, NoOrder}
use Rattle.judging.specs.Answer.{Answer, begins_to}
use Rattle.judging.proofs.Asked.{Asked, no9, no10, no11, no12, none, ask, said, cases_are}
use Rattle.judging.proofs.Meaning.{one_fault}
use Rattle.judging.proofs.Said.{refusal_some}
use Rattle.lags.specs.Sheet.{figures_in, line_at}
use Rattle.lags.specs.declared.Line.{Line}
use Rattle.lags.specs.declared.Figures.{Figures}
use Rattle.lags.proofs.Totals.{readers_few}
use Rattle.lags.proofs.Meaning.{answer_by, figures_by, some_none, Says}
use Rattle.lines.specs.Lines.{refused_line, no_order_line}
use Rattle.lines.specs.Adds.{Adds, Sink}
use Rattle.lines.proofs.Adds.{no_text, then_adds}
use Rattle.printing.specs.Sheet.{reader_line, reader_lines, figures_text, sheet_text}
use Rattle.prints.specs.Said.{refusal_line}

-- The lines of the readers.
pub no_readers : (s : List Line) (old : Sink) → Adds (reader_lines s 0) old old
unfolding reader_lines
no_readers s old = no_text old

pub next_reader : (s : List Line) (i : ℕ) {old mid new : Sink} → Adds (reader_lines s i) old mid
    → Adds (reader_line (i + 1) (line_at s (i + 1)).reads (line_at s (i + 1)).lags) mid new
    → Adds (reader_lines s (i + 1)) old new
unfolding reader_lines
next_reader s i f g = rw (add-one i) (then_adds f (rw (add-one i) at g))

-- The text is that of the sheet.
module _ (rows : List ℕ) where
  abbrev n : ℕ
  n = begins_to rows (length rows)

  text_by : (a : Asked rows n) → sheet_text rows ≡ said rows n refused_line no_order_line (λ l. figures_text (figures_in rows l)) a
  unfolding sheet_text
  text_by a = cases_are rows n refused_line no_order_line (λ l. figures_text (figures_in rows l)) a

  filled_text : {f : Figures} → Says rows (Ok f) → (f.readers ≤ 16) × (sheet_text rows ≡ figures_text f)
  unfolding figures_in
  filled_text {f} S = go (ask rows n)
    where
      go : Asked rows n → (f.readers ≤ 16) × (sheet_text rows ≡ figures_text f)
      go (no9 a) = absurd (some_none (figures_by rows (Ok f) S.figures (no9 a)))
      go (no10 a b) = absurd (some_none (figures_by rows (Ok f) S.figures (no10 a b)))
      go (no11 a b) = absurd (omega arith)
      go (no12 a b c) = absurd (some_none (figures_by rows (Ok f) S.figures (no12 a b c)))
      go (none F b c) =
          let s : Some f ≡ Some (figures_in rows (listing rows)) = figures_by rows (Ok f) S.figures (none F b c) in
          let e : f ≡ figures_in rows (listing rows) = cc in
          (omega (arith, ap (λ (f : Figures). f.readers) e, readers_few rows F), text_by (none F b c) ∙ ap figures_text (sym e))

  pub few_readers : {f : Figures} → Says rows (Ok f) → f.readers ≤ 16
  few_readers S = (filled_text S).0

  pub put_filled : {f : Figures} {old new : Sink} → Says rows (Ok f) → Adds (figures_text f) old new → Adds (sheet_text rows) old new
  put_filled {old = old} {new = new} S a = subst (λ (t : List ℕ). Adds t old new) (sym (filled_text S).1) a

  refused_text : {f : Fault} → Says rows (Err f) → refusal_line f ≡ sheet_text rows
  unfolding refusal_line
  refused_text {f} S = go (ask rows n)
    where
      go : Asked rows n → refusal_line f ≡ sheet_text rows
      go (no9 a) = rw (one_fault f WrongLength (answer_by rows (Err f) S.answer (no9 a))) (sym (text_by (no9 a)))
      go (no10 a b) = rw (one_fault f Malformed (answer_by rows (Err f) S.answer (no10 a b))) (sym (text_by (no10 a b)))
      go (no11 a b) = absurd (omega arith)
      go (no12 a b c) = rw (one_fault f (NoOrder _) (answer_by rows (Err f) S.answer (no12 a b c))) (sym (text_by (no12 a b c)))
      go (none a b c) = absurd (omega (arith, refusal_some f, ap (λ (x : Answer). x.number) (answer_by rows (Err f) S.answer (none a b c))))

  pub put_refused : {f : Fault} {old new : Sink} → Says rows (Err f) → Adds (refusal_line f) old new → Adds (sheet_text rows) old new
  put_refused {old = old} {new = new} S a = subst (λ (t : List ℕ). Adds t old new) (refused_text S) a
