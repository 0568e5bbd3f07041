-- A sheet by its definition means what document 02, card 10, says.
use Prim.Native.Nat.{ℕ, ◌≤◌}
use native.Mathlib.Omega.{arith}
use mathlib.Core.Path.{◌≡◌, refl, sym, ap, subst, ◌∙◌}
use mathlib.Core.List.{List}
use lib.Dec.{T}
use lib.ListN.{length}
use Rattle.std.specs.Prelude.{Some, None, Result, Ok, Err}
use Rattle.std.specs.Result.{result_ok}
use Rattle.history.specs.Rows.{processor_at}
use Rattle.history.specs.Form.{OneOf}
use Rattle.history.specs.History.{history_of}
use Rattle.history.specs.Earliest.{Earliest}
use Rattle.history.specs.Sweep.{missing}
use Rattle.history.specs.Listing.{listing}
use Rattle.history.specs.WellFormed.{well_formed}
use Rattle.history.proofs.WellFormed.{laws}
use Rattle.history.proofs.Verdict.{before_missing}
use Rattle.history.proofs.Theorems.{at_most_one, has_earliest}
use Rattle.judging.specs.Answer.{Answer, refusal, unlisted, refused, no_order, accepted, begins_to, settled_of}
use Rattle.judging.specs.Meaning.{Formed}
use Rattle.judging.specs.declared.Fault.{Fault}
use Rattle.judging.proofs.Asked.{tested, Asked, no9, no10, no11, no12, none, ask, said, cases_are}
use Rattle.judging.proofs.Said.{settled_is, settled_same, settled, refusal_some, says_refused}
use Rattle.judging.proofs.Steps.{begins_few}
use Rattle.lags.specs.Lag.{lag_of}
use Rattle.lags.specs.Sheet.{reads_to, sum, reads_of, lags_of, over_readers, figures_in, sheet_answer, figures_of, row_by_row}
use Rattle.lags.specs.Meaning.{Filled, SheetSays}
use Rattle.lags.specs.declared.Figures.{Figures}
use Rattle.lags.proofs.Summed.{sum_to, sum_ones}
use Rattle.lags.proofs.Totals.{over_same, totals_agree, readers_few, over_reads, over_lags}
use Rattle.lags.proofs.Arrays.{line_in, no_line, lines_length}
use Rattle.lags.proofs.PerReader.{no_reads, line_of}

module _ (log : List ℕ) (F : Formed log) where
  w : T (well_formed log)
  w = tested F

  reads_row_by_row : over_readers (reads_of log) (processor_at log 0) ≡ row_by_row log (λ _. 1) (length log)
  unfolding reads_of sum_to
  reads_row_by_row =
      over_same (reads_of log) (λ i. sum_to log (λ _. 1) i (length log)) (processor_at log 0) (λ i _ _. sym (sum_ones (reads_to log i (length log))))
      ∙ totals_agree log (λ _. 1) w (length log) F.size.some (omega arith)

  lags_row_by_row : (l : List ℕ) → over_readers (lags_of log l) (processor_at log 0) ≡ row_by_row log (lag_of log l) (length log)
  unfolding lags_of sum_to
  lags_row_by_row l = totals_agree log (lag_of log l) w (length log) F.size.some (omega arith)

  module _ (swept : length log ≤ missing (history_of log)) where
    E : Earliest (history_of log) (listing log)
    E = has_earliest log w _ (before_missing (history_of log) (laws log w) (length log) swept)

    pub filled : Filled log (figures_in log (listing log))
    unfolding figures_in
    filled = record {
      log_ok = F;
      order = listing log;
      earliest = E;
      only = λ l C. at_most_one log w l (listing log) C E;
      readers_are = refl;
      per_reader = λ i o. rw (line_in log (listing log) i (omega (arith, o.high, readers_few log F))) (line_of log w swept E i);
      no_others = λ i o. let z = no_figure i o in rw (no_line log (listing log) i z.0 z.1) (refl, refl);
      size = lines_length log (listing log);
      reads_over = sym (over_reads log F (listing log));
      lags_over = sym (over_lags log F (listing log));
      reads_agree = reads_row_by_row;
      lags_agree = lags_row_by_row (listing log);
    }
      where
        no_figure : (i : ℕ) → ¬ OneOf (processor_at log 0) i → (reads_of log i ≡ 0) × (lags_of log (listing log) i ≡ 0)
        no_figure i o = unfold reads_of lags_of sum in (rw (no_reads log w i o), rw (no_reads log w i o))

pub some_none : {f : Figures} → Some f ≡ None → ⊥
some_none e = cc

-- What a sheet says.
module _ (log : List ℕ) where
  abbrev pub n : ℕ
  n = begins_to log (length log)

  pub answer_by : (s : Result Figures Fault) → unlisted s ≡ sheet_answer log → (q : Asked log n) → unlisted s ≡ said log n refused no_order (λ _. accepted 0) q
  unfolding sheet_answer
  answer_by s a q = a ∙ settled_is log n q

  pub figures_by : (s : Result Figures Fault) → result_ok s ≡ figures_of log → (q : Asked log n)
      → result_ok s ≡ said log n (λ _. None) (λ _. None) (λ l. Some (figures_in log l)) q
  unfolding figures_of
  figures_by s f q = f ∙ cases_are log n _ _ _ q

  pub sheet_says : (s : Result Figures Fault) → unlisted s ≡ sheet_answer log → result_ok s ≡ figures_of log → SheetSays log s
  unfolding sheet_answer
  sheet_says (Err e) a _ =
      record { refusal = λ o h. (says_refused log o e (a ∙ settled_same log n (length o) (omega arith) h)).meaning }
  sheet_says (Ok g) _ f = by (ask log n)
    where
      by : Asked log n → Filled log g
      by (no9 x) = absurd (some_none (figures_by (Ok g) f (no9 x)))
      by (no10 x y) = absurd (some_none (figures_by (Ok g) f (no10 x y)))
      by (no11 x y) = absurd (omega arith)
      by (no12 x y z) = absurd (some_none (figures_by (Ok g) f (no12 x y z)))
      by (none F y z) =
          let e : Some g ≡ Some (figures_in log (listing log)) = figures_by (Ok g) f (none F y z) in
          let d : g ≡ figures_in log (listing log) = cc in
          subst (λ (h : Figures). Filled log h) (sym d) (filled log F z)

-- What the code makes of what is settled with as many places as there are rows.
abbrev pub Says : List ℕ → Result Figures Fault → Type 0
Says log s = record { answer : unlisted s ≡ sheet_answer log; figures : result_ok s ≡ figures_of log; meaning : SheetSays log s }

module _ (log : List ℕ) where
  says_with : (s : Result Figures Fault) → unlisted s ≡ settled_of log (length log) → result_ok s ≡ figures_of log → Says log s
  unfolding sheet_answer
  says_with s e d =
      let a : unlisted s ≡ sheet_answer log = e ∙ settled_same log (length log) (n log) (begins_few log (length log)) (omega arith) in
      record { answer = a; figures = d; meaning = sheet_says log s a d }

  pub says_filled : {f : Figures} → (settled_of log (length log)).number ≡ 0 → f ≡ figures_in log (listing log) → Says log (Ok f)
  unfolding figures_of
  says_filled {f} z d =
      let S = settled log log z in
      says_with (Ok f) (sym (settled_is log (length log) (none S.asked.log_ok S.asked.room S.placed)))
      (ap (λ (h : Figures). Some h) d ∙ sym (cases_are log (n log) _ _ _ (none S.asked.log_ok (omega arith) S.placed)))

  pub says_none : (f : Fault) → refusal f ≡ settled_of log (length log) → Says log (Err f)
  unfolding figures_of
  says_none f e = says_with (Err f) e (sym (go (ask log (n log))))
    where
      go : Asked log (n log) → figures_of log ≡ None
      go (no9 x) = cases_are log (n log) _ _ _ (no9 x)
      go (no10 x y) = cases_are log (n log) _ _ _ (no10 x y)
      go (no11 x y) = absurd (omega arith)
      go (no12 x y z) = cases_are log (n log) _ _ _ (no12 x y z)
      go (none x y z) =
          absurd (omega (arith, refusal_some f, ap (λ (a : Answer). a.number) (e ∙ settled_is log (length log) (none x (begins_few log (length log)) z))))
