-- What a filled sheet means leaves none of its figures open.
use Prim.Native.Nat.{ℕ, suc, zero, ◌≤◌, ◌<◌, ◌+◌}
use native.Mathlib.Omega.{arith}
use native.Mathlib.Decide.{dec_lt}
use mathlib.Core.Path.{◌≡◌, refl, sym, ap, ◌∙◌}
use mathlib.Core.List.{List, [], ◌∷◌, map}
use lib.Dec.{T}
use lib.ListN.{length, get_or, length-map, get_or-map}
use lib.Seq.{ext_get_or}
use Rattle.history.specs.WellFormed.{well_formed}
use Rattle.history.specs.History.{history_of, Read}
use Rattle.history.specs.Linearization.{Stands, last_write}
use Rattle.history.specs.Form.{OneOf}
use Rattle.history.specs.Earliest.{Earliest}
use Rattle.history.specs.Sweep.{missing}
use Rattle.history.specs.Listing.{listing}
use Rattle.history.proofs.Rising.{Rising}
use Rattle.history.proofs.Unique.{rising_of, rising_same}
use Rattle.history.proofs.Theorems.{has_earliest, ordered_if_swept}
use Rattle.judging.specs.Rowwise.{processors}
use Rattle.judging.proofs.Asked.{tested}
use Rattle.lags.specs.Lag.{lag_of}
use Rattle.lags.specs.Sheet.{reads_to, sum, reads_of, lags_of, array_of, lines_in, line_at, figures_in}
use Rattle.lags.specs.Meaning.{Lists, Number, LagIs, LineOf, Filled}
use Rattle.lags.specs.declared.Line.{Line}
use Rattle.lags.specs.declared.Figures.{Figures}
use Rattle.lags.proofs.Arrays.{array_length, array_at, map_array, same_lines}
use Rattle.lags.proofs.Totals.{over_reads, over_lags}
use Rattle.lags.proofs.PerReader.{reads_are, no_reads, lag_is, map_at}

-- One list has each x with P x, and so they have one number.
below_sum : (l : List ℕ) (i x : ℕ) → Stands l i x → x ≤ sum l
unfolding sum
below_sum [] i x s = absurd (omega arith)
below_sum (y ∷ l) zero x s = omega (arith, s.there)
below_sum (y ∷ l) (suc i) x s = omega (arith, below_sum l i x (record { within = omega arith; there = s.there }))

module _ {P : ℕ → Type 0} where
  rises : (l : List ℕ) (hi : ℕ) → Lists P l → sum l < hi → Rising (λ x. x) 0 l hi
  rises l hi A a = rising_of (λ x. x) l 0 hi (omega arith) (λ i x s. (omega arith, omega (arith, below_sum l i x s))) A.rising

  one_list : (l m : List ℕ) → Lists P l → Lists P m → l ≡ m
  one_list l m A B =
      let hi = suc (sum l + sum m) in
      rising_same (λ x. x) l m 0 hi (rises l hi A (omega arith)) (rises m hi B (omega arith)) (λ i x s. B.all x (A.only i x s)) (λ i x s. A.all x (B.only i x s))

  one_number : {n m : ℕ} → Number P n → Number P m → n ≡ m
  one_number A B = A.number ∙ ap length (one_list A.which B.which A.these B.these) ∙ sym B.number

module _ (log : List ℕ) (w : T (well_formed log)) (swept : length log ≤ missing (history_of log)) (E : Earliest (history_of log) (listing log)) where
  -- a read has one lag
  one_lag : (r n : ℕ) → Read (history_of log) (length log) r → LagIs log (listing log) r n → n ≡ lag_of log (listing log) r
  one_lag r n x A =
      let B = lag_is log w swept E r x in
      let p : A.position ≡ B.position = E.order.once A.position B.position r A.stands B.stands in
      let b : A.behind ≡ B.behind = A.behind_is ∙ ap (last_write (history_of log) (listing log)) p ∙ sym B.behind_is in
      let k : A.rank ≡ B.rank = one_number A.rank_is (rw b B.rank_is) in
      omega (arith, one_number A.begun_count B.begun_count, A.less, B.less)

  -- and a reader one line
  module _ (i k s : ℕ) (A : LineOf log (listing log) i k s) where
    ended_are : A.ended ≡ reads_to log i (length log)
    ended_are = one_list A.ended (reads_to log i (length log)) A.these (reads_are log w i)

    one_reads : k ≡ reads_of log i
    unfolding reads_of
    one_reads = A.number ∙ ap length ended_are

    each_are : A.each ≡ map (lag_of log (listing log)) A.ended
    each_are =
        ext_get_or 0 A.each (map (lag_of log (listing log)) A.ended) (A.as_many ∙ sym (length-map A.ended (lag_of log (listing log))))
        (λ j a. let t : Stands A.ended j (get_or A.ended j 0) = record { within = omega (arith, A.as_many); there = refl } in
        one_lag _ _ (A.these.only j _ t).0 (A.each_is j _ t) ∙ sym (map_at (lag_of log (listing log)) A.ended j _ t))

    one_lags : s ≡ lags_of log (listing log) i
    unfolding lags_of
    one_lags = A.lags_are ∙ ap sum each_are ∙ ap (λ (l : List ℕ). sum (map (lag_of log (listing log)) l)) ended_are

-- So a log has one sheet.
module _ (log : List ℕ) (f : Figures) (A : Filled log f) where
  w : T (well_formed log)
  w = tested A.log_ok

  E : Earliest (history_of log) (listing log)
  E = has_earliest log w A.order A.earliest.order

  swept : length log ≤ missing (history_of log)
  swept = omega (arith, (ordered_if_swept log w).0 (A.order, A.earliest.order))

  line : (i : ℕ) → OneOf f.readers i → LineOf log (listing log) i (line_at f.lines i).reads (line_at f.lines i).lags
  line i o = rw (← A.only (listing log) E) at (A.per_reader i o)

  figure : (i : ℕ) → Dec (OneOf f.readers i) → ((line_at f.lines i).reads ≡ reads_of log i) × ((line_at f.lines i).lags ≡ lags_of log (listing log) i)
  figure i (yes o) = (one_reads log w swept E i _ _ (line i o), one_lags log w swept E i _ _ (line i o))
  figure i (no n) =
      let z = no_reads log w i (λ o. n (rw A.readers_are o)) in
      let m = A.no_others i n in
      unfold reads_of lags_of sum in (m.0 ∙ rw z, m.1 ∙ rw z)

  one_of : (n i : ℕ) → Dec (OneOf n i)
  one_of n i = elim (dec_lt i 1) [
    | yes a ↦ no (λ o. omega (arith, o.low))
    | no a ↦ elim (dec_lt n i) [ yes b ↦ no (λ o. omega (arith, o.high)) | no b ↦ yes (record { low = omega arith; high = omega arith }) ]
  ]

  array_is : (l : List ℕ) (g : ℕ → ℕ) → length l ≡ processors → ((i : ℕ) → get_or l i 0 ≡ g i) → l ≡ array_of g processors
  array_is l g e a =
      ext_get_or 0 l (array_of g processors) (e ∙ sym (array_length g processors)) (λ i b. a i ∙ sym (array_at g processors i (omega arith)))

  lines_are : f.lines ≡ lines_in log (listing log)
  unfolding lines_in
  lines_are =
      same_lines f.lines (lines_in log (listing log))
      (array_is (map (λ (l : Line). l.reads) f.lines) (reads_of log) (length-map f.lines _ ∙ A.size)
      (λ i. get_or-map (λ (l : Line). l.reads) f.lines i (record { reads = 0; lags = 0 }) ∙ (figure i (one_of f.readers i)).0) ∙ sym (map_array _ _ processors))
      (array_is (map (λ (l : Line). l.lags) f.lines) (lags_of log (listing log)) (length-map f.lines _ ∙ A.size)
      (λ i. get_or-map (λ (l : Line). l.lags) f.lines i (record { reads = 0; lags = 0 }) ∙ (figure i (one_of f.readers i)).1) ∙ sym (map_array _ _ processors))

  pub one_sheet : f ≡ figures_in log (listing log)
  unfolding figures_in
  one_sheet =
      let r = A.reads_over ∙ rw (lines_are, A.readers_are) (over_reads log A.log_ok (listing log)) in
      let l = A.lags_over ∙ rw (lines_are, A.readers_are) (over_lags log A.log_ok (listing log)) in
      λ i. record { readers = A.readers_are i; lines = lines_are i; total = record { reads = r i; lags = l i } }
