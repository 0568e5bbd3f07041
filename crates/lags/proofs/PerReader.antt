-- A reader's ended reads, and the lag of each.
use Prim.Native.Nat.{ℕ, suc, zero, ◌≤◌, ◌<◌, ◌+◌}
use native.Mathlib.Omega.{arith}
use native.Mathlib.Decide.{ℕ_discrete, dec_lt}
use mathlib.Core.Path.{◌≡◌, refl, sym, ap, ◌∙◌}
use mathlib.Core.List.{List, [], ◌∷◌, map}
use lib.Dec.{T, eqb, eqb→eq}
use lib.ListN.{length, get_or, length-map}
use borrow.Author.Tests.{eq-eqb, ne_eqb}
use Rattle.words.proofs.Laws.Choice.{and_T, T-left, T-right, eq→T}
use Rattle.history.specs.Rows.{kind_at, processor_at}
use Rattle.history.specs.WellFormed.{open_at, well_formed}
use Rattle.history.specs.History.{end_at, history_of, Read}
use Rattle.history.specs.Linearization.{Stands, position_in, stands_behind, Orders}
use Rattle.history.specs.Sweep.{missing}
use Rattle.history.specs.Listing.{listing}
use Rattle.history.specs.Form.{OneOf}
use Rattle.history.specs.Earliest.{Earliest}
use Rattle.history.proofs.Placement.{Laws}
use Rattle.history.proofs.WellFormed.{laws, kind_is, row}
use Rattle.history.proofs.Operations.{open→}
use Rattle.history.proofs.LastWrite.{position_at}
use Rattle.lags.specs.Lag.{begun_before, rank_of, lag_of}
use Rattle.lags.specs.Sheet.{ends_read_of, reads_to, reads_of, lags_of}
use Rattle.lags.specs.Meaning.{Lists, LagIs, LineOf}
use Rattle.lags.proofs.Counting.{begun_few, rank_mono, rank_before}
use Rattle.lags.proofs.Behind.{ended, ended_there, behind_before}
use Rattle.lags.proofs.Summed.{head_kind, added}
use Rattle.lags.proofs.Picked.{picked_only, picked_all, picked_rising, picked_none}
use Rattle.lags.proofs.Writes.{number_between, number_begun, number_rank}

pub map_at : (f : ℕ → ℕ) (l : List ℕ) (j x : ℕ) → Stands l j x → get_or (map f l) j 0 ≡ f x
map_at f [] j x s = absurd (omega arith)
map_at f (y ∷ l) zero x s = ap f s.there
map_at f (y ∷ l) (suc j) x s = map_at f l j x (record { within = omega arith; there = s.there })

module _ (log : List ℕ) (w : T (well_formed log)) where
  L : Laws (history_of log)
  L = laws log w

  -- An ended read's end row.
  end_row : (r : ℕ) → Read (history_of log) (length log) r → (0 < end_at log r) × (kind_at log (end_at log r) ≡ 4) × (open_at log (processor_at log (end_at log r)) (end_at log r) ≡ r)
  end_row r x =
      let d = L.read_done r x.is x.ended in
      let p : 0 < end_at log r = omega (arith, L.read_end r x.is) in
      (p, sym (kind_is log w (end_at log r) p) ∙ d.0, d.1)

  not_row_0 : (i e : ℕ) → T (ends_read_of log i e) → 0 < e
  not_row_0 i zero t = absurd (omega (arith, head_kind log w, eqb→eq (kind_at log 0) 4 (T-left (eqb (kind_at log 0) 4) _ t)))
  not_row_0 i (suc e) t = omega arith

  real : (r : ℕ) → Read (history_of log) (length log) r → 0 < r
  real zero x = absurd (omega (arith, x.is, L.start))
  real (suc r) x = omega arith

  -- The reader's own.
  end_reader : (r : ℕ) → Read (history_of log) (length log) r → processor_at log (end_at log r) ≡ processor_at log r
  end_reader r x =
      let d = end_row r x in
      sym (open→ log (processor_at log (end_at log r)) (end_at log r) (omega (arith, d.2, real r x))).own ∙ ap (processor_at log) d.2

  module _ (i : ℕ) where
    -- What stands in reader i's list.
    module _ (e : ℕ) (t : T (ends_read_of log i e)) where
      kind_4 : kind_at log e ≡ 4
      kind_4 = eqb→eq (kind_at log e) 4 (T-left (eqb (kind_at log e) 4) _ t)

      own : processor_at log e ≡ i
      own = eqb→eq (processor_at log e) i (T-right (eqb (kind_at log e) 4) _ t)

      the_read : Read (history_of log) (length log) (open_at log i e)
      the_read = rw (← own) (ended log w e (not_row_0 i e t) kind_4)

      its_end : end_at log (open_at log i e) ≡ e
      its_end = rw (← own) (ended_there log w e (not_row_0 i e t) kind_4)

      its_reader : processor_at log (open_at log i e) ≡ i
      its_reader = sym (end_reader (open_at log i e) the_read) ∙ ap (processor_at log) its_end ∙ own

      open_before : open_at log i e < e
      open_before = omega (arith, L.read_end (open_at log i e) the_read.is, its_end)

    -- Of two of its reads the one that ends later begins behind the other's end.
    begun_behind : (e f : ℕ) → T (ends_read_of log i e) → T (ends_read_of log i f) → e < f → e ≤ open_at log i f
    begun_behind e f t u a = elim (dec_lt (open_at log i f) e) [
      | yes b ↦ absurd ((open→ log i f (real (open_at log i f) (the_read f u))).none e b a (own e t))
      | no b ↦ omega arith
    ]

    -- They are its ended reads.
    pub reads_are : Lists (λ r. Read (history_of log) (length log) r × (processor_at log r ≡ i)) (reads_to log i (length log))
    unfolding reads_to
    reads_are = record {
      only = λ j x s.
          let p = picked_only (ends_read_of log i) (open_at log i) (length log) j x s in
          (rw p.3 at (the_read p.0 p.2), rw p.3 at (its_reader p.0 p.2));
      all = λ r x.
          let d = end_row r x.0 in
          let o : processor_at log (end_at log r) ≡ i = end_reader r x.0 ∙ x.1 in
          let t : T (ends_read_of log i (end_at log r)) = and_T (eqb (kind_at log (end_at log r)) 4) _ (eq→T _ _ d.1) (eq→T _ _ o) in
          let s = picked_all (ends_read_of log i) (open_at log i) (length log) (end_at log r) x.0.ended t in
          let z : open_at log i (end_at log r) ≡ r = rw (← o) d.2 in
          (s.0, rw z at s.1);
      rising = picked_rising (ends_read_of log i) (open_at log i) (λ e f t u a. omega (arith, begun_behind e f t u a, open_before e t)) (length log);
    }

    -- Where i is no reader, there are none.
    pub no_reads : ¬ OneOf (processor_at log 0) i → reads_to log i (length log) ≡ []
    unfolding reads_to
    no_reads n =
        picked_none (ends_read_of log i) (open_at log i) (length log)
        (λ e a t. let R = (row log w e (not_row_0 i e t) a).reader (omega (arith, kind_4 e t)) in
        n (record { low = omega (arith, R.0, own e t); high = omega (arith, R.1, own e t) }))

  module _ (swept : length log ≤ missing (history_of log)) (E : Earliest (history_of log) (listing log)) where
    -- "a read's lag: writes begun before its end row, less the place, among the writes, of the one it stands behind in the judge's order"
    pub lag_is : (r : ℕ) → Read (history_of log) (length log) r → LagIs log (listing log) r (lag_of log (listing log) r)
    unfolding lag_of stands_behind
    lag_is r x =
        let q = stands_behind (history_of log) (listing log) r in
        let s = E.order.reads r x in
        let b = behind_before log w swept r x in
        let less : lag_of log (listing log) r + rank_of log q ≡ begun_before log (end_at log r) = omega (arith, rank_before log b) in
        record {
          begun = begun_before log (end_at log r);
          begun_count = number_begun log (end_row r x).0;
          behind = q;
          position = position_in (listing log) r;
          stands = position_at (listing log) s.0 r s.1;
          behind_is = refl;
          rank = rank_of log q;
          rank_is = number_rank log q;
          less = less;
          between = number_between log b less;
        }

    -- No order gives it a larger one.
    pub lag_largest : (r : ℕ) → Read (history_of log) (length log) r → (l : List ℕ) → Orders log l → lag_of log l r ≤ lag_of log (listing log) r
    unfolding lag_of stands_behind
    lag_largest r x l O =
        let s = E.order.reads r x in
        let t = O.reads r x in
        let a = position_at (listing log) s.0 r s.1 in
        let b = position_at l t.0 r t.1 in
        omega (arith, rank_mono log (E.earliest (position_in (listing log) r) r a x l O (position_in l r) b))

    pub line_of : (i : ℕ) → LineOf log (listing log) i (reads_of log i) (lags_of log (listing log) i)
    unfolding reads_of lags_of
    line_of i = record {
      ended = reads_to log i (length log);
      these = reads_are i;
      number = refl;
      each = map (lag_of log (listing log)) (reads_to log i (length log));
      each_is = λ j r s. rw (map_at (lag_of log (listing log)) (reads_to log i (length log)) j r s) (lag_is r ((reads_are i).only j r s).0);
      as_many = length-map (reads_to log i (length log)) (lag_of log (listing log));
      lags_are = refl;
    }

-- What row k adds to a sum of lags is small.
pub lag_le : (log l : List ℕ) → T (well_formed log) → (k : ℕ) → added log (lag_of log l) k ≤ k
unfolding added lag_of
lag_le log l w zero = rw (ne_eqb (kind_at log 0) 4 (λ e. omega (arith, head_kind log w))) (omega arith)
lag_le log l w (suc k) = elim (ℕ_discrete (kind_at log (suc k)) 4) [
  | yes e ↦ rw (eq-eqb (kind_at log (suc k)) 4 e, ended_there log w (suc k) (omega arith) e) (omega (arith, begun_few log (suc k)))
  | no e ↦ rw (ne_eqb (kind_at log (suc k)) 4 e) (omega arith)
]
