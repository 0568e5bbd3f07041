-- The locals of the loop that fills the lines.
use Prim.Native.Nat.{ℕ, suc, zero, ◌≤◌, ◌<◌, ◌+◌, ◌-◌, ◌*◌, ◌^◌, max}
use native.Mathlib.Omega.{arith}
use native.Mathlib.Numerals.{add-one}
use native.Mathlib.Decide.{ℕ_discrete, dec_lt}
use mathlib.Core.Path.{◌≡◌, refl, sym, ap, ◌∙◌}
use mathlib.Core.List.{List, map}
use lib.Dec.{T, eqb}
use lib.ListN.{length, get_or, set, replicate, length-set, get_or-map, get_or-eq_default}
use lib.Seq.{get_or-set_same, get_or-set_other}
use borrow.Author.Tests.{eq-eqb, ne_eqb}
use Rattle.std.proofs.lemmas.List.{map-set}
use Rattle.words.specs.Choice.{pick}
use Rattle.words.proofs.Laws.Choice.{pick_T, pick_two}
use Rattle.history.specs.Rows.{begins, kind_of, processor_of, kind_at, processor_at}
use Rattle.history.specs.WellFormed.{open_at, well_formed}
use Rattle.history.specs.History.{history_of}
use Rattle.history.specs.Linearization.{stands_behind}
use Rattle.history.specs.Sweep.{missing}
use Rattle.history.specs.Listing.{listing}
use Rattle.judging.specs.Answer.{settled_of}
use Rattle.judging.specs.Rowwise.{processors, row_place, floor_after, fresh_sweep, sweep_to}
use Rattle.judging.proofs.Asked.{tested}
use Rattle.judging.proofs.Linked.{linked}
use Rattle.judging.proofs.Steps.{proc_in, sweep_one, floors_next, top_next}
use Rattle.judging.proofs.Room.{place_bound}
use Rattle.judging.proofs.Said.{settled}
use Rattle.lags.specs.Lag.{with_write, begun_before, rank_of, lag_of}
use Rattle.lags.specs.Sheet.{reads_to, array_of, reads_of, lags_of, lines_in, line_at}
use Rattle.lags.specs.declared.Line.{Line}
use Rattle.lags.proofs.Counting.{begun_one, begun_suc, begun_few, rank_max, rank_mono, rank_start, rank_before}
use Rattle.lags.proofs.Behind.{ended, ended_there, behind_before, stands_behind_lem, place_above}
use Rattle.lags.proofs.Summed.{added, sum_to, sum_ones, sum_start, sum_suc, sum_zero}
use Rattle.lags.proofs.PerReader.{lag_le}
use Rattle.lags.proofs.Arrays.{array_length, array_at, array_same, array_set, map_array, same_lines, zeros_at, zeros_array}

-- What the rows before k have added, for each processor.
module _ (log : List ℕ) (f : ℕ → ℕ) where
  unfoldable pub sums : ℕ → List ℕ
  sums k = array_of (λ i. sum_to log f i k) processors

  sums_start : T (well_formed log) → replicate processors 0 ≡ sums 1
  unfolding sums
  sums_start w = zeros_array processors ∙ array_same (λ _. 0) (λ i. sum_to log f i 1) processors (λ i _. sym (sum_start log f i w))

  -- The row's share goes to its processor.
  sums_next : (k p x : ℕ) (t : List ℕ) → p < processors → p ≡ processor_of (get_or log k 0) → t ≡ sums k → x ≡ added log f k
      → set t p (get_or t p 0 + x) ≡ sums (k + 1)
  unfolding sums processor_at
  sums_next k p x t b e q y =
      rw q
      (array_set (λ i. sum_to log f i k) (λ i. sum_to log f i (k + 1)) processors p _ b
      (sum_suc log f p k ∙ rw (eq-eqb (processor_of (get_or log k 0)) p (sym e), array_at (λ i. sum_to log f i k) processors p b, y))
      (λ i c. sum_suc log f i k ∙ rw (ne_eqb (processor_of (get_or log k 0)) i (λ z. c (sym (e ∙ z)))) (omega arith)))

  -- They stay small.
  share_le : (c i k : ℕ) → added log f k ≤ c → pick (eqb (processor_at log k) i) (added log f k) 0 ≤ c
  share_le c i k a = pick_T (λ z. z ≤ c) (eqb (processor_at log k) i) (λ _. a) (λ _. omega arith)

  sum_le : (c i k : ℕ) → ((e : ℕ) → e < k → added log f e ≤ c) → sum_to log f i k ≤ k * c
  sum_le c i zero g = omega (arith, sum_zero log f i)
  sum_le c i (suc k) g =
      omega (arith, ap (sum_to log f i) (add-one k), sum_suc log f i k, sum_le c i k (λ e a. g e (omega arith)), share_le c i k (g k (omega arith)))

  sums_le : (c k i : ℕ) (t : List ℕ) → t ≡ sums k → ((e : ℕ) → e < k → added log f e ≤ c) → get_or t i 0 ≤ k * c
  unfolding sums
  sums_le c k i t q g = rw q (elim (dec_lt i processors) [
    | yes a ↦ rw (array_at (λ i. sum_to log f i k) processors i a) (sum_le c i k g)
    | no a ↦ rw (get_or-eq_default (array_of (λ i. sum_to log f i k) processors) 0 {n = i} (omega (arith, array_length (λ i. sum_to log f i k) processors))) (omega arith)
  ])

read_le : (log : List ℕ) (k : ℕ) → added log (λ _. 1) k ≤ 1
unfolding added
read_le log k = pick_T (λ z. z ≤ 1) (eqb (kind_at log k) 4) (λ _. omega arith) (λ _. omega arith)

read_is : (log : List ℕ) (k : ℕ) → pick (eqb (kind_of (get_or log k 0)) 4) 1 0 ≡ added log (λ _. 1) k
unfolding added kind_at
read_is log k = refl

-- Beside each floor is its rank, and beside the floor now its own; no floor is above that one.
pub record Ranked (log fs : List ℕ) (t : ℕ) (gs : List ℕ) (u : ℕ) : Type 0 where
  pub size : length gs ≡ processors
  pub below : (i : ℕ) → get_or fs i 0 ≤ t
  pub ranks : (i : ℕ) → get_or gs i 0 ≡ rank_of log (get_or fs i 0)
  pub top : u ≡ rank_of log t

module _ (log : List ℕ) where
  ranked_start : Ranked log (replicate processors 0) 0 (replicate processors 0) 0
  ranked_start = record {
    size = refl;
    below = λ i. omega (arith, zeros_at processors i);
    ranks = λ i. rw (zeros_at processors i) (sym (rank_start log));
    top = sym (rank_start log);
  }

  module _ (fs : List ℕ) (t : ℕ) (gs : List ℕ) (u : ℕ) (R : Ranked log fs t gs u) (p w q : ℕ) (in-fs : length fs ≡ processors) (small : p < processors) where
    ranked_next : {f g n m : ℕ} → f ≡ floor_after w (get_or fs p 0) t → g ≡ floor_after w (get_or gs p 0) u → n ≡ max t q → m ≡ max u (rank_of log (max (get_or fs p 0) q))
        → Ranked log (set fs p f) n (set gs p g) m
    unfolding floor_after
    ranked_next {f} {g} {n} {m} a b c d = record {
      size = length-set gs p g ∙ R.size;
      below = λ i. elim (ℕ_discrete i p) [
        | yes e ↦ rw (e, get_or-set_same fs p f 0 (omega arith), a) (pick_T (λ z. z ≤ n) (begins w) (λ _. omega arith) (λ _. omega (arith, R.below p)))
        | no e ↦ rw (get_or-set_other fs p i f 0 e) (omega (arith, R.below i))
      ];
      ranks = λ i. elim (ℕ_discrete i p) [
        | yes e ↦ rw (e, get_or-set_same fs p f 0 (omega arith), get_or-set_same gs p g 0 (omega (arith, R.size)), a, b)
            (pick_two (λ y z. y ≡ rank_of log z) (begins w) u (get_or gs p 0) t (get_or fs p 0) (λ _. R.top) (λ _. R.ranks p))
        | no e ↦ rw (get_or-set_other fs p i f 0 e, get_or-set_other gs p i g 0 e) (R.ranks i)
      ];
      top =
          let z = rank_max log t q in
          omega (arith, ap (rank_of log) c, rank_max log (get_or fs p 0) q, R.top, rank_mono log {p = get_or fs p 0} {q = t} (R.below p));
    }

-- The locals before row k, of a log that has an order: the ranks gs of the sweep's floors and u of the one now, the lines ls, and the writes begun, n.
pub record Fills (log : List ℕ) (k : ℕ) (gs : List ℕ) (ls : List Line) (u n : ℕ) : Type 0 where
  pub formed : T (well_formed log)
  pub few : length log ≤ 4096
  pub placed : length log ≤ missing (history_of log)
  pub from : 1 ≤ k
  pub upto : k ≤ length log
  pub ranked : Ranked log (sweep_to log k).floors (sweep_to log k).top gs u
  pub reads : map (λ (l : Line). l.reads) ls ≡ sums log (λ _. 1) k
  pub lags : map (λ (l : Line). l.lags) ls ≡ sums log (lag_of log (listing log)) k
  pub begun : n ≡ begun_before log k

pub fills_start : (log : List ℕ) → (settled_of log (length log)).number ≡ 0
    → Fills log 1 (replicate processors 0) (replicate processors (record { reads = 0; lags = 0 })) 0 0
unfolding fresh_sweep
fills_start log z =
    let S = settled log log z in
    let w = tested S.asked.log_ok in
    record {
      formed = w;
      few = S.asked.log_ok.size.few;
      placed = S.placed;
      from = omega arith;
      upto = S.asked.log_ok.size.some;
      ranked = rw (sweep_one log) (ranked_start log);
      reads = sums_start log (λ _. 1) w;
      lags = sums_start log (lag_of log (listing log)) w;
      begun = sym (begun_one log);
    }

module _ {log : List ℕ} {k : ℕ} {gs : List ℕ} {ls : List Line} {u n : ℕ} (F : Fills log k gs ls u n) where
  abbrev row : ℕ
  row = get_or log k 0

  pub begun_small : n < 2 ^ 63
  begun_small = omega (arith, F.begun, begun_few log k, F.upto, F.few)

  -- At row k, of processor p.
  module _ (inside : k < length log) {p : ℕ} (e : p ≡ processor_of row) where
    pub is_in_range : p < processors
    is_in_range = rw e (proc_in log F.formed k F.from inside)

    reads_at : get_or (map (λ (l : Line). l.reads) ls) p 0 ≡ (line_at ls p).reads
    reads_at = get_or-map (λ (l : Line). l.reads) ls p (record { reads = 0; lags = 0 })

    lags_at : get_or (map (λ (l : Line). l.lags) ls) p 0 ≡ (line_at ls p).lags
    lags_at = get_or-map (λ (l : Line). l.lags) ls p (record { reads = 0; lags = 0 })

    pub reads_room : {x : ℕ} → x ≡ pick (eqb (kind_of row) 4) 1 0 → (line_at ls p).reads + x < 2 ^ 64
    reads_room a =
        omega (arith, a ∙ read_is log k, read_le log k, reads_at, sums_le log (λ _. 1) 1 k p _ F.reads (λ i _. read_le log i), F.upto, F.few)

    -- Its floor is f, and it raises the floor to q.
    module _ {f q : ℕ} (g : f ≡ get_or (sweep_to log k).floors (processor_of row) 0) (h : q ≡ row_place log (sweep_to log k) k) where
      floor_is : f ≡ get_or (sweep_to log k).floors p 0
      floor_is = rw e g

      pub raised_inside : q < length log
      raised_inside = omega (arith, h, place_bound log F.formed k F.from inside)

      pub floor_rank : get_or gs p 0 ≡ rank_of log f
      floor_rank = F.ranked.ranks p ∙ ap (rank_of log) (sym floor_is)

      module _ (x : kind_of row ≡ 4) where
        behind_is : stands_behind (history_of log) (listing log) (open_at log (processor_at log k) k) ≡ q
        unfolding kind_at
        behind_is = stands_behind_lem log F.formed F.placed k F.from inside x ∙ sym h

        floor_below : f ≤ q
        unfolding row_place
        floor_below = rw (g, h) (place_above log k _ _ x)

        behind_row : q < k
        unfolding kind_at
        behind_row =
            let r = open_at log (processor_at log k) k in
            omega (
              arith,
              behind_is,
              ended_there log F.formed k F.from x,
              behind_before log F.formed F.placed r (ended log F.formed k F.from x),
            )

      -- The rank is counted to from the floor's.
      module _ {m : ℕ} (i : m ≡ rank_of log (max f q)) where
        rank_is : kind_of row ≡ 4 → m ≡ rank_of log q
        rank_is x = let z : max f q ≡ q = omega (arith, floor_below x) in i ∙ ap (rank_of log) z

        pub rank_begun : kind_of row ≡ 4 → m ≤ n
        rank_begun x = omega (arith, rank_is x, rank_before log (behind_row x), F.begun)

        lag_is : pick (eqb (kind_of row) 4) (n - m) 0 ≡ added log (lag_of log (listing log)) k
        unfolding added lag_of kind_at
        lag_is = elim (ℕ_discrete (kind_of row) 4) [
          | yes x ↦ rw (eq-eqb (kind_of row) 4 x, ended_there log F.formed k F.from x, behind_is x, rank_is x, F.begun)
          | no x ↦ rw (ne_eqb (kind_of row) 4 x)
        ]

        module _ {x y : ℕ} (a : x ≡ pick (eqb (kind_of row) 4) 1 0) (b : y ≡ pick (eqb (kind_of row) 4) (n - m) 0) where
          pub lags_room : (line_at ls p).lags + y < 2 ^ 64
          lags_room =
              let l = lag_le log (listing log) F.formed in
              omega (
                arith,
                b ∙ lag_is,
                l k,
                lags_at,
                sums_le log (lag_of log (listing log)) 4096 k p _ F.lags (λ i c. omega (arith, l i, F.upto, F.few)),
                F.upto,
                F.few,
              )

          pub fills_next : {g' u' n' : ℕ} → g' ≡ floor_after row (get_or gs p 0) u → u' ≡ max u m → n' ≡ with_write row n
              → Fills log (k + 1) (set gs p g') (set ls p (record { reads = (line_at ls p).reads + x; lags = (line_at ls p).lags + y })) u' n'
          fills_next r v z =
              let small = is_in_range in
              let size = (linked log F.formed k F.from F.upto).size in
              let s = sweep_to log k in
              let rank : m ≡ rank_of log (max (get_or s.floors p 0) (row_place log s k)) = i ∙ rw (floor_is, h) in
              record {
                formed = F.formed;
                few = F.few;
                placed = F.placed;
                from = omega arith;
                upto = omega arith;
                ranked =
                    rw (floors_next log k F.from, top_next log k F.from, ← e)
                    (ranked_next log s.floors s.top gs u F.ranked p row (row_place log s k) size small refl r refl (v ∙ ap (max u) rank));
                reads = map-set (λ (l : Line). l.reads) ls p _ ∙ rw (← reads_at) (sums_next log (λ _. 1) k p x _ small e F.reads (a ∙ read_is log k));
                lags = map-set (λ (l : Line). l.lags) ls p _ ∙ rw (← lags_at) (sums_next log (lag_of log (listing log)) k p y _ small e F.lags (b ∙ lag_is));
                begun = z ∙ ap (with_write row) F.begun ∙ sym (begun_suc log k F.from);
              }

-- Behind the last row they are the lines.
module _ (log l : List ℕ) where
  reads_are : map (λ (x : Line). x.reads) (lines_in log l) ≡ sums log (λ _. 1) (length log)
  unfolding sums lines_in reads_of sum_to
  reads_are = map_array _ _ processors ∙ sym (array_same _ (reads_of log) processors (λ i _. sum_ones (reads_to log i (length log))))

  lags_are : map (λ (x : Line). x.lags) (lines_in log l) ≡ sums log (lag_of log l) (length log)
  unfolding sums lines_in lags_of sum_to
  lags_are = map_array _ _ processors

  pub lines_are : {k : ℕ} {x : List Line} → k ≡ length log → map (λ (x : Line). x.reads) x ≡ sums log (λ _. 1) k → map (λ (x : Line). x.lags) x ≡ sums log (lag_of log l) k
      → x ≡ lines_in log l
  lines_are {k} {x} a e f =
      same_lines x (lines_in log l) (e ∙ ap (sums log (λ _. 1)) a ∙ sym reads_are) (f ∙ ap (sums log (lag_of log l)) a ∙ sym lags_are)

  -- Figures in them are small.
  pub lines_small : (s : List Line) → T (well_formed log) → length log ≤ 4096 → s ≡ lines_in log l
      → ((i : ℕ) → (line_at s i).reads < 2 ^ 32) × ((i : ℕ) → (line_at s i).lags < 2 ^ 32)
  lines_small s w a e =
      let r = ap (map (λ (x : Line). x.reads)) e ∙ reads_are in
      let t = ap (map (λ (x : Line). x.lags)) e ∙ lags_are in (
        λ i. omega (
          arith,
          get_or-map (λ (x : Line). x.reads) s i (record { reads = 0; lags = 0 }),
          sums_le log (λ _. 1) 1 (length log) i _ r (λ e _. read_le log e),
        ),
        λ i. omega (
          arith,
          get_or-map (λ (x : Line). x.lags) s i (record { reads = 0; lags = 0 }),
          sums_le log (lag_of log l) 4096 (length log) i _ t (λ e b. omega (arith, lag_le log l w e)),
        ),
      )
