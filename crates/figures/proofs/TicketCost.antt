-- The first register: a write has 2n words, a read 2n+3, and n+3 more if it has a second attempt, which needs a store of its own.
use Prim.Native.Nat.{ℕ, suc, ◌+◌, ◌-◌, ◌*◌, ◌≤◌, ◌<◌, min}
use mathlib.Core.Path.{◌≡◌, refl, sym, ap, ◌∙◌}
use mathlib.Core.Logic.{◌≢◌, inl, inr}
use mathlib.Core.Bool.{Bool, false, not, ◌&&◌}
use mathlib.Core.List.{List, [], ◌∷◌}
use native.Mathlib.Omega.{arith}
use native.Mathlib.Decide.{dec_lt}
use lib.Dec.{leb, ltb, eqb}
use borrow.Author.Tests.{le-leb, lt-leb, lt-ltb, le-ltb, eq-eqb, ne_eqb}
use Rattle.words.specs.declared.cell.Cell.{Cell}
use Rattle.words.specs.declared.stamp.Stamp.{Stamp}
use Rattle.words.specs.Counting.{one}
use Rattle.words.proofs.Laws.Choice.{lt_ind}
use Rattle.words.proofs.Laws.Counting.{one_low}
use Rattle.common.specs.Book.{idle, open_with}
use Rattle.protocol.specs.Table.{view}
use Rattle.protocol.specs.Reference.{Operation, Model, Turn, failed, write_turn, read_turn, book}
use Rattle.figures.proofs.Sums.{sum, sum_same, sum_one}
use Rattle.figures.proofs.CostModel.{left, CostModel}
use Rattle.figures.proofs.Alone.{Lasts}
use Rattle.figures.proofs.Looks.{shows, Reading, Own, goes, third, stays, ends, own}
use Rattle.figures.proofs.Stores.{read_keeps, write_keeps}

module _ (n : ℕ) where
  abbrev pub Writing : Operation → Type 0
  Writing idle = Unit {0}
  Writing (open_with v m cells) = m < 2 * n

  abbrev stores : Operation → ℕ
  stores idle = 0
  stores (open_with v m cells) = min n (2 * n - m)

  abbrev second : Operation → ℕ
  second idle = 0
  second (open_with v m cells) = one (failed n m cells)

  abbrev undecided : Operation → ℕ
  undecided idle = 0
  undecided (open_with v m cells) = one (ltb m (n + 3))

  -- a read in its first attempt, of which a look differs from the writer's cell to it
  abbrev differs : Cell → Operation → ℕ
  differs cell idle = 0
  differs cell (open_with v m cells) = one (ltb m (n + 3) && not (shows cell m cells))

  abbrev stale : ℕ → List ℕ → Operation → ℕ
  stale p t o = differs (view n t 0 p) o

  abbrev late : ℕ → List ℕ → ℕ → List Cell → ℕ
  late p t m cells = one (eqb m (n + 2) && not (shows (view n t 0 p) m cells))

  -- a sub-step of a read
  module _ (pos : 1 ≤ n) (cell : Cell) (v m : ℕ) (cells : List Cell) where
    abbrev is_late : ℕ
    is_late = one (eqb m (n + 2) && not (shows cell m cells))

    pub record Costs (o : Operation) : Type 0 where
      pub reading : Reading n o
      pub left_is : left (2 * n + 3 + (n + 3) * second o) o + 1 ≡ left (2 * n + 3 + (n + 3) * one (failed n m cells)) (open_with v m cells) + (n + 3) * is_late
      pub stale_is : is_late + differs cell o ≡ one (ltb m (n + 3) && not (shows cell m cells))
      pub undecided_is : is_late + undecided o ≤ one (ltb m (n + 3))

    pub costs : {o : Operation} → Own n cell m cells o → Costs o
    costs (goes ds h F e) = record {
      reading = inl F;
      left_is = rw (lt-leb (n + 3) (m + 1) (omega arith), lt-leb (n + 3) m (omega arith), ne_eqb m (n + 2) (omega arith)) (omega arith);
      stale_is = rw (ne_eqb m (n + 2) (omega arith), lt-ltb (m + 1) (n + 3) (omega arith), lt-ltb m (n + 3) (omega arith), e) (omega arith);
      undecided_is = rw (ne_eqb m (n + 2) (omega arith), lt-ltb (m + 1) (n + 3) (omega arith), lt-ltb m (n + 3) (omega arith)) (omega arith);
    }
    costs (third ds h e l) =
        let f : failed n (m + 1) ds ≡ not (shows cell m cells) = rw (le-leb (n + 3) (m + 1) (omega arith), e) in
        record {
          reading = inr (record { m_low = omega arith; m_high = omega arith; long = l });
          left_is = rw (lt-leb (n + 3) m (omega arith), eq-eqb m (n + 2) h, f) (omega arith);
          stale_is = rw (eq-eqb m (n + 2) h, le-ltb (m + 1) (n + 3) (omega arith), lt-ltb m (n + 3) (omega arith)) (omega arith);
          undecided_is = rw (eq-eqb m (n + 2) h, le-ltb (m + 1) (n + 3) (omega arith), lt-ltb m (n + 3) (omega arith)) (omega (arith, one_low (not (shows cell m cells))));
        }
    costs (stays ds h e l g) =
        let f : failed n (m + 1) ds ≡ failed n m cells = rw (le-leb (n + 3) (m + 1) (omega arith), le-leb (n + 3) m h, e) in
        let q = ap (λ (x : Bool). (n + 3) * one x) f in
        record {
          reading = inr (record { m_low = omega arith; m_high = omega arith; long = l });
          left_is = rw (ne_eqb m (n + 2) (omega arith)) (omega arith);
          stale_is = rw (ne_eqb m (n + 2) (omega arith), le-ltb (m + 1) (n + 3) (omega arith), le-ltb m (n + 3) h);
          undecided_is = rw (ne_eqb m (n + 2) (omega arith), le-ltb (m + 1) (n + 3) (omega arith), le-ltb m (n + 3) h) (omega arith);
        }
    costs (ends h e) = record {
      reading = tt;
      left_is = rw (ne_eqb m (n + 2) (omega arith)) (omega arith);
      stale_is = rw (ne_eqb m (n + 2) (omega arith), le-ltb m (n + 3) h);
      undecided_is = rw (ne_eqb m (n + 2) (omega arith)) (omega arith);
    }

-- a sub-step of a write
module _ (n : ℕ) (t : List ℕ) (s : Stamp) (v m : ℕ) (cells : List Cell) (low : m < 2 * n) where
  abbrev Next : Operation → Type 0
  Next o = Writing n o × (left (2 * n) o + 1 ≡ 2 * n - m) × (stores n o + one (leb n m) ≤ min n (2 * n - m))

  write_next : Next (write_turn n t s v m cells).op
  unfolding write_turn
  write_next =
      lt_ind (λ (x : Turn). Next x.op) m n _ _ (λ h. (omega arith, omega arith, rw (lt-leb n m h) (omega arith)))
      (λ h. lt_ind (λ (x : Turn). Next x.op) (m + 1) (2 * n) _ _ (λ g. (g, omega arith, rw (le-leb n m h) (omega arith))) (λ g. (tt, omega arith, rw (le-leb n m h) (omega arith))))

  pub write_left : left (2 * n) (write_turn n t s v m cells).op + 1 ≡ 2 * n - m
  write_left = write_next.1

  -- it makes one read stale at most, and only by a store
  makes_stale : (op : ℕ → Operation)
      → let x = write_turn n t s v m cells in
      sum n (λ i. stale n (suc i) x.table (op (suc i))) ≤ sum n (λ i. stale n (suc i) t (op (suc i))) + one (leb n m)
  makes_stale op = at (dec_lt m n)
    where
      kept : (i : ℕ) → i < n → (n ≤ m → m - n ≢ i) → stale n (suc i) (write_turn n t s v m cells).table (op (suc i)) ≡ stale n (suc i) t (op (suc i))
      kept i h ne = ap (λ (c : Cell). differs n c (op (suc i))) (write_keeps n (suc i) (omega arith) h t s v m cells low (λ g e. ne g (omega arith)))

      bit : (c : Cell) (o : Operation) → differs n c o ≤ 1
      bit c idle = omega arith
      bit c (open_with u k ds) = one_low (ltb k (n + 3) && not (shows c k ds))

      at : Dec (m < n) → sum n (λ i. stale n (suc i) (write_turn n t s v m cells).table (op (suc i))) ≤ sum n (λ i. stale n (suc i) t (op (suc i))) + one (leb n m)
      at (yes h) = omega (arith, sum_same n (λ i. stale n (suc i) (write_turn n t s v m cells).table (op (suc i))) (λ i. stale n (suc i) t (op (suc i))) (λ i l. kept i l (λ g. absurd (omega arith))))
      at (no h) =
          omega (
            arith,
            sum_one n (λ i. stale n (suc i) (write_turn n t s v m cells).table (op (suc i))) (λ i. stale n (suc i) t (op (suc i))) (m - n) (omega arith) (λ j l ne. kept j l (λ _ e. ne (sym e))),
            bit (view n (write_turn n t s v m cells).table 0 (suc (m - n))) (op (suc (m - n))),
            ap one (le-leb n m (omega arith)),
          )

module _ (n : ℕ) (pos : 1 ≤ n) where
  read_costs : (p : ℕ) (t : List ℕ) (s : Stamp) (v m : ℕ) (cells : List Cell) → Reading n (open_with v m cells)
      → Costs n pos (view n t 0 p) v m cells (read_turn n p t s m cells).op
  read_costs p t s v m cells h = costs n pos (view n t 0 p) v m cells (own n pos p t s m cells h)

  pub cost_model : CostModel book n (2 * n) (2 * n + 3) (n + 3)
  cost_model = record {
    WOk = Writing n;
    ROk = Reading n;
    second = second n;
    undecided = undecided n;
    stale = stale n;
    stores = stores n;
    w_idle = tt;
    r_idle = tt;
    undecided_idle = refl;
    stale_idle = λ _ _. refl;
    stores_idle = refl;
    w_begun = λ _. omega arith;
    r_begun = inl (record { m_low = omega arith; short = λ _. refl; long = λ h. absurd (omega arith) });
    second_begun = rw (lt-leb (n + 3) 0 (omega arith));
    undecided_begun = one_low (ltb 0 (n + 3));
    stale_begun = λ p t. rw (lt-ltb 0 (n + 3) (omega arith));
    stores_begun = λ _. omega arith;
    write_ok = λ t s v m cells h. (write_next n t s v m cells h).0;
    write_left = λ t s v m cells h. (write_next n t s v m cells h).1;
    write_makes_stale = λ t s v m cells h op. omega (arith, (write_next n t s v m cells h).2, makes_stale n t s v m cells h op);
    read_ok = λ p p1 pn t s v m cells h. (read_costs p t s v m cells h).reading;
    late = late n;
    left_read = λ p p1 pn t s v m cells h. (read_costs p t s v m cells h).left_is;
    read_stale = λ p p1 pn t s v m cells h.
        ap (λ (c : Cell). late n p t m cells + differs n c (read_turn n p t s m cells).op) (read_keeps n p p1 pn p p1 pn t s m cells)
        ∙ (read_costs p t s v m cells h).stale_is;
    read_undecided = λ p p1 pn t s v m cells h. (read_costs p t s v m cells h).undecided_is;
    read_others = λ p p1 pn t s m cells q q1 qn _ o. ap (λ (c : Cell). differs n c o) (read_keeps n q q1 qn p p1 pn t s m cells);
  }

  -- a read that has looked once, at another cell than the one that now stands there
  module _ (p : ℕ) (t : List ℕ) (c : Cell) (e : shows (view n t 0 p) 1 (c ∷ []) ≡ false) where
    pub looked_second : cost_model.second (open_with 0 1 (c ∷ [])) ≡ 0
    unfolding cost_model
    looked_second = rw (lt-leb (n + 3) 1 (omega arith))

    pub looked_stale : cost_model.stale p t (open_with 0 1 (c ∷ [])) ≡ 1
    unfolding cost_model
    looked_stale = rw (e, lt-ltb 1 (n + 3) (omega arith))

-- Tickets do not run out.
pub lasts : (n len : ℕ) → Lasts book n len
lasts n len = record { Can = λ _ _. Unit {0}; can_begin = λ _ _ _ _. refl; can_call = λ _ _ _ _ _. tt }

pub can_always : (n len g : ℕ) (b : Model) → (lasts n len).Can g b
unfolding lasts
can_always n len g b = tt
