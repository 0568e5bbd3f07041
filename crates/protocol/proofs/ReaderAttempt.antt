-- A sub-step of an attempt keeps the reader's record the digest of the book's cells.
use Prim.Native.Nat.{ℕ, suc, ◌+◌, ◌-◌, ◌≤◌, ◌<◌}
use mathlib.Core.Path.{◌≡◌, refl, sym, ap, ◌∙◌}
use mathlib.Core.List.{List, [], ◌∷◌, ◌++◌}
use mathlib.Core.Bool.{Bool, true, false, not, ◌&&◌, ◌||◌}
use native.Mathlib.Omega.{arith}
use lib.ListN.{length, length-append}
use lib.Dec.{ltb, eqb}
use borrow.Author.Tests.{eqb-true, lt-ltb, le-ltb}
use Rattle.words.specs.declared.cell.Cell.{Cell}
use Rattle.words.specs.Choice.{pick}
use Rattle.words.specs.Stamp.{none, same}
use Rattle.words.specs.Cell.{pack_cell, unpack_cell}
use Rattle.words.proofs.Laws.Choice.{pick_two, pick_yes, pick_no, left, right}
use Rattle.words.proofs.Laws.Cell.{unpack_pack}
use Rattle.common.specs.declared.Reader.{Reader}
use Rattle.common.specs.State.{value_in}
use Rattle.protocol.specs.Table.{plain}
use Rattle.protocol.specs.Read.{stamp_in, looks_first, moved_on, looks_again, looks_at_other, looks_third}
use Rattle.protocol.specs.Reference.{nth, alike, first_with, agree, Result, result_of, failed}
use Rattle.protocol.proofs.Seen.{nth_old, nth_new, first_old, first_last, first_none, failed_early, failed_late, agree_old}
use Rattle.protocol.proofs.ReaderRel.{result_in, reads, Trying, RRel}

-- The word of a failed read's value.
value_low : (w : ℕ) → value_in w < 4294967296
value_low w = omega arith

none_in : (w : ℕ) → result_in (pack_cell (plain (value_in w) none)) ≡ record { value = value_in w; stamp = none }
unfolding unpack_cell
none_in w =
    ap (λ (c : Cell). record { value = c.value; stamp = c.stamp }) (unpack_pack (plain (value_in w) none) (omega (arith, value_low w)))

-- A sub-step of an attempt that is not its last: what is to show.
module _ (n : ℕ) (nl : 1 ≤ n) (r : Reader) (m : ℕ) (cells : List Cell) (R : RRel n r m cells) (h : R.l < n + 3) where
  abbrev l : ℕ
  l = R.l

  abbrev a : ℕ
  a = pick R.late (n + 2) 0

  abbrev Tr : Trying r cells R.l (pick R.late (n + 2) 0)
  Tr = R.trying h

  -- the first look's tickets
  look_cur : 1 ≤ R.l → (stamp_in r.look).cur ≡ (nth cells a).stamp.cur
  look_cur g = ap (λ (x : Cell). x.stamp.cur) (Tr.look_is g)

  look_prev : 1 ≤ R.l → (stamp_in r.look).prev ≡ (nth cells a).stamp.prev
  look_prev g = ap (λ (x : Cell). x.stamp.prev) (Tr.look_is g)

  -- the count of cells in the first attempt, when in the second
  first_cells : R.late ≡ true → n + 2 ≤ length cells
  first_cells e = omega (arith, Tr.length_is, pick_yes R.late (n + 2) 0 e)

  -- the attempt goes on with the cells that it then has
  failed_on : (cells' : List Cell) → R.l + 1 < n + 3 → (R.late ≡ true → agree n cells' 0 ≡ agree n cells 0)
      → failed n (m + 1) cells' ≡ R.late
  failed_on cells' g same = at R.late refl
    where
      at : (b : Bool) → R.late ≡ b → failed n (m + 1) cells' ≡ R.late
      at true e =
          let q : m ≡ R.l + (n + 3) = R.at ∙ ap (λ (z : ℕ). R.l + z) (pick_yes R.late (n + 3) 0 e) in
          failed_late n (m + 1) cells' (omega arith)
          ∙ ap not (same e)
          ∙ sym (failed_late n m cells (omega arith))
          ∙ R.failed_is
      at false e =
          let q : m ≡ R.l + 0 = R.at ∙ ap (λ (z : ℕ). R.l + z) (pick_no R.late (n + 3) 0 e) in
          failed_early n (m + 1) cells' (omega arith) ∙ sym e

  on : (r' : Reader) (cells' : List Cell) → R.l + 1 < n + 3 → r'.active ≡ true → r'.moved ≡ r.moved + 1 → r'.second ≡ r.second
      → (R.late ≡ true → agree n cells' 0 ≡ agree n cells 0) → Trying r' cells' (R.l + 1) (pick R.late (n + 2) 0) → RRel n r' (m + 1) cells'
  on r' cells' g e1 e2 e3 same T' = record {
    late = R.late;
    l = R.l + 1;
    active_is = e1;
    moved_is = omega (arith, R.moved_is);
    second_is = e3 ∙ R.second_is;
    failed_is = failed_on cells' g same;
    at = omega (arith, R.at);
    trying = λ _. T';
    storing = λ q. absurd (omega arith);
  }

  reads_is : (k : ℕ) → 2 ≤ k → reads k ≡ k - 1
  reads_is k g = pick_no (ltb k 2) k (k - 1) (le-ltb k 2 g)

  reads_low : (k : ℕ) → k < 2 → reads k ≡ k
  reads_low k g = pick_yes (ltb k 2) k (k - 1) (lt-ltb k 2 g)

  -- With the cell of a word more.
  module _ (w : ℕ) where
    abbrev c : Cell
    c = unpack_cell w

    more : length (cells ++ (unpack_cell w ∷ [])) ≡ length cells + 1
    more = simp length-append (omega arith)

    agree_more : R.late ≡ true → agree n (cells ++ (unpack_cell w ∷ [])) 0 ≡ agree n cells 0
    agree_more e = agree_old n cells c 0 (omega (arith, first_cells e))

    pub rel_first : R.l ≡ 0 → RRel n (looks_first (moved_on r) w) (m + 1) (cells ++ (unpack_cell w ∷ []))
    rel_first z =
        on (looks_first (moved_on r) w) (cells ++ (c ∷ [])) (omega arith) refl refl refl agree_more
        (let q : length cells ≡ a = omega (arith, Tr.length_is, reads_low R.l (omega arith)) in
        record {
          length_is = omega (arith, more, q, reads_low (R.l + 1) (omega arith));
          look_is = λ _. sym (nth_new cells c a q);
          agree_is = λ g. absurd (omega arith);
          found_is = λ _ d. sym (first_none (cells ++ (c ∷ [])) _ (unpack_cell d) (a + 2) (R.l + 1 - 3) (omega arith));
        })

    pub rel_again : R.l ≡ 2 → RRel n (looks_again (moved_on r) w) (m + 1) (cells ++ (unpack_cell w ∷ []))
    rel_again z =
        on (looks_again (moved_on r) w) (cells ++ (c ∷ [])) (omega arith) refl refl refl agree_more
        (let q : length cells ≡ a + 1 = omega (arith, Tr.length_is, reads_is R.l (omega arith)) in
        let o : nth (cells ++ (c ∷ [])) a ≡ nth cells a = nth_old cells c a (omega arith) in
        record {
          length_is = omega (arith, more, q, reads_is (R.l + 1) (omega arith));
          look_is = λ _. Tr.look_is (omega arith) ∙ sym o;
          agree_is = λ _. rw (look_cur (omega arith), look_prev (omega arith), o, nth_new cells c (a + 1) q);
          found_is = λ _ d.
              Tr.found_is (omega arith) d
              ∙ first_none cells _ (unpack_cell d) (a + 2) (R.l - 3) (omega arith)
              ∙ sym (first_none (cells ++ (c ∷ [])) _ (unpack_cell d) (a + 2) (R.l + 1 - 3) (omega arith));
        })

    -- A cell that is met: the first that fits stays.
    met : (f e : Bool) (x y z : ℕ) → pick (f || e) (pick f x (pick e y x)) z ≡ pick f x (pick e y z)
    met true e x y z = refl
    met false true x y z = refl
    met false false x y z = refl

    pick_cell : (e : Bool) (x y : ℕ) → unpack_cell (pick e x y) ≡ pick e (unpack_cell x) (unpack_cell y)
    pick_cell true x y = refl
    pick_cell false x y = refl

    pub rel_other : 3 ≤ R.l → R.l < n + 2 → RRel n (looks_at_other (moved_on r) w) (m + 1) (cells ++ (unpack_cell w ∷ []))
    rel_other z y =
        on (looks_at_other (moved_on r) w) (cells ++ (c ∷ [])) (omega arith) refl refl refl agree_more
        (let q : length cells ≡ a + (R.l - 1) = omega (arith, Tr.length_is, reads_is R.l (omega arith)) in
        let o : nth (cells ++ (c ∷ [])) a ≡ nth cells a = nth_old cells c a (omega arith) in
        let x : nth (cells ++ (c ∷ [])) (a + 2 + (R.l - 3)) ≡ c = nth_new cells c (a + 2 + (R.l - 3)) (omega arith) in
        let s : R.l + 1 - 3 ≡ suc (R.l - 3) = omega arith in
        record {
          length_is = omega (arith, more, q, reads_is (R.l + 1) (omega arith));
          look_is = λ _. Tr.look_is (omega arith) ∙ sym o;
          agree_is = λ _. Tr.agree_is z ∙ rw (o, nth_old cells c (a + 1) (omega arith));
          found_is = λ _ d.
              let e : Bool = eqb c.stamp.prev (stamp_in r.look).cur in
              ap unpack_cell (met r.found e r.result w d)
              ∙ Tr.found_is (omega arith) (pick e w d)
              ∙ rw (
                pick_cell e w d,
                look_cur (omega arith),
                s,
                o,
                first_last (cells ++ (c ∷ [])) (nth cells a).stamp.cur (unpack_cell d) (a + 2) (R.l - 3),
                x,
                first_old cells c (nth cells a).stamp.cur (pick (eqb c.stamp.prev (nth cells a).stamp.cur) c (unpack_cell d)) (a + 2) (R.l - 3) (omega arith),
              );
        })

  pub rel_announced : R.l ≡ 1 → RRel n (moved_on r) (m + 1) cells
  rel_announced z =
      on (moved_on r) cells (omega arith) refl refl refl (λ _. refl)
      (record {
        length_is = omega (arith, Tr.length_is, reads_low R.l (omega arith), reads_is (R.l + 1) (omega arith));
        look_is = λ _. Tr.look_is (omega arith);
        agree_is = λ g. absurd (omega arith);
        found_is = λ _ d.
            Tr.found_is (omega arith) d
            ∙ ap (λ (k : ℕ). first_with cells (nth cells a).stamp.cur (unpack_cell d) (a + 2) k) (omega arith);
      })

  -- The third look decides.
  module _ (w : ℕ) (z : R.l ≡ n + 2) where
    abbrev cells' : List Cell
    cells' = cells ++ (unpack_cell w ∷ [])

    long : length cells ≡ a + (n + 1)
    long = omega (arith, Tr.length_is, reads_is R.l (omega arith))

    new : nth cells' (a + (n + 1)) ≡ unpack_cell w
    new = nth_new cells (unpack_cell w) (a + (n + 1)) long

    old : nth cells' a ≡ nth cells a
    old = nth_old cells (unpack_cell w) a (omega (arith, long))

    equal_is : (r.agree && same (stamp_in r.look) (stamp_in w)) ≡ agree n cells' a
    equal_is =
        rw (Tr.agree_is (omega arith), look_cur (omega arith), look_prev (omega arith), new, old, nth_old cells (unpack_cell w) (a + 1) (omega (arith, long)))

    result_is : result_in (looks_third (moved_on r) w).result ≡ result_of n cells' a
    unfolding result_of unpack_cell
    result_is =
        rw equal_is
        (pick_two (λ (x : ℕ) (y : Result). result_in x ≡ y) (agree n cells' a) _ _ _ _
        (λ e.
        let q : (nth cells a).stamp.cur ≡ (unpack_cell w).stamp.cur =
        eqb-true (nth cells a).stamp.cur (unpack_cell w).stamp.cur
        (left (eqb (nth cells a).stamp.cur (unpack_cell w).stamp.cur) (eqb (nth cells a).stamp.prev (unpack_cell w).stamp.prev)
        (rw (new, old) at (right (alike (nth cells' a) (nth cells' (a + 1))) _ e))) in
        let k : R.l - 3 ≡ n - 1 = omega arith in
        let f : unpack_cell (pick r.found r.result w) ≡ first_with cells' (unpack_cell w).stamp.cur (unpack_cell w) (a + 2) (n - 1) =
        Tr.found_is (omega arith) w
        ∙ rw (k, q) (sym (first_old cells (unpack_cell w) (unpack_cell w).stamp.cur (unpack_cell w) (a + 2) (n - 1) (omega (arith, long)))) in
        rw new (ap (λ (x : Cell). record { value = x.value; stamp = x.stamp }) f))
        (λ _. none_in r.look ∙ rw old (ap (λ (x : Cell). record { value = x.value; stamp = none }) (Tr.look_is (omega arith)))))

    pub rel_third : RRel n (looks_third (moved_on r) w) (m + 1) cells'
    rel_third = by R.late refl
      where
        -- the first attempt
        fresh : R.late ≡ false → a ≡ 0
        fresh e = pick_no R.late (n + 2) 0 e

        m_is : R.late ≡ false → m ≡ n + 2
        m_is e = omega (arith, R.at, pick_no R.late (n + 3) 0 e)

        equal0 : R.late ≡ false → (r.agree && same (stamp_in r.look) (stamp_in w)) ≡ agree n cells' 0
        equal0 e = equal_is ∙ ap (agree n cells') (fresh e)

        second' : (b : Bool) → R.late ≡ false → agree n cells' 0 ≡ b → (looks_third (moved_on r) w).second ≡ not b
        second' b e f = rw (equal0 e, f, R.second_is, e)

        by_equal : R.late ≡ false → (b : Bool) → agree n cells' 0 ≡ b → RRel n (looks_third (moved_on r) w) (m + 1) cells'
        by_equal e true f = record {
          late = false;
          l = R.l + 1;
          active_is = refl;
          moved_is = omega (arith, R.moved_is);
          second_is = second' true e f;
          failed_is = failed_late n (m + 1) cells' (omega (arith, m_is e)) ∙ ap not f;
          at = omega (arith, m_is e);
          trying = λ q. absurd (omega arith);
          storing = λ _. result_is ∙ ap (result_of n cells') (fresh e);
        }
        by_equal e false f = record {
          late = true;
          l = 0;
          active_is = refl;
          moved_is = omega (arith, R.moved_is);
          second_is = second' false e f;
          failed_is = failed_late n (m + 1) cells' (omega (arith, m_is e)) ∙ ap not f;
          at = omega (arith, m_is e);
          trying = λ _. record {
            length_is = omega (arith, more w, long, fresh e, reads_low 0 (omega arith));
            look_is = λ q. absurd (omega arith);
            agree_is = λ q. absurd (omega arith);
            found_is = λ q. absurd (omega arith);
          };
          storing = λ q. absurd (omega arith);
        }

        by : (b : Bool) → R.late ≡ b → RRel n (looks_third (moved_on r) w) (m + 1) cells'
        by true e = record {
          late = R.late;
          l = R.l + 1;
          active_is = refl;
          moved_is = omega (arith, R.moved_is);
          second_is = rw (R.second_is, e);
          failed_is = failed_late n (m + 1) cells' (omega (arith, R.at, pick_yes R.late (n + 3) 0 e))
              ∙ ap not (agree_more w e)
              ∙ sym (failed_late n m cells (omega (arith, R.at, pick_yes R.late (n + 3) 0 e)))
              ∙ R.failed_is;
          at = omega (arith, R.at);
          trying = λ q. absurd (omega arith);
          storing = λ _. result_is;
        }
        by false e = by_equal e (agree n cells' 0) refl
