-- A log is stored in its strips.
use Prim.Native.Nat.{ℕ, suc, zero, ◌≤◌, ◌<◌, ◌+◌, ◌-◌}
use native.Mathlib.Omega.{arith}
use native.Mathlib.Decide.{dec_lt}
use mathlib.Core.Path.{◌≡◌, refl, sym, ap, ◌∙◌}
use mathlib.Core.List.{List, [], ◌∷◌, ◌++◌}
use lib.ListN.{length, get_or, take, length-append, length-map}
use lib.Seq.{get_or-take, length-take-le, take-take}
use Rattle.history.specs.Rows.{processor_of, processor_at}
use Rattle.storing.specs.Gather.{strip, gather}
use Rattle.storing.specs.Strips.{strip_bytes, strip_rows}
use Rattle.storing.specs.Meaning.{StripsOf}
use Rattle.storing.proofs.Gathered.{strip_at, strip_less, strip_from, gather_suc}
use Rattle.storing.proofs.Onward.{gather_more, gather_at, gather_all}
use Rattle.storing.proofs.Back.{processor_small, processor_at_lem}

-- The rows after row 0, counted from 0.
module _ (r : List ℕ) where
  abbrev own : ℕ → ℕ
  own i = processor_of (get_or r i 0)

  -- how many rows are of a processor below p, and how many of processor p stand before row i
  abbrev below : ℕ → ℕ
  below p = length (gather processor_of p r)

  abbrev before : ℕ → ℕ → ℕ
  before p i = length (strip processor_of p (take i r))

  below_next : (p q : ℕ) → p < q → below p + length (strip processor_of p r) ≤ below q
  below_next p q a =
      let m = gather_more processor_of (suc p) q r a in
      omega (
        arith,
        ap length (m.1 ∙ ap (◌++ m.0) (gather_suc processor_of p r)),
        length-append (gather processor_of p r ++ strip processor_of p r) m.0,
        length-append (gather processor_of p r) (strip processor_of p r),
      )

  before_less : (i j : ℕ) → i < j → j ≤ length r → before (own i) i < before (own i) j
  before_less i j a c =
      rw (get_or-take j r i 0 a, take-take i j r (omega arith)) at (strip_less processor_of (take j r) i (omega (arith, length-take-le j r c)))

  -- A row stands behind those of the processors below its own and behind those of its own before it.
  place_of : ℕ → ℕ
  place_of i = below (own i) + before (own i) i

  place_below : (i p : ℕ) → i < length r → own i < p → place_of i < below p
  unfolding place_of
  place_below i p a c = omega (arith, below_next (own i) p c, strip_less processor_of r i a)

  place_inside : (i : ℕ) → i < length r → place_of i < length (gather processor_of 256 r)
  place_inside i a = place_below i 256 a (processor_small (get_or r i 0))

  place_there : (i : ℕ) → i < length r → get_or (gather processor_of 256 r) (place_of i) 0 ≡ get_or r i 0
  unfolding place_of
  place_there i a =
      gather_at processor_of (own i) 256 r (before (own i) i) (processor_small (get_or r i 0)) (strip_less processor_of r i a)
      ∙ strip_at processor_of r i a

  place_rising : (i j : ℕ) → i < length r → own i < own j → place_of i < place_of j
  unfolding place_of
  place_rising i j a c = omega (arith, place_below i (own j) a c)

  place_in_order : (i j : ℕ) → j < length r → own i ≡ own j → i < j → place_of i < place_of j
  unfolding place_of
  place_in_order i j a e c = rw (← e) (omega (arith, before_less i j c (omega arith)))

  -- every place is that of a row
  place_onto : (q i : ℕ) → i < below q → (k : ℕ) × (k < length r) × (place_of k ≡ i)
  unfolding gather place_of
  place_onto zero i a = absurd (omega arith)
  place_onto (suc q) i a = elim (dec_lt i (below q)) [
    | yes b ↦ place_onto q i b
    | no b ↦ let h = strip_from processor_of q r (i - below q) (omega (arith, length-append (gather processor_of q r) (strip processor_of q r))) in
        (h.0, h.1, rw h.2 (omega (arith, h.3)))
  ]

-- row k of the log
later : (h : ℕ) (r : List ℕ) (k : ℕ) → 1 ≤ k → get_or (h ∷ r) k 0 ≡ get_or r (k - 1) 0
later h r zero a = absurd (omega arith)
later h r (suc k) a = let e : suc k - 1 ≡ k = omega arith in rw e

pub in_strips : (log : List ℕ) → 1 ≤ length log → StripsOf log (strip_bytes log) (strip_rows log)
unfolding strip_bytes strip_rows processor_at
in_strips [] a = absurd (omega arith)
in_strips (h ∷ r) a = record {
  bytes_number = omega (arith, length-map r processor_of);
  naming = λ k c. processor_at_lem r (k - 1) ∙ sym (of k c.0);
  rows_number = ap suc (gather_all processor_of 256 r (λ i _. processor_small (get_or r i 0)));
  row_0 = refl;
  place = λ k. suc (place_of r (k - 1));
  inside = λ k c. (omega arith, omega (arith, place_inside r (k - 1) (omega arith)));
  there = λ k c. place_there r (k - 1) (omega arith) ∙ sym (later h r k c.0);
  rising = λ j k c d e. omega (arith, place_rising r (j - 1) (k - 1) (omega arith) (omega (arith, of j c.0, of k d.0)));
  in_order = λ j k c d e f. omega (arith, place_in_order r (j - 1) (k - 1) (omega arith) (omega (arith, of j c.0, of k d.0)) (omega arith));
}
  where
    of : (k : ℕ) → 1 ≤ k → processor_at (h ∷ r) k ≡ own r (k - 1)
    of k c = ap processor_of (later h r k c)

-- in the log's own numbers, every place is that of a row
pub every_place : (log : List ℕ) (a : 1 ≤ length log) (m : ℕ) → 1 ≤ m → m < length log
    → (k : ℕ) × (1 ≤ k) × (k < length log) × ((in_strips log a).place k ≡ m)
unfolding in_strips
every_place [] a m b c = absurd (omega arith)
every_place (h ∷ r) a m b c =
    let x = place_onto r 256 (m - 1) (omega (arith, gather_all processor_of 256 r (λ i _. processor_small (get_or r i 0)))) in
    let e : suc x.0 - 1 ≡ x.0 = omega arith in
    (suc x.0, omega arith, omega (arith, x.1), omega (arith, ap (place_of r) e, x.2))
