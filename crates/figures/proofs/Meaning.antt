-- Every answer says what it means, of both registers.
use Prim.Native.Nat.{ℕ, ◌+◌, ◌-◌, ◌*◌, ◌^◌, ◌≤◌, ◌<◌, min}
use mathlib.Core.Path.{◌≡◌, refl, sym, ap, subst, ◌∙◌}
use mathlib.Core.Logic.{◌⊎◌, inl, inr}
use mathlib.Core.Bool.{Bool, true, false, ◌&&◌}
use mathlib.Core.List.{List}
use native.Mathlib.Omega.{arith}
use lib.Dec.{leb}
use borrow.Author.Tests.{le-leb, leb-true, leb-false}
use Rattle.words.proofs.Laws.Choice.{pick_ind, le_ind, left, right, both}
use Rattle.common.specs.declared.calls.Call.{Call}
use Rattle.common.specs.SetUp.{readers_fit, rows_fit}
use Rattle.common.specs.Book.{fresh_model}
use Rattle.protocol.specs.Reference as Tickets
use Rattle.counted.specs.Reference as Counted
use Rattle.counted.specs.State.{last_stamp}
use Rattle.figures.specs.declared.Figures.{Figures}
use Rattle.figures.specs.Sizing.{Sizing}
use Rattle.figures.specs.Sizing.{rows_for, write_words, read_words, second_words, least_words, most_words, size_of}
use Rattle.figures.specs.Meaning.{NoneFull, Ends, Hold, Sharp, Mean, NoLog, UpTo2000, Says}
use Rattle.figures.proofs.Figured.{rows_low, rows_room, enough, between, alone, ends_of, fewest}
use Rattle.figures.proofs.CountedCost as CountedCost
use Rattle.figures.proofs.TicketCost as TicketCost
use Rattle.figures.proofs.Most.{late_reached}

-- the figures that are given
abbrev figures : Bool → ℕ → ℕ → ℕ → Figures
figures counted n writes reads =
    record { rows = rows_for writes reads; least = least_words counted n writes reads; most = most_words counted n writes reads }

-- a log that set-up takes has 3 rows or more
fit_low : (len : ℕ) → rows_fit len ≡ true → (3 ≤ len) × (len ≤ 4096)
fit_low len e = (leb-true 3 len (left (leb 3 len) (leb len 4096) e), leb-true len 4096 (right (leb 3 len) (leb len 4096) e))

module _ (n writes reads : ℕ) (pos : 1 ≤ n) (few : n ≤ 16) where
  -- the first register
  tickets_fewest : (v len : ℕ) → 3 ≤ len → NoneFull Tickets.book n v 0 len writes reads → rows_for writes reads ≤ len
  tickets_fewest v len h F =
      fewest Tickets.book n v 0 len (2 * n) (2 * n + 3) (n + 3) (TicketCost.cost_model n pos) pos (TicketCost.lasts n len) writes reads
      (λ g _. TicketCost.can_always n len g (fresh_model Tickets.book n v 0)) h F

  tickets_reached : (v len d x : ℕ) → v < 2 ^ 32 → d ≤ reads → d ≤ n * writes → 2 * n * writes + (2 * n + 3) * reads + (n + 3) * d ≡ x → rows_for writes reads ≤ len
      → (cs : List Call) × Ends Tickets.book n v 0 len writes reads x cs
  tickets_reached v len d x low h g e room =
      subst (λ (k : ℕ). (cs : List Call) × Ends Tickets.book n v 0 len writes reads k cs) e
      (ends_of Tickets.book n v 0 len (2 * n) (2 * n + 3) (n + 3) (TicketCost.cost_model n pos) pos (TicketCost.lasts n len) writes reads _
      (late_reached n len pos few v writes reads d low h g (rows_room writes reads len room)))

  tickets_sharp : (v : ℕ) → v < 2 ^ 32 → Sharp Tickets.book n v 0 writes reads (figures false n writes reads)
  unfolding most_words least_words write_words read_words second_words
  tickets_sharp v low = record {
    fewest = λ len e F. tickets_fewest v len (fit_low len e).0 F;
    least_reached = λ len h. tickets_reached v len 0 (least_words false n writes reads) low (omega arith) (omega arith) (omega arith) h;
    most_reached = λ len h. tickets_reached v len (min reads (n * writes)) (most_words false n writes reads) low (omega arith) (omega arith) (omega arith) h;
  }

  tickets_hold : (v : ℕ) → Hold Tickets.book n v 0 writes reads (figures false n writes reads)
  unfolding most_words least_words write_words read_words second_words
  tickets_hold v = record {
    enough = λ len h. enough Tickets.book n v 0 len writes reads h;
    between = λ len words cs D.
        let z = between Tickets.book n v 0 len (2 * n) (2 * n + 3) (n + 3) (TicketCost.cost_model n pos) pos writes reads words cs D in (omega (arith, z.0), omega (arith, z.1));
  }

  -- the counted register
  counted_fewest : (v fresh len : ℕ) → fresh + writes ≤ last_stamp → 3 ≤ len → NoneFull Counted.book n v fresh len writes reads → rows_for writes reads ≤ len
  counted_fewest v fresh len last h F =
      fewest Counted.book n v fresh len n (2 * n - 1) 0 (CountedCost.cost_model n pos) pos (CountedCost.lasts n len) writes reads
      (λ g l. CountedCost.fresh_can n len v fresh g (omega arith)) h F

  counted_reached : (v fresh len x : ℕ) → fresh + writes ≤ last_stamp → n * writes + (2 * n - 1) * reads ≡ x → rows_for writes reads ≤ len
      → (cs : List Call) × Ends Counted.book n v fresh len writes reads x cs
  counted_reached v fresh len x last e room =
      subst (λ (k : ℕ). (cs : List Call) × Ends Counted.book n v fresh len writes reads k cs) e
      (ends_of Counted.book n v fresh len n (2 * n - 1) 0 (CountedCost.cost_model n pos) pos (CountedCost.lasts n len) writes reads _
      (alone Counted.book n v fresh len n (2 * n - 1) 0 (CountedCost.cost_model n pos) pos (CountedCost.lasts n len) writes reads
      (CountedCost.fresh_can n len v fresh writes last) (rows_room writes reads len room)))

  counted_sharp : (v fresh : ℕ) → fresh + writes ≤ last_stamp → Sharp Counted.book n v fresh writes reads (figures true n writes reads)
  unfolding most_words least_words write_words read_words second_words
  counted_sharp v fresh last = record {
    fewest = λ len e F. counted_fewest v fresh len last (fit_low len e).0 F;
    least_reached = λ len h. counted_reached v fresh len (least_words true n writes reads) last (omega arith) h;
    most_reached = λ len h. counted_reached v fresh len (most_words true n writes reads) last (omega arith) h;
  }

  counted_hold : (v fresh : ℕ) → Hold Counted.book n v fresh writes reads (figures true n writes reads)
  unfolding most_words least_words write_words read_words second_words
  counted_hold v fresh = record {
    enough = λ len h. enough Counted.book n v fresh len writes reads h;
    between = λ len words cs D.
        let z = between Counted.book n v fresh len n (2 * n - 1) 0 (CountedCost.cost_model n pos) pos writes reads words cs D in (omega (arith, z.0), omega (arith, z.1));
  }

  means : (counted : Bool) → Mean counted n writes reads (figures counted n writes reads)
  means false = λ v low. (tickets_hold v, tickets_sharp v low)
  means true = λ v fresh low. (counted_hold v fresh, counted_sharp v fresh)

  no_log : (counted : Bool) → 4096 < rows_for writes reads → NoLog counted n writes reads
  no_log false h = λ v len low e F. omega (arith, (fit_low len e).1, tickets_fewest v len (fit_low len e).0 F)
  no_log true h = λ v fresh len low last e F. omega (arith, (fit_low len e).1, counted_fewest v fresh len last (fit_low len e).0 F)

-- one of them is larger
larger : (writes reads : ℕ) → (leb writes 2000 && leb reads 2000) ≡ false → (2000 < writes) ⊎ (2000 < reads)
larger writes reads e = at (leb writes 2000) refl
  where
    at : (t : Bool) → leb writes 2000 ≡ t → (2000 < writes) ⊎ (2000 < reads)
    at true f = inr (leb-false reads 2000 (sym (ap (λ (z : Bool). z && leb reads 2000) f) ∙ e))
    at false f = inl (leb-false writes 2000 f)

no_readers : (n : ℕ) → readers_fit n ≡ false → (n < 1) ⊎ (16 < n)
no_readers n e = at (leb 1 n) refl
  where
    at : (t : Bool) → leb 1 n ≡ t → (n < 1) ⊎ (16 < n)
    at true f = inr (leb-false n 16 (sym (ap (λ (z : Bool). z && leb n 16) f) ∙ e))
    at false f = inl (leb-false 1 n f)

pub says : (counted : Bool) (n writes reads : ℕ) → Says counted n writes reads (size_of counted n writes reads)
unfolding size_of
says counted n writes reads =
    pick_ind P (readers_fit n) _ _
    (λ e. pick_ind P (leb writes 2000 && leb reads 2000) _ _
    (λ f. le_ind P (rows_for writes reads) 4096 _ _
    (λ h. (e, few f, both _ _ (le-leb 3 (rows_for writes reads) (rows_low writes reads)) (le-leb (rows_for writes reads) 4096 h), means n writes reads (low e) (high e) counted))
    (λ h. (e, few f, no_log n writes reads (low e) (high e) counted h)))
    (λ f. (e, larger writes reads f)))
    (no_readers n)
  where
    P : Sizing → Type 0
    P = Says counted n writes reads

    low : readers_fit n ≡ true → 1 ≤ n
    low e = leb-true 1 n (left (leb 1 n) (leb n 16) e)

    high : readers_fit n ≡ true → n ≤ 16
    high e = leb-true n 16 (right (leb 1 n) (leb n 16) e)

    few : (leb writes 2000 && leb reads 2000) ≡ true → UpTo2000 writes reads
    few f = (leb-true writes 2000 (left (leb writes 2000) (leb reads 2000) f), leb-true reads 2000 (right (leb writes 2000) (leb reads 2000) f))
