-- The new ticket by a set of barred ones is the one that the papers' sentence names, and so the book's.
use Prim.Native.Nat.{ℕ, ◌+◌, ◌*◌, ◌≤◌, ◌<◌, max}
use mathlib.Core.Path.{◌≡◌, refl, sym, ◌∙◌}
use mathlib.Core.List.{List, [], ◌∷◌, ◌++◌}
use mathlib.Core.Bool.{Bool, true, false, ◌||◌}
use native.Mathlib.Omega.{arith}
use native.Mathlib.Decide.{ℕ_discrete, dec_lt}
use native.Mathlib.Nat.{zero-div}
use lib.ListN.{length}
use lib.Bits.{bit_or}
use lib.Count.{ones}
use lib.Dec.{eqb}
use Rattle.words.specs.declared.cell.Cell.{Cell}
use Rattle.words.specs.Counting.{one}
use Rattle.words.specs.declared.stamp.Stamp.{Stamp}
use Rattle.protocol.specs.Tickets.{bit, with_ticket, smallest_out, with_cell, through, walk_on}
use Rattle.protocol.specs.NewTicket.{Above, Walks}
use Rattle.protocol.specs.Reference.{is_in, named_tickets, excluded_tickets, ticket_after}
use Rattle.protocol.proofs.Tickets.{bit_or_lem, below_in, first_out, first_le_ones, through_in, through_out}
use Rattle.protocol.proofs.NewTicket.{one_walk, seek, walks_low, walks, after_low, in_without, none_without}
use Rattle.protocol.proofs.Excluded.{mask, with_or}
use Rattle.protocol.proofs.Masks.{mask_bit, none_mask}

-- The set of the cells read.
unfoldable pub bars : ℕ → List Cell → ℕ
bars b [] = b
bars b (c ∷ cs) = bars (with_cell b c) cs

pub bars_more : (b : ℕ) (cs : List Cell) (c : Cell) → bars b (cs ++ c ∷ []) ≡ with_cell (bars b cs) c
unfolding bars
bars_more b [] c = refl
bars_more b (x ∷ cs) c = bars_more (with_cell b x) cs c

with_bit : (s u t : ℕ) → t < 63 → bit (with_ticket s u) t ≡ max (bit s t) (one (eqb t u))
with_bit s u t h = rw (with_or s u, bit_or_lem s (mask u) t, mask_bit u t h)

one_or : (a b : Bool) → one (a || b) ≡ max (one a) (one b)
one_or true true = refl
one_or true false = refl
one_or false true = refl
one_or false false = refl

max_assoc : (a b c : ℕ) → max (max a b) c ≡ max a (max b c)
max_assoc a b c = omega arith

named_in : (st : Stamp) (t : ℕ) → t < 63 → (b : ℕ) (cs : List Cell) → bit (with_ticket (with_ticket (bars b cs) st.cur) st.prev) t ≡ max (bit b t) (one (is_in t (named_tickets st cs)))
unfolding bars named_tickets is_in
named_in st t h b [] = rw (with_bit (with_ticket b st.cur) st.prev t h, with_bit b st.cur t h, one_or (eqb t st.cur) (eqb t st.prev || false), one_or (eqb t st.prev) false) (omega arith)
named_in st t h b (c ∷ cs) =
    rw (
      named_in st t h (with_cell b c) cs,
      with_bit (with_ticket (with_ticket b c.stamp.prev) c.announced.cur) c.announced.prev t h,
      with_bit (with_ticket b c.stamp.prev) c.announced.cur t h,
      with_bit b c.stamp.prev t h,
      one_or (eqb t c.stamp.prev) (eqb t c.announced.cur || (eqb t c.announced.prev || is_in t (named_tickets st cs))),
      one_or (eqb t c.announced.cur) (eqb t c.announced.prev || is_in t (named_tickets st cs)),
      one_or (eqb t c.announced.prev) (is_in t (named_tickets st cs)),
    ) (simp max_assoc)

-- The set is the list, ticket by ticket: none, 63, is in neither.
none_with : (s u : ℕ) → bit (with_ticket s u) 63 ≡ bit s 63
none_with s u = rw (with_or s u, bit_or_lem s (mask u) 63, none_mask u) (omega arith)

none_in : (b : ℕ) (cs : List Cell) → bit (bars b cs) 63 ≡ bit b 63
unfolding bars
none_in b [] = refl
none_in b (c ∷ cs) =
    none_in (with_cell b c) cs
    ∙ none_with (with_ticket (with_ticket b c.stamp.prev) c.announced.cur) c.announced.prev
    ∙ none_with (with_ticket b c.stamp.prev) c.announced.cur
    ∙ none_with b c.stamp.prev

pub bars_in : (st : Stamp) (t : ℕ) → t < 64 → (cs : List Cell)
    → bit (with_ticket (with_ticket (bars 0 cs) st.cur) st.prev) t ≡ one (is_in t (excluded_tickets st cs))
unfolding excluded_tickets
bars_in st t h cs = elim (ℕ_discrete t 63) [
  | yes e ↦ rw (e, none_without (named_tickets st cs)) (none_with (with_ticket (bars 0 cs) st.cur) st.prev ∙ none_with (bars 0 cs) st.cur ∙ none_in 0 cs)
  | no ne ↦ rw (in_without t (named_tickets st cs) ne) (named_in st t (omega arith) 0 cs ∙ rw zero-div (omega arith))
]

one_false : (b : Bool) → one b ≡ 0 → b ≡ false
one_false true e = absurd (omega arith)
one_false false e = refl

-- The set s bars at most 3n+2 tickets.
module _ (n cur s : ℕ) (nh : n ≤ 16) (few : ones s ≤ 3 * n + 2) where
  abbrev Out : ℕ → Type 0
  Out k = bit s k ≡ 0

  abbrev least : ℕ
  least = smallest_out 64 s

  least_out : Out least
  least_out = first_out 64 s (omega (arith, first_le_ones 64 s, few))

  abbrev up : ℕ
  up = smallest_out 64 (bit_or s (through cur))

  -- No ticket below the first one outside is outside.
  first_of : (x k : ℕ) → bit x k ≡ 0 → smallest_out 64 x ≤ k
  first_of x k e = elim (dec_lt k (smallest_out 64 x)) [ yes h ↦ absurd (omega (arith, e, below_in 64 x k h)) | no h ↦ omega arith ]

  first_up : (k : ℕ) → Above n cur Out k → up ≤ k
  first_up k a =
      first_of (bit_or s (through cur)) k
      (bit_or_lem s (through cur) k ∙ omega (arith, a.unbarred, through_out cur k (omega (arith, a.up_to)) a.above))

  is_above : up ≤ 3 * n + 2 → Above n cur Out up
  is_above h = record {
    unbarred = omega (arith, both);
    above = elim (dec_lt cur up) [ yes q ↦ q | no q ↦ absurd (omega (arith, both, through_in cur up (omega arith) (omega arith))) ];
    up_to = h;
  }
    where
      both : max (bit s up) (bit (through cur) up) ≡ 0
      both = sym (bit_or_lem s (through cur) up) ∙ first_out 64 (bit_or s (through cur)) (omega arith)

  pub walks_on : Walks n cur Out (walk_on (3 * n + 2) cur s)
  unfolding walk_on
  walks_on = seek n cur _ _ _ (omega arith) is_above first_up (record { has = least_out; first = first_of s })

  pub walk_low : walk_on (3 * n + 2) cur s ≤ 3 * n + 2
  walk_low = walks_low n cur least least_out (omega (arith, first_le_ones 64 s, few)) walks_on

-- The new ticket of a write: by the set as by the list.
module _ (n : ℕ) (st : Stamp) (cs : List Cell) (nh : n ≤ 16) (len : length cs ≡ n) where
  abbrev set : ℕ
  set = with_ticket (with_ticket (bars 0 cs) st.cur) st.prev

  digit : (t : ℕ) → t ≤ 3 * n + 2 → bit set t ≡ one (is_in t (excluded_tickets st cs))
  digit t h = bars_in st t (omega arith) cs

  pub new_ticket : ones set ≤ 3 * n + 2 → walk_on (3 * n + 2) st.cur set ≡ ticket_after n st cs
  new_ticket few =
      one_walk n st.cur (λ k h e. one_false _ (sym (digit k h) ∙ e)) (λ k h e. digit k h ∙ rw e) (walk_low n st.cur set nh few)
      (after_low n st cs (omega arith)) (walks_on n st.cur set nh few) (walks (excluded_tickets st cs) n st.cur)
