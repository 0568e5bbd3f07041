-- What a write bars: its list of tickets, and the numbered machine's.
use Prim.Native.Nat.{ℕ, zero, suc, ◌≤◌, pred}
use mathlib.Core.Path.{◌≡◌, ◌∙◌, ap}
use mathlib.Core.Logic.{◌≢◌, ◌⊎◌, inl, inr}
use mathlib.Core.List.{List, [], ◌∷◌, ◌++◌, Memᴰ}
use native.Mathlib.Omega.{arith}
use borrow.Author.Tests.{ne_eqb}
use Rattle.words.specs.declared.stamp.Stamp.{Stamp}
use Rattle.words.specs.declared.cell.Cell.{Cell}
use Rattle.numbered.proofs.Machine.{Bars, own, cur, prv}
use Rattle.protocol.specs.Reference.{named_tickets, without_none, excluded_tickets}
use Rattle.protocol.proofs.NewTicket.{kept_ticket, was_ticket}
use Rattle.protocol.proofs.Atomic.Cells.{Low, stamp_of, back_of, stamp_cur, stamp_prev}

-- The barred tickets grow with a cell.
named_old : (s : Stamp) (cs : List Cell) (x : Cell) (t : ℕ) → Memᴰ t (named_tickets s cs) → Memᴰ t (named_tickets s (cs ++ (x ∷ [])))
unfolding named_tickets
named_old s [] x t h = Memᴰ.tail (Memᴰ.tail (Memᴰ.tail h))
named_old s (y ∷ cs) x t (Memᴰ.head e) = Memᴰ.head e
named_old s (y ∷ cs) x t (Memᴰ.tail (Memᴰ.head e)) = Memᴰ.tail (Memᴰ.head e)
named_old s (y ∷ cs) x t (Memᴰ.tail (Memᴰ.tail (Memᴰ.head e))) = Memᴰ.tail (Memᴰ.tail (Memᴰ.head e))
named_old s (y ∷ cs) x t (Memᴰ.tail (Memᴰ.tail (Memᴰ.tail h))) =
    Memᴰ.tail (Memᴰ.tail (Memᴰ.tail (named_old s cs x t h)))

pub bar_old : (s : Stamp) (cs : List Cell) (x : Cell) (t : ℕ) → Memᴰ t (excluded_tickets s cs) → Memᴰ t (excluded_tickets s (cs ++ (x ∷ [])))
unfolding excluded_tickets
bar_old s cs x t h = let r = was_ticket t _ h in kept_ticket t _ r.0 (named_old s cs x t r.1)

abbrev Of : Cell → ℕ → Type 0
Of x t = (t ≡ x.stamp.prev) ⊎ ((t ≡ x.announced.cur) ⊎ (t ≡ x.announced.prev))

named_new : (s : Stamp) (cs : List Cell) (x : Cell) (t : ℕ) → Of x t → Memᴰ t (named_tickets s (cs ++ (x ∷ [])))
unfolding named_tickets
named_new s [] x t (inl e) = Memᴰ.head e
named_new s [] x t (inr (inl e)) = Memᴰ.tail (Memᴰ.head e)
named_new s [] x t (inr (inr e)) = Memᴰ.tail (Memᴰ.tail (Memᴰ.head e))
named_new s (y ∷ cs) x t o = Memᴰ.tail (Memᴰ.tail (Memᴰ.tail (named_new s cs x t o)))

pub bar_new : (s : Stamp) (cs : List Cell) (x : Cell) (t : ℕ) → t ≢ 63 → Of x t → Memᴰ t (excluded_tickets s (cs ++ (x ∷ [])))
unfolding excluded_tickets
bar_new s cs x t ne o = kept_ticket t _ ne (named_new s cs x t o)

-- A reader's cell bars what its numbers do.
pub bars_of : (n : ℕ) (c : ℕ → ℕ) (o a t : ℕ) → Bars n c o a t → Of (back_of c o a) t
bars_of n c (suc o) a t (own _ e) = inl e
bars_of n c zero a t (own g e) = absurd (omega arith)
bars_of n c o (suc a) t (cur _ e) = inr (inl e)
bars_of n c o zero t (cur g e) = absurd (omega arith)
bars_of n c o (suc a) t (prv _ e) = inr (inr e)
bars_of n c o zero t (prv g e) = absurd (omega arith)

-- What bars is a ticket, not none.
pub bars_some : (n : ℕ) (c val : ℕ → ℕ) → Low c val → (o a t : ℕ) → Bars n c o a t → t ≢ 63
bars_some n c val low o a t (own _ e) = omega (arith, low.ticket_low (pred o))
bars_some n c val low o a t (cur _ e) = omega (arith, low.ticket_low a)
bars_some n c val low o a t (prv _ e) = omega (arith, low.ticket_low (pred a))

-- The writer's own cur and prev are barred from the begin on.
named_own : (c : ℕ → ℕ) (d : ℕ) → 1 ≤ d → named_tickets (stamp_of c d) [] ≡ c d ∷ c (pred d) ∷ []
unfolding named_tickets
named_own c d h i = stamp_cur c d h i ∷ stamp_prev c d h i ∷ []

two_kept : (a b : ℕ) → a ≢ 63 → b ≢ 63 → without_none (a ∷ b ∷ []) ≡ a ∷ b ∷ []
unfolding without_none
two_kept a b h g = rw (ne_eqb a 63 h, ne_eqb b 63 g)

pub own_tickets : (c val : ℕ → ℕ) → Low c val → (d : ℕ) → 1 ≤ d → excluded_tickets (stamp_of c d) [] ≡ c d ∷ c (pred d) ∷ []
unfolding excluded_tickets
own_tickets c val low d h =
    ap without_none (named_own c d h) ∙ two_kept (c d) (c (pred d)) (omega (arith, low.ticket_low d)) (omega (arith, low.ticket_low (pred d)))
