-- In both tellings the result is the cell that the papers name, and is shown as they say.
use Prim.Native.Nat.{ℕ, zero, suc, ◌≤◌}
use native.Mathlib.Omega.{arith}
use native.Mathlib.Decide.{ℕ_discrete}
use mathlib.Core.Path.{◌≡◌}
use mathlib.Core.Logic.{◌≢◌}
use mathlib.Core.Bool.{true, false}
use mathlib.Core.List.{List}
use borrow.Author.Tests.{eq-eqb}
use Rattle.words.specs.declared.cell.Cell.{Cell}
use Rattle.words.specs.Stamp.{none}
use Rattle.words.proofs.Laws.Choice.{eq_ind}
use Rattle.common.specs.declared.Reader.{Reader}
use Rattle.common.specs.State.{value_in}
use Rattle.protocol.proofs.Shown.{shows}
use Rattle.protocol.specs.Read.{stamp_in, looks_at_other, showing}
use Rattle.protocol.specs.Reference.{nth, first_with, Result, shown}
use Rattle.protocol.specs.Result.{FirstWhose, found, not_found, Shows}

pub first_whose : (cells : List Cell) (t : ℕ) (d : Cell) (k r : ℕ) → FirstWhose (nth cells) t k r d (first_with cells t d k r)
unfolding first_with
first_whose cells t d k zero = not_found (λ i h g. absurd (omega arith))
first_whose cells t d k (suc r) = eq_ind (FirstWhose (nth cells) t k (suc r) d) (nth cells k).stamp.prev t _ _
    (λ e. found k (omega arith) (omega arith) e (λ i h g. absurd (omega arith))) (λ ne. past ne (first_whose cells t d (suc k) r))
  where
    here_or : (nth cells k).stamp.prev ≢ t → (i : ℕ) → k ≤ i → (suc k ≤ i → (nth cells i).stamp.prev ≢ t) → (nth cells i).stamp.prev ≢ t
    here_or ne i h f = elim (ℕ_discrete i k) [ yes e ↦ rw e ne | no q ↦ f (omega arith) ]

    past : (nth cells k).stamp.prev ≢ t → {c : Cell} → FirstWhose (nth cells) t (suc k) r d c → FirstWhose (nth cells) t k (suc r) d c
    past ne (found j h g e before) = found j (omega arith) (omega arith) e (λ i a b. here_or ne i a (λ a'. before i a' b))
    past ne (not_found none) = not_found (λ i a b. here_or ne i a (λ a'. none i a' (omega arith)))

-- In a state: a cell once found stays the result, and one is found where its prev equals the cur.
pub first_stays : (r : Reader) (w : ℕ) → r.found ≡ true → ((looks_at_other r w).found ≡ true) × ((looks_at_other r w).result ≡ r.result)
first_stays r w e = (rw e, rw e)

pub first_taken : (r : Reader) (w : ℕ) → r.found ≡ false → (stamp_in w).prev ≡ (stamp_in r.look).cur
    → ((looks_at_other r w).found ≡ true) × ((looks_at_other r w).result ≡ w)
first_taken r w e q = let t = eq-eqb (stamp_in w).prev (stamp_in r.look).cur q in (rw (e, t), rw (e, t))

pub showing_shows : (w : ℕ) → Shows (value_in w) (stamp_in w) (showing w)
showing_shows w = shows (value_in w) (stamp_in w)

pub shown_shows : (x : Result) → Shows x.value x.stamp (shown x)
shown_shows x = shows x.value x.stamp
