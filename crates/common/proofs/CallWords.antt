-- Calls in words.
use Prim.Native.Nat.{ℕ, zero, suc, ◌<◌}
use mathlib.Core.Path.{◌≡◌}
use mathlib.Core.List.{List, [], ◌∷◌}
use mathlib.Core.Bool.{true, ◌&&◌}
use native.Mathlib.Omega.{arith}
use native.Mathlib.Nat.{mod-lt}
use lib.Dec.{eqb, ltb}
use lib.ListN.{take}
use borrow.Author.Tests.{ltb-true}
use Rattle.words.proofs.Laws.Choice.{pick_ind, left, right}
use Rattle.common.specs.Calls.{Call, LowCall, LowCalls}
use Rattle.common.specs.CallWords.{kind_of, is_call, call_in, calls_in}

-- a place that both the words and the answers have
pub in_words : (i a b : ℕ) → (ltb i a && ltb i b) ≡ true → i < a
in_words i a b e = ltb-true i a (left (ltb i a) (ltb i b) e)

pub in_places : (i a b : ℕ) → (ltb i a && ltb i b) ≡ true → i < b
in_places i a b e = ltb-true i b (right (ltb i a) (ltb i b) e)

-- Words are calls with a 32-bit number.
low_call : (w : ℕ) → LowCall (call_in w)
low_call w =
    pick_ind LowCall (eqb (kind_of w) 1) _ _ (λ e. mod-lt w (omega arith))
    (λ e. pick_ind LowCall (eqb (kind_of w) 2) _ _ (λ f. tt)
    (λ f. pick_ind LowCall (eqb (kind_of w) 3) _ _ (λ g. tt) (λ g. tt)))

pub low_calls : (words places : List ℕ) → LowCalls (calls_in words places)
unfolding calls_in
low_calls [] places = tt
low_calls (w ∷ ws) [] = tt
low_calls (w ∷ ws) (a ∷ places) = pick_ind LowCalls (is_call w) _ _ (λ e. (low_call w, low_calls ws places)) (λ e. tt)

pub low_take : (k : ℕ) (cs : List Call) → LowCalls cs → LowCalls (take k cs)
low_take zero cs h = tt
low_take (suc k) [] h = tt
low_take (suc k) (c ∷ cs) h = (h.0, low_take k cs h.1)
