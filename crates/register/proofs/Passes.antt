-- Question 4 as the code asks it: by the rules of the kind that the state's head tells.
use Prim.Native.Nat.{ℕ}
use mathlib.Core.Path.{◌≡◌, sym, subst}
use mathlib.Core.Bool.{Bool, true, false}
use mathlib.Core.List.{List}
use lib.ListN.{length}
use Rattle.common.specs.declared.State.{State}
use Rattle.common.specs.declared.calls.Call.{Call}
use Rattle.common.specs.Effects.{Passes}
use Rattle.common.specs.Rules.{state_ok}
use Rattle.common.specs.Register.{call_of}
use Rattle.common.proofs.Lawful.{Lawful}
use Rattle.common.proofs.Keep.{passes_again}
use Rattle.common.proofs.Kind.{kind_kept}
use Rattle.protocol.proofs.Laws.{lawful}
use Rattle.counted.proofs.Laws.{lawful as counted_lawful}
use Rattle.kinds.specs.Rules.{rules_of}

lawful_by : (b : Bool) → Lawful (rules_of b)
lawful_by true = counted_lawful
lawful_by false = lawful

-- "a state that passed 4 passes it again after the call"; (02) its number of open operations "equals the count"
pub passes_again_by_kind : (s : State) (t l : List ℕ) (c : Call) → length s.readers ≡ 16
    → state_ok (rules_of s.head.counted) s (length t) (length l) ≡ true
    → (let o = call_of (rules_of s.head.counted) s t l c in Passes (rules_of o.state.head.counted) o)
passes_again_by_kind s t l c z e =
    let R = rules_of s.head.counted in
    subst (λ (b : Bool). Passes (rules_of b) (call_of R s t l c)) (sym (kind_kept R s t l c)) (passes_again R (lawful_by s.head.counted) s t l c z e)
