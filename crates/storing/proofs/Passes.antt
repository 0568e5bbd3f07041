-- What was stored passes question 16.
use Prim.Native.Nat.{ℕ, suc, ◌<◌, ◌+◌}
use native.Mathlib.Omega.{arith}
use mathlib.Core.Path.{sym}
use mathlib.Core.List.{List, [], ◌∷◌, map}
use lib.ListN.{length, get_or, length-map}
use lib.Dec.{T, eqb}
use Rattle.words.proofs.Laws.Choice.{and_T, eq→T}
use Rattle.words.proofs.Laws.Same.{→same}
use Rattle.history.specs.Rows.{processor_of}
use Rattle.storing.specs.Gather.{gather}
use Rattle.storing.specs.Strips.{strip_bytes, strip_rows, sorted, matched}
use Rattle.storing.proofs.Onward.{gather_all, map_gather}
use Rattle.storing.proofs.Back.{processor_small}

pub stored_matched : (log : List ℕ) → 0 < length log → T (matched (strip_bytes log) (strip_rows log))
unfolding matched sorted strip_bytes strip_rows
stored_matched [] a = absurd (omega arith)
stored_matched (h ∷ r) a =
    and_T (eqb (suc (length (gather processor_of 256 r))) (length (map processor_of r) + 1)) _
    (eq→T (suc (length (gather processor_of 256 r))) (length (map processor_of r) + 1) (omega (arith, gather_all processor_of 256 r (λ i _. processor_small (get_or r i 0)), length-map r processor_of)))
    (→same _ _ (sym (map_gather processor_of 256 r)))
