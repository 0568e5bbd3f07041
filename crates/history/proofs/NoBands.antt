-- A log that is swept row by row, as a register's is, holds no band.
use Prim.Native.Nat.{ℕ, suc, zero, ◌≤◌, ◌<◌}
use native.Mathlib.Omega.{arith}
use native.Mathlib.Decide.{ℕ_discrete, dec_lt}
use mathlib.Core.Logic.{◌≢◌}
use mathlib.Core.List.{List, [], ◌∷◌}
use lib.Dec.{T, eqb, eqb→eq, ltb}
use lib.ListN.{length, get_or, get_or-eq_default}
use lib.Seq.{get_or-append_seam}
use Rattle.words.proofs.Laws.Choice.{T-left, T-right}
use Rattle.history.specs.Rows.{kind_bits}
use Rattle.history.specs.WellFormed.{head_ok, well_formed}
use Rattle.history.specs.Bands.{NoBands}
use Rattle.history.specs.Stepwise.{Stepwise, starts, write_begins, write_ends, read_begins, read_ends}
use Rattle.history.proofs.Grow.{grown, grown_length, grown_at}
use Rattle.history.proofs.Stepwise.{swept_some}

-- Behind its last row a log has none.
no_row : (log : List ℕ) (k : ℕ) → length log ≤ k → kind_bits (get_or log k 0) ≢ 6
no_row log k a = rw (get_or-eq_default log 0 {n = k} a) (omega arith)

abbrev Plain : List ℕ → Type 0
Plain log = kind_bits (get_or log 0 0) ≢ 6 → NoBands log

more : (log : List ℕ) (x : ℕ) → 0 < length log → kind_bits x < 6 → Plain log → Plain (grown log x)
more log x some low f p k = elim (dec_lt k (length log)) [
  | yes a ↦ rw (grown_at log x k a) (f (rw (grown_at log x 0 some) at p) k)
  | no b ↦ elim (ℕ_discrete k (length log)) [
    | yes e ↦ rw (e, get_or-append_seam log x [] 0) (omega arith)
    | no d ↦ no_row (grown log x) k (omega (arith, grown_length log x))
  ]
]

-- The rows behind the first have the kinds 1 to 4.
from_head : {log : List ℕ} {F : ℕ} {fl : ℕ → ℕ} {w : ℕ} → Stepwise log F fl w → Plain log
from_head (starts x fl) = λ p k. elim k as (λ (k : ℕ). kind_bits (get_or (x ∷ []) k 0) ≢ 6) [ zero ↦ p | suc j ↦ no_row (x ∷ []) (suc j) (omega arith) ]
from_head (write_begins {log = l} x e o s) = more l x (swept_some s) (omega arith) (from_head s)
from_head (write_ends {log = l} x e o s) = more l x (swept_some s) (omega arith) (from_head s)
from_head (read_begins {log = l} x i e o s) = more l x (swept_some s) (omega arith) (from_head s)
from_head (read_ends {log = l} x i q e o S h s) = more l x (swept_some s) (omega arith) (from_head s)

pub swept_plain : {log : List ℕ} {F : ℕ} {fl : ℕ → ℕ} {w : ℕ} → Stepwise log F fl w → T (well_formed log) → NoBands log
unfolding well_formed head_ok
swept_plain {log = log} s t =
    let h : T (head_ok (get_or log 0 0)) = T-left (head_ok (get_or log 0 0)) _ (T-right (ltb 0 (length log)) _ t) in
    let k = eqb→eq (kind_bits (get_or log 0 0)) 5 (T-left (eqb (kind_bits (get_or log 0 0)) 5) _ h) in
    from_head s (omega arith)
