-- What a session lends, and calls that it repeats.
use Rattle.std.specs.Prelude.{ℕ, zero, suc, List, [], ◌∷◌, ◌++◌, replicate}
use Rattle.common.specs.declared.calls.Call.{Call}
use Rattle.common.specs.declared.calls.Call.TheVariants.{Step as step}

-- a table of k cells and a log of k rows to lend, with leftover words
abbrev pub lent : ℕ → List ℕ
lent k = replicate k 77

abbrev pub paper : ℕ → List ℕ
paper k = replicate k 55

-- k sub-steps of processor p
abbrev pub times : ℕ → ℕ → List Call
times k p = replicate k (step p)

-- a list k times over
abbrev pub many : {A : Type 0} → ℕ → List A → List A
many zero l = []
many (suc k) l = l ++ many k l

-- the numbers of k sub-steps
abbrev pub sub_steps : ℕ → List ℕ
sub_steps zero = []
sub_steps (suc k) = sub_steps k ++ (suc k ∷ [])
