-- What is left and what it means, together.
use Prim.Native.Nat.{ℕ, ◌≤◌, ◌<◌}
use mathlib.Core.Path.{◌≡◌, sym, ◌∙◌}
use mathlib.Core.Bool.{Bool, true}
use mathlib.Core.List.{List}
use lib.Dec.{T}
use lib.ListN.{length, get_or}
use Rattle.history.specs.WellFormed.{well_formed}
use Rattle.judging.specs.Answer.{right_length}
use Rattle.judging.proofs.Asked.{right→}
use Rattle.storing.specs.Strips.{log_of, matched}
use Rattle.storing.specs.Answer.{Stored, Restored}
use Rattle.storing.specs.Meaning.{StoreSays, RestoreSays}
use Rattle.storing.proofs.Matching.{matched→}
use Rattle.storing.proofs.Formed.{formed_back}
use Rattle.storing.proofs.Meaning.{store_says, restore_says}

pub stored : {log b r b' r' : List ℕ} {k : ℕ} → Stored log b r b' r' k → record { leaves : Stored log b r b' r' k; meaning : StoreSays log b r b' r' k }
stored S = record { leaves = S; meaning = store_says S }

pub restored : {bytes rows o o' : List ℕ} {k : ℕ} → ((i : ℕ) → i < length bytes → get_or bytes i 0 < 256) → Restored bytes rows o o' k
    → record { leaves : Restored bytes rows o o' k; meaning : RestoreSays bytes rows o o' k }
restored small R = record { leaves = R; meaning = restore_says small R }

-- question 10, asked of the strips' rows
pub asked_of_rows : (bytes rows : List ℕ) {v : Bool} → ((i : ℕ) → i < length bytes → get_or bytes i 0 < 256) → T (matched bytes rows) → v ≡ well_formed rows
    → v ≡ well_formed (log_of bytes rows)
asked_of_rows bytes rows small t e = e ∙ formed_back bytes rows (matched→ bytes rows t) small

-- what question 9 says, by the code's test
module _ (log : List ℕ) {u : Bool} (x : u ≡ right_length (length log)) (e : u ≡ true) where
  pub some : 1 ≤ length log
  some = (right→ log (rw (sym x ∙ e) tt)).some

  pub few : length log ≤ 4096
  few = (right→ log (rw (sym x ∙ e) tt)).few
