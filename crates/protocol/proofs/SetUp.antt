-- Set-up of the first register: "At least n²+n cells (2)?"
use Prim.Native.Nat.{ℕ, ◌+◌, ◌*◌}
use mathlib.Core.List.{List}
use lib.ListN.{length}
use Rattle.common.specs.Answers.{number_of}
use Rattle.common.specs.SetUp.{set_up_of}
use Rattle.common.specs.SetUpMeaning.{SetUpSays}
use Rattle.common.proofs.SetUpMeaning.{set_up_says}
use Rattle.protocol.specs.Rules.{ticket_rules}

pub set_up_means : (n v : ℕ) (t l : List ℕ) → SetUpSays n (n * n + n) (length t) (length l) (number_of (set_up_of ticket_rules n v 0 t l).answer)
set_up_means n v t l = set_up_says ticket_rules n v 0 t l
