-- Set-up of the counted register: "questions 2 and 4 take n² cells".
use Prim.Native.Nat.{ℕ, ◌*◌}
use mathlib.Core.List.{List}
use lib.ListN.{length}
use Rattle.common.specs.Answers.{number_of}
use Rattle.common.specs.SetUp.{set_up_of}
use Rattle.common.specs.SetUpMeaning.{SetUpSays}
use Rattle.common.proofs.SetUpMeaning.{set_up_says}
use Rattle.counted.specs.Rules.{counted_rules}

pub set_up_means : (n v fresh : ℕ) (t l : List ℕ) → SetUpSays n (n * n) (length t) (length l) (number_of (set_up_of counted_rules n v fresh t l).answer)
set_up_means n v fresh t l = set_up_says counted_rules n v fresh t l
