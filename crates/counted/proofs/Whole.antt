-- Demand 3 for the counted register: from every accepted set-up, for every list of calls.
use Rattle.std.specs.Prelude.{Ok}
use Prim.Native.Nat.{ℕ, ◌-◌, ◌*◌, ◌^◌, ◌<◌}
use mathlib.Core.Path.{◌≡◌}
use mathlib.Core.List.{List}
use native.Mathlib.Omega.{arith}
use lib.ListN.{length}
use Rattle.common.specs.Calls.{LowCalls}
use Rattle.common.specs.declared.calls.Call.{Call}
use Rattle.common.specs.declared.Done.TheVariants.{Accepted}
use Rattle.common.specs.SetUp.{set_up_of}
use Rattle.common.specs.Register.{Ran, ran_from}
use Rattle.common.specs.Whole.{model_of}
use Rattle.common.proofs.Run.{FromSetUp}
use Rattle.common.proofs.Whole as Frame
use Rattle.counted.specs.Table.{index, Link}
use Rattle.counted.specs.Rules.{counted_rules}
use Rattle.counted.specs.Reference.{Model, book}
use Rattle.counted.specs.Whole.{Whole}
use Rattle.counted.proofs.Laws.{lawful, wired}
use Rattle.counted.proofs.TurnRel.{WIs, RIs, simulates}
use Rattle.counted.proofs.Counts.{write_moves, next_stamp, read_moves, spent_only}
use Rattle.counted.proofs.Atomic.Runs.{model_swept, model_meets}

module _ (n v fresh : ℕ) (t l : List ℕ) (cs : List Call) (fresh-low : fresh < 2 ^ 32) (e : (set_up_of counted_rules n v fresh t l).answer ≡ Ok Accepted) where
  abbrev r : Ran
  r = ran_from counted_rules n v fresh t l cs

  abbrev b : Model
  b = (model_of book n v fresh l cs).model

  z : FromSetUp counted_rules book WIs RIs n v fresh t l (set_up_of counted_rules n v fresh t l) cs
  z = Frame.start counted_rules book WIs RIs lawful simulates n v fresh fresh-low t l cs e

  n_is : (ran_from counted_rules n v fresh t l cs).state.head.n ≡ n
  n_is = Frame.n_is counted_rules book WIs RIs lawful simulates n v fresh fresh-low t l cs e

  full : length (set_up_of counted_rules n v fresh t l).log ≡ (ran_from counted_rules n v fresh t l cs).state.head.rows
  full = Frame.full counted_rules book WIs RIs lawful simulates n v fresh fresh-low t l cs e

  pub whole : v < 2 ^ 32 → LowCalls cs → Whole n v fresh t l cs
  whole low lows = record {
    as_book = Frame.as_book counted_rules book WIs RIs lawful simulates n v fresh fresh-low t l cs e index Link wired
        (model_swept n (length l) v fresh cs z.n_low z.n_high low fresh-low lows);
    write_moves = λ u m cells q.
        Frame.as_set_up counted_rules book WIs RIs lawful simulates n v fresh fresh-low t l cs e 0 m (λ k. k)
        (write_moves _ _ r.state r.table r.log b z.runs.good z.runs.rel full u m cells q);
    read_moves = λ p p1 pn free u m cells q.
        Frame.as_set_up counted_rules book WIs RIs lawful simulates n v fresh fresh-low t l cs e p m (λ k. 2 * k - 1)
        (read_moves _ _ r.state r.table r.log b z.runs.good z.runs.rel full p p1 (omega (arith, n_is)) free u m cells q);
    meets = model_meets n (length l) v fresh cs z.n_low z.n_high low fresh-low lows;
    stamp_low = omega (arith, z.runs.rel.writer_is.count_low, z.runs.rel.writer_is.count_is);
    next_stamp = λ u m cells q. next_stamp _ _ r.state r.table r.log b z.runs.good z.runs.rel full u m cells q;
    spent = λ c. spent_only _ _ r.state r.table r.log b z.runs.good z.runs.rel full c;
    retired_cells = Frame.cells_stand counted_rules book WIs RIs lawful simulates n v fresh fresh-low t l cs e index Link wired;
  }
