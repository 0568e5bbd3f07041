-- Whatever calls are made from a fresh register, of either kind, the judge answers its log with 0: it has an order, and is atomic by both
-- reports.
use Rattle.std.specs.Prelude.{Ok}
use Prim.Native.Nat.{ℕ, ◌^◌, ◌<◌}
use mathlib.Core.Path.{◌≡◌, sym, subst}
use mathlib.Core.List.{List}
use native.Mathlib.Omega.{arith}
use Rattle.history.proofs.Form.{log_formed}
use Rattle.judging.specs.Answer.{number_of}
use Rattle.judging.specs.Meaning.{Formed}
use Rattle.judging.proofs.Meaning.{number_if_ordered, number_by_reports}
use Rattle.common.specs.declared.Done.TheVariants.{Accepted}
use Rattle.common.specs.Calls.{LowCalls}
use Rattle.common.specs.declared.calls.Call.{Call}
use Rattle.common.specs.Rules.{Rules}
use Rattle.common.specs.SetUp.{set_up_of}
use Rattle.common.specs.Register.{ran_from}
use Rattle.common.specs.Book.{Telling}
use Rattle.common.specs.Whole.{model_of, AsBook}
use Rattle.common.proofs.Range.{test_range}
use Rattle.protocol.specs.Rules.{ticket_rules}
use Rattle.protocol.proofs.Whole.{whole as tickets_whole}
use Rattle.counted.specs.Rules.{counted_rules}
use Rattle.counted.proofs.Whole.{whole as counted_whole}
use Rattle.joined.specs.Accepted.{used, Accepted as IsAccepted}

module _ {Stamp Cell : Type 0} (R : Rules) (B : Telling Stamp Cell) (n v fresh : ℕ) (t l : List ℕ) (cs : List Call) (w : AsBook R B n v fresh t l cs) where
  abbrev in_model : List ℕ
  in_model = (model_of B n v fresh l cs).model.rows

  formed : Formed in_model
  formed =
      let k = (test_range R (ran_from R n v fresh t l cs).state _ _ w.passes_4).head_good in
      record {
        size = record { some = omega (arith, w.used_is, k.used_low); few = omega (arith, w.used_is, k.room, k.rows_high) };
        formed = (log_formed in_model).only_if w.formed;
      }

  number_0 : number_of in_model ≡ 0
  number_0 = (number_if_ordered in_model).1 (record { log_ok = formed; order = w.ordered })

  accepts : IsAccepted (used R n v fresh t l cs)
  accepts =
      subst IsAccepted (sym w.rows_are)
      (let A = number_by_reports in_model formed in record { judged_0 = number_0; atomic = (A.cs_r8704.0 number_0, A.cs_r8628.0 number_0) })

-- of the first register
pub tickets : (n v : ℕ) (t l : List ℕ) (cs : List Call) → (set_up_of ticket_rules n v 0 t l).answer ≡ Ok Accepted → v < 2 ^ 32 → LowCalls cs
    → IsAccepted (used ticket_rules n v 0 t l cs)
tickets n v t l cs e low lows = accepts ticket_rules _ n v 0 t l cs (tickets_whole n v t l cs e low lows).as_book

-- of the counted register
pub counted : (n v fresh : ℕ) (t l : List ℕ) (cs : List Call) → fresh < 2 ^ 32 → (set_up_of counted_rules n v fresh t l).answer ≡ Ok Accepted → v < 2 ^ 32
    → LowCalls cs → IsAccepted (used counted_rules n v fresh t l cs)
counted n v fresh t l cs fresh-low e low lows = accepts counted_rules _ n v fresh t l cs (counted_whole n v fresh t l cs fresh-low e low lows).as_book
