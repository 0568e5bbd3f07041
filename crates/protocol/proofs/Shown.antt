-- How a result is shown, of any value and stamp.
use Prim.Native.Nat.{ℕ}
use mathlib.Core.Path.{refl}
use Rattle.words.specs.declared.stamp.Stamp.{Stamp}
use Rattle.words.specs.Choice.{pick}
use Rattle.words.specs.Stamp.{none, is_none}
use Rattle.words.proofs.Laws.Choice.{pick_yes, pick_no}
use Rattle.words.proofs.Laws.Stamp.{equal_same, some_stamp}
use Rattle.protocol.specs.Table.{plain}
use Rattle.protocol.specs.Result.{Shows}

pub shows : (v : ℕ) (s : Stamp) → Shows v s (plain (pick (is_none s) 0 v) s)
shows v s = record {
  some = λ ne. pick_no (is_none s) 0 v (some_stamp s ne);
  nothing = λ e. pick_yes (is_none s) 0 v (equal_same s none e);
  stamp_is = refl;
  announced_is = refl;
}
