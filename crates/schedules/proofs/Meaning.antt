-- The list is that of all schedules, and there is no other.
use Prim.Native.Nat.{ℕ, ◌+◌}
use native.Mathlib.Omega.{arith}
use mathlib.Core.Path.{◌≡◌, refl, subst}
use mathlib.Core.List.{List, Memᴰ}
use Rattle.schedules.specs.Schedules.{Turn, after_writer, schedules}
use Rattle.schedules.specs.Meaning.{Turns, AllSchedules, writer_turns, reader_turns}
use Rattle.schedules.proofs.Each.{in_turns, turns_in}
use Rattle.schedules.proofs.Rises.{rising, once, one_list}
use Rattle.schedules.proofs.Count.{how_many}

pub all_schedules : (a b : ℕ) → AllSchedules a b (schedules a b)
all_schedules a b = record {
  each = in_turns (a + b) a b refl;
  all = listed;
  once = once (after_writer (a + b) a b) (rising (a + b) a b);
  rises = rising (a + b) a b;
  count = how_many (a + b) a b refl;
}
  where
    listed : (s : List Turn) → Turns a b s → Memᴰ s (after_writer (a + b) a b)
    listed s h =
        let e : a + b ≡ writer_turns s + reader_turns s = omega (arith, h.of_writer, h.of_reader) in
        subst (λ (k : ℕ). Memᴰ s (after_writer (a + b) k b)) h.of_writer
        (subst (λ (k : ℕ). Memᴰ s (after_writer (a + b) (writer_turns s) k)) h.of_reader (turns_in (a + b) s e))

-- What it means leaves nothing open.
pub only_one : (a b : ℕ) (l : List (List Turn)) → AllSchedules a b l → l ≡ schedules a b
only_one a b l A =
    let B = all_schedules a b in
    one_list l (schedules a b) A.rises B.rises (λ s m. B.all s (A.each s m)) (λ s m. A.all s (B.each s m))
