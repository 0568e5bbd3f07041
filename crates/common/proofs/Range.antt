-- Question 4's test is its meaning.
use Prim.Native.Nat.{ℕ, ◌-◌, ◌≤◌, ◌<◌}
use mathlib.Core.Path.{◌≡◌, refl, sym, subst, ap, ◌∙◌}
use mathlib.Core.Bool.{Bool, true, false}
use native.Mathlib.Omega.{arith}
use Rattle.words.specs.Counting.{one}
use Rattle.words.proofs.Laws.Choice.{left, right, both}
use Rattle.words.proofs.Laws.Counting.{all_at, all_make, count_some}
use Rattle.common.specs.declared.Reader.{Reader}
use Rattle.common.specs.declared.State.{State}
use Rattle.common.specs.Head.{head_ok}
use Rattle.common.specs.State.{reader_at, is_retired, as_counted, open_in}
use Rattle.common.specs.Rules.{Rules, state_ok, InRange}
use Rattle.common.specs.SetUp.{no_state}
use Rattle.common.proofs.HeadLaws.{head_in, in_head}
use Rattle.common.proofs.Replaced.{retired_at}
use Rattle.common.proofs.Asked.{counts}

module _ (R : Rules) (s : State) (cells log : ℕ) where
  abbrev head : Bool
  head = head_ok (R.cells s.head.n) s.head (open_in s) cells log

  abbrev writer : Bool
  writer = R.writer_ok s.head.n s.writer

  pub test_range : state_ok R s cells log ≡ true → InRange R s cells log
  unfolding state_ok
  test_range e =
      let e1 = right head _ e in
      let e2 = right writer _ e1 in
      record {
        head_good = head_in _ _ _ _ _ (left head _ e);
        writer_passes = left writer _ e1;
        readers_pass = λ i h. all_at s.head.n (λ i. R.reader_ok s.head.n (as_counted (reader_at s i))) i e2 h;
      }

  pub range_test : InRange R s cells log → state_ok R s cells log ≡ true
  unfolding state_ok
  range_test k =
      both head _ (in_head _ _ _ _ _ k.head_good)
      (both writer _ k.writer_passes (all_make s.head.n (λ i. R.reader_ok s.head.n (as_counted (reader_at s i))) k.readers_pass))

-- Reader p, if it is not retired: it counts as it stands, passes question 4 by itself, and its read, while it is open, is one of the open
-- operations and has a row kept for its end.
module _ (s : State) (p : ℕ) (p1 : 1 ≤ p) (free : is_retired s p ≡ false) where
  pub stands : as_counted (reader_at s (p - 1)) ≡ reader_at s (p - 1)
  stands = counts (reader_at s (p - 1)) (sym (retired_at s p (omega arith)) ∙ free)

  module _ (pn : p ≤ s.head.n) (R : Rules) (cells log : ℕ) (k : InRange R s cells log) where
    pub reader_ok_lem : R.reader_ok s.head.n (reader_at s (p - 1)) ≡ true
    reader_ok_lem = subst (λ (r : Reader). R.reader_ok s.head.n r ≡ true) stands (k.readers_pass (p - 1) (omega arith))

    pub reader_open : one (reader_at s (p - 1)).active ≤ s.head.opens
    reader_open = omega (
      arith,
      k.head_good.opens_is,
      count_some s.head.n (λ i. (as_counted (reader_at s i)).active) (p - 1) (omega arith),
      ap (λ (r : Reader). one r.active) stands,
    )

    pub reader_room : (reader_at s (p - 1)).active ≡ true → s.head.used < s.head.rows
    reader_room a = omega (arith, k.head_good.room, reader_open, ap one a)

-- The same of the writer's write.
module _ (s : State) (R : Rules) (cells log : ℕ) (k : InRange R s cells log) where
  pub writer_open : one s.writer.active ≤ s.head.opens
  writer_open = omega (arith, k.head_good.opens_is)

  pub writer_room : s.writer.active ≡ true → s.head.used < s.head.rows
  writer_room a = omega (arith, k.head_good.room, writer_open, ap one a)

-- A refused set-up's state is out of range with every table and log.
pub no_state_lem : (R : Rules) (counted : Bool) (cells log : ℕ) → state_ok R (no_state counted) cells log ≡ false
unfolding state_ok head_ok
no_state_lem R counted cells log = refl
