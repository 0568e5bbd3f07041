use mathlib.Core.Path.{◌≡◌}
use Rattle.kinds.specs.Rules.{rules_of}
use Rattle.lists.specs.Run.{made_of}
use Rattle.lists.proofs.Laws.{onward}
use Rattle.lists.proofs.make_calls.Given as goal

abbrev pub invariant-loop-i : goal.invariant-loop-i
invariant-loop-i l = record {
  goes_on : onward (rules_of l.initial.state.head.counted) l.state l.table l.log l.words l.answers l.i ≡ made_of (rules_of l.initial.state.head.counted) l.initial.state l.initial.table l.initial.log l.words l.initial.answers;
  same_kind : l.state.head.counted ≡ l.initial.state.head.counted;
}
