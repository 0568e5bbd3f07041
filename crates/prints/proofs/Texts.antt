-- The line of an answer.
use Prim.Native.Nat.{ℕ}
use mathlib.Core.Path.{◌≡◌}
use mathlib.Core.Logic.{◌≢◌}
use borrow.Author.Tests.{eq-eqb, ne_eqb}
use Rattle.lines.specs.Lines.{refused_line}
use Rattle.lines.specs.Adds.{Adds, Sink}
use Rattle.lines.proofs.Adds.{no_text}
use Rattle.prints.specs.Words.{refusal_in, refusal_text}

module _ (w : ℕ) {old : Sink} where
  pub not_refused : refusal_in w ≡ 0 → Adds (refusal_text w) old old
  unfolding refusal_text
  not_refused z = rw (eq-eqb (refusal_in w) 0 z) (no_text old)

  pub refused : {new : Sink} → refusal_in w ≢ 0 → Adds (refused_line (refusal_in w)) old new → Adds (refusal_text w) old new
  unfolding refusal_text
  refused n a = rw (ne_eqb (refusal_in w) 0 n) a
