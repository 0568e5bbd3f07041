use Rattle.std.proofs.Common.{length, ◌≡◌, ◌≤◌, ◌<◌, ℕ, get_or}
use Rattle.inputs.proofs.is_same.Given as goal

-- below i the texts have the same bytes
abbrev pub invariant-loop-i : goal.invariant-loop-i
invariant-loop-i l = (l.i ≤ length l.text) × (length l.text ≡ length l.word) × ((j : ℕ) → j < l.i → get_or l.text j 0 ≡ get_or l.word j 0)
