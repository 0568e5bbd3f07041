-- What an advance finds at a row of a log.
use Rattle.std.specs.Prelude.{ℕ, ◌+◌, List, ltb, length, get_or}
use Rattle.words.specs.Choice.{pick}
use Rattle.walker.specs.declared.Step.{Step}

-- row k and the number behind it; at the end of the log, 0 and k
unfoldable pub step_at : List ℕ → ℕ → Step
step_at log k = pick (ltb k (length log)) (record { row = get_or log k 0; next = k + 1 }) (record { row = 0; next = k })
