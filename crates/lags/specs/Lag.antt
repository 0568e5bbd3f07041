-- The lag of each look: "writes begun before its end row, less the place, among the writes, of the one it stands behind in the judge's
-- order (place 0 for the start)" (document 02, card 10). That place is a rank here: the judge's place is a row.
use Rattle.std.specs.Prelude.{ℕ, ◌+◌, ◌-◌, List, eqb, get_or}
use Rattle.words.specs.Choice.{pick}
use Rattle.history.specs.Rows.{kind_of}
use Rattle.history.specs.History.{end_at, history_of}
use Rattle.history.specs.Linearization.{stands_behind}
use Rattle.judging.specs.Fold.{up_to}

-- n, and one more if the row w begins a write
unfoldable pub with_write : ℕ → ℕ → ℕ
with_write w n = pick (eqb (kind_of w) 1) (n + 1) n

-- "writes begun before" row k
unfoldable pub begun_before : List ℕ → ℕ → ℕ
begun_before log k = up_to (λ n j. with_write (get_or log j 0) n) 0 k

-- "the place, among the writes, of the one" begun at row q, "place 0 for the start", row 0: the writes begun up to and including it
unfoldable pub rank_of : List ℕ → ℕ → ℕ
rank_of log q = begun_before log (q + 1)

-- the lag of the read r, where the order is l
unfoldable pub lag_of : List ℕ → List ℕ → ℕ → ℕ
lag_of log l r = begun_before log (end_at log r) - rank_of log (stands_behind (history_of log) l r)
