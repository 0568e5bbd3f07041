-- How the judge sweeps: its state, row by row. What its verdict means is said in Meaning, not here.
use Rattle.std.specs.Prelude.{ℕ, ◌-◌, max, min, List, eqb, leb, length, get_or, set, replicate}
use Rattle.words.specs.Choice.{pick}
use Rattle.judging.specs.Fold.{up_to}
use Rattle.history.specs.Search.{first}
use Rattle.history.specs.Sweep.{is_source}
use Rattle.history.specs.History.{history_of}
use Rattle.history.specs.Rows.{begins, kind_of, processor_of}

-- the writer and up to 16 readers
abbrev pub processors : ℕ
processors = 17

pub record Sweep : Type 0 where
  -- for each processor the begin row of its open operation, or 0, and the floor there
  pub begins : List ℕ
  pub floors : List ℕ
  -- the floor now
  pub top : ℕ
  -- the first begin row of a read without a place, or the number of rows
  pub missing : ℕ

-- the begin row of a processor's open operation after its row w, row k of the log, or 0
unfoldable pub open_after : ℕ → ℕ → ℕ
open_after w k = pick (begins w) k 0

-- for each processor the begin row of its open operation before row k, or 0
unfoldable pub opens_to : List ℕ → ℕ → List ℕ
opens_to log k = up_to (λ o j. set o (processor_of (get_or log j 0)) (open_after (get_or log j 0) j)) (replicate processors 0) k

-- what row k raises the floor to: the begin row b of a write that it ends, or the place of a read that it ends, with floor f
unfoldable pub place_row : List ℕ → ℕ → ℕ → ℕ → ℕ
place_row log k b f =
    let w = get_or log k 0 in
    pick (eqb (kind_of w) 2) b (pick (eqb (kind_of w) 4) (first (is_source (history_of log) k) f (k - f)) 0)

unfoldable pub row_place : List ℕ → Sweep → ℕ → ℕ
row_place log s k = let p = processor_of (get_or log k 0) in place_row log k (get_or s.begins p 0) (get_or s.floors p 0)

-- the floor of a processor's open operation after its row w, where the floor now is top and that one was f
unfoldable pub floor_after : ℕ → ℕ → ℕ → ℕ
floor_after w f top = pick (begins w) top f

-- the first read without a place after row k, w, which ends an operation begun at b with place q; it was m
unfoldable pub missing_after : ℕ → ℕ → ℕ → ℕ → ℕ → ℕ
missing_after w k q b m = pick (eqb (kind_of w) 4) (pick (leb k q) (min b m) m) m

-- the sweep after row k, w, which raises the floor to q
unfoldable pub next_state : Sweep → ℕ → ℕ → ℕ → Sweep
next_state s w k q = record {
  begins = set s.begins (processor_of w) (open_after w k);
  floors = set s.floors (processor_of w) (floor_after w (get_or s.floors (processor_of w) 0) s.top);
  top = max s.top q;
  missing = missing_after w k q (get_or s.begins (processor_of w) 0) s.missing;
}

unfoldable pub fresh_sweep : ℕ → Sweep
fresh_sweep n = record { begins = replicate processors 0; floors = replicate processors 0; top = 0; missing = n }

-- the sweep before row k
unfoldable pub sweep_to : List ℕ → ℕ → Sweep
sweep_to log k = up_to (λ s j. next_state s (get_or log j 0) j (row_place log s j)) (fresh_sweep (length log)) k
