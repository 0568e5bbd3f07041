-- The sweep of the code, row by row, on any rows; and, of a well-formed log, told by that of judging/specs/Rowwise.
use Rattle.std.specs.Prelude.{ℕ, ◌≡◌, ◌≤◌, max, Bool, ◌||◌, List, map, length, leb, get_or, set, replicate}
use Rattle.words.specs.Choice.{pick}
use Rattle.history.specs.Rows.{processor_of}
use Rattle.judging.specs.Rowwise.{processors, open_after, place_row, floor_after, row_place, sweep_to}
use Rattle.judge.specs.declared.sweep.Open.{Open}
use Rattle.judge.specs.declared.sweep.Sweep.{Sweep}
use Rattle.judge.specs.declared.sweep.Found.{Found}

-- no operation is open
abbrev pub nothing_open : Open
nothing_open = record { begin = 0; floor = 0 }

-- the sweep before row 1: nothing is open of any processor, and the floor is row 0
unfoldable pub fresh_sweep : Sweep
fresh_sweep = record { «open» = replicate processors nothing_open; top = 0 }

-- what is found where nothing is looked for: nothing is open, and the floor is not raised
unfoldable pub nothing_found : Found
nothing_found = record { «open» = nothing_open; place = 0 }

-- whether the sweep leaves out row k: there is no such row, or it is one of a processor past the last
unfoldable pub left_out : List ℕ → ℕ → Bool
left_out rows k = leb (length rows) k || leb processors (processor_of (get_or rows k 0))

-- what the sweep s finds at row k: what is open of the row's processor, and the place that the row raises the floor to
unfoldable pub found_at : List ℕ → ℕ → Sweep → Found
found_at rows k s =
    let o = get_or s.open (processor_of (get_or rows k 0)) nothing_open in
    pick (left_out rows k) nothing_found (record { «open» = o; place = place_row rows k o.begin o.floor })

-- the sweep s after row k: what the row leaves open of its processor, with the floor there, and the larger of the floor and the row's place
unfoldable pub passed : List ℕ → ℕ → Sweep → Sweep
passed rows k s =
    let w = get_or rows k 0 in
    let p = processor_of w in
    let o = get_or s.open p nothing_open in
    pick (left_out rows k) s
    (record {
      «open» = set s.open p (record { begin = open_after w k; floor = floor_after w o.floor s.top });
      top = max s.top (place_row rows k o.begin o.floor);
    })

-- before row k of a log it is that of judging/specs/Rowwise
pub record Swept (log : List ℕ) (k : ℕ) (s : Sweep) : Type 0 where
  pub from : 1 ≤ k
  pub upto : k ≤ length log
  pub begins : map (λ (o : Open). o.begin) s.open ≡ (sweep_to log k).begins
  pub floors : map (λ (o : Open). o.floor) s.open ≡ (sweep_to log k).floors
  pub top : s.top ≡ (sweep_to log k).top

-- and so is what it finds at row k
pub record Finds (log : List ℕ) (k : ℕ) (f : Found) : Type 0 where
  pub begin : f.open.begin ≡ get_or (sweep_to log k).begins (processor_of (get_or log k 0)) 0
  pub floor : f.open.floor ≡ get_or (sweep_to log k).floors (processor_of (get_or log k 0)) 0
  pub place : f.place ≡ row_place log (sweep_to log k) k
