-- The head of a state: its questions, and how calls move it on.
use Rattle.std.specs.Prelude.{ℕ, ◌+◌, ◌-◌, ◌≤◌, ◌≡◌, Bool, ◌&&◌, leb, eqb}
use Rattle.words.specs.Choice.{pick}
use Rattle.words.specs.Counting.{one}
use Rattle.common.specs.declared.Head.{Head}

-- Question 4 of the head, for a register that needs so many cells and has so many operations open, by count: "n 1 to 16; this table n²+n
-- cells or more; this log as long as recorded, 3 to 4,096; rows used 1 to that; free rows at least the open operations". Of the counted
-- register "questions 2 and 4 take n² cells". (02) "store their number in the state", "A state whose number is off is out of range".
unfoldable pub head_ok : ℕ → Head → ℕ → ℕ → ℕ → Bool
head_ok need h count cells log =
    leb 1 h.n
    && (leb h.n 16
    && (leb need cells
    && (eqb log h.rows
    && (leb 3 h.rows
    && (leb h.rows 4096 && (leb 1 h.used && (eqb h.opens count && leb (h.used + h.opens) h.rows)))))))

-- what that means
pub record HeadInRange (need : ℕ) (h : Head) (count cells log : ℕ) : Type 0 where
  -- "n 1 to 16"
  pub n_low : 1 ≤ h.n
  pub n_high : h.n ≤ 16
  -- "this table n²+n cells or more"; of the counted register n²
  pub cells_are : need ≤ cells
  -- "this log as long as recorded, 3 to 4,096"
  pub log_is : log ≡ h.rows
  pub rows_low : 3 ≤ h.rows
  pub rows_high : h.rows ≤ 4096
  -- "rows used 1 to that"
  pub used_low : 1 ≤ h.used
  -- (02) "A state whose number is off is out of range": it is the count
  pub opens_is : h.opens ≡ count
  -- "free rows at least the open operations"
  pub room : h.used + h.opens ≤ h.rows

-- "Is the processor 0..n, for a read 1..n (5)?": it is one from the least to n
abbrev pub is_processor : Head → ℕ → ℕ → Bool
is_processor h least p = leb least p && leb p h.n

-- "Are free rows at least open operations plus 2 (7)?"
abbrev pub has_room : Head → Bool
has_room h = leb (h.used + h.opens + 2) h.rows

-- the head with other rows used and another number of open operations
abbrev pub head_with : Head → ℕ → ℕ → Head
head_with h used opens = record h { opens = opens; used = used }

-- (02) "Begins, ends and retirements maintain it." "A begin call adds its row"
abbrev pub began : Head → Head
began h = head_with h (h.used + 1) (h.opens + 1)

-- "the last sub-step adds the end"
abbrev pub ended : Head → Head
ended h = head_with h (h.used + 1) (h.opens - 1)

-- behind a sub-step that leaves its operation open, or not
abbrev pub stepped : Head → Bool → Head
stepped h active = head_with h (pick active h.used (ended h).used) (pick active h.opens (ended h).opens)

-- behind the retirement of a reader whose operation was open, or not
abbrev pub freed : Head → Bool → Head
freed h active = head_with h h.used (h.opens - one active)
