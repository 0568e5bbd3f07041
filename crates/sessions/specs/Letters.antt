-- Cells as sessions have them, and logs that they judge, in the letters of the listing.
use Rattle.std.specs.Prelude.{ℕ, List, [], ◌∷◌}
use Rattle.words.specs.declared.stamp.Stamp.{Stamp}
use Rattle.words.specs.declared.cell.Cell.{Cell}
use Rattle.words.specs.declared.row.Row.{Row}
use Rattle.words.specs.Stamp.{none}
use Rattle.words.specs.Row.{pack_row}

-- a cell that announces nothing
abbrev pub shows : ℕ → Stamp → Cell
shows v s = record { value = v; stamp = s; announced = none }

abbrev pub announces : Stamp → Stamp → Cell
announces s a = record { value = 0; stamp = s; announced = a }

abbrev pub event : ℕ → ℕ → ℕ → Row
event k p v = record { kind = k; processor = p; value = v }

-- the rows of a log in the letters of the listing: row 0 of two readers with start reading 7, then the events
abbrev pub two : List ℕ → List ℕ
two log = pack_row (event 5 2 7) ∷ log

abbrev pub W : ℕ → ℕ
W v = pack_row (event 1 0 v)

abbrev pub w : ℕ
w = pack_row (event 2 0 0)

abbrev pub R : ℕ → ℕ
R i = pack_row (event 3 i 0)

abbrev pub r : ℕ → ℕ → ℕ
r i v = pack_row (event 4 i v)

-- places for an order, enough for every session
abbrev pub places : List ℕ
places = 77 ∷ 77 ∷ 77 ∷ 77 ∷ 77 ∷ []
