-- A read's result, in the papers' words: which cell it is, and how it is shown.
use Rattle.std.specs.Prelude.{ℕ, ◌+◌, ◌≤◌, ◌<◌, ◌≡◌, ◌≢◌}
use Rattle.words.specs.declared.stamp.Stamp.{Stamp}
use Rattle.words.specs.declared.cell.Cell.{Cell}
use Rattle.words.specs.Stamp.{none}

-- "the first of the other readers' cells whose prev equals the third look's cur .. ; if there is none, the third look's": of the r cells from
-- place k on, whose prev equals t; if there is none, d
pub data FirstWhose (cell_at : ℕ → Cell) (t k r : ℕ) (d : Cell) : Cell → Type 0 where
  found : (j : ℕ) → k ≤ j → j < k + r → (cell_at j).stamp.prev ≡ t → ((i : ℕ) → k ≤ i → i < j → (cell_at i).stamp.prev ≢ t)
      → FirstWhose cell_at t k r d (cell_at j)
  not_found : ((i : ℕ) → k ≤ i → i < k + r → (cell_at i).stamp.prev ≢ t) → FirstWhose cell_at t k r d d

-- "to the other readers .. the result (for stamp none, reading 0)", where "stamp none is (63,63) only"; "in all other cells the announced
-- fields are always none": the cell that shows a result to a reader
pub record Shows (value : ℕ) (stamp : Stamp) (c : Cell) : Type 0 where
  pub some : stamp ≢ none → c.value ≡ value
  pub nothing : stamp ≡ none → c.value ≡ 0
  pub stamp_is : c.stamp ≡ stamp
  pub announced_is : c.announced ≡ none
