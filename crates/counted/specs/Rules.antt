-- The counted register's rules.
use Rattle.std.specs.Prelude.{ℕ, ◌-◌, ◌*◌, List, ◌++◌, true, ltb, replicate}
use Rattle.common.specs.Rules.{Rules}
use Rattle.counted.specs.Cell.{pack_cell}
use Rattle.counted.specs.State.{last_stamp, writer_ok, reader_ok}
use Rattle.counted.specs.Steps.{write_step, read_step}

-- "The fresh stamp is handed over at set-up, so that an older set can go on counting, and stands in every cell, with the start reading in
-- the writer's cells and 0 elsewhere."
unfoldable pub fresh_cells : ℕ → ℕ → ℕ → List ℕ
fresh_cells n v fresh =
    replicate n (pack_cell (record { value = v; stamp = fresh }))
    ++ replicate (n * n - n) (pack_cell (record { value = 0; stamp = fresh }))

-- "with its own table of n² cells"; "14, stamp 4,294,967,295 has been used"
abbrev pub counted_rules : Rules
counted_rules = record {
  counted = true;
  cells = λ n. n * n;
  fresh_cells = fresh_cells;
  writer_ok = writer_ok;
  reader_ok = reader_ok;
  may_write = λ w. ltb w.count last_stamp;
  write_step = write_step;
  read_step = read_step;
}
