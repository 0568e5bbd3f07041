-- The first register's rules.
use Rattle.std.specs.Prelude.{ℕ, ◌+◌, ◌*◌, List, ◌++◌, true, false, replicate}
use Rattle.words.specs.Stamp.{none}
use Rattle.words.specs.Cell.{pack_cell}
use Rattle.common.specs.Rules.{Rules}
use Rattle.protocol.specs.Table.{plain}
use Rattle.protocol.specs.State.{writer_ok, reader_ok}
use Rattle.protocol.specs.Write.{write_step}
use Rattle.protocol.specs.Read.{read_step}

-- "Fresh: cells from the writer hold the start reading and stamp (0,1). All others hold reading 0 and stamp none."
unfoldable pub fresh_cells : ℕ → ℕ → List ℕ
fresh_cells n v =
    replicate n (pack_cell (plain v (record { cur = 0; prev = 1 }))) ++ replicate (n * n) (pack_cell (plain 0 none))

-- "The table has n²+n cells". No fresh stamp is handed over, and none is ever spent.
abbrev pub ticket_rules : Rules
ticket_rules = record {
  counted = false;
  cells = λ n. n * n + n;
  fresh_cells = λ n v _. fresh_cells n v;
  writer_ok = writer_ok;
  reader_ok = reader_ok;
  may_write = λ _. true;
  write_step = write_step;
  read_step = read_step;
}
