-- Cells of the table: their places, and the fresh table.
use Prim.Native.Nat.{ℕ, ◌+◌, ◌*◌, ◌^◌, ◌≤◌, ◌<◌}
use mathlib.Core.Path.{◌≡◌, ◌∙◌}
use native.Mathlib.Nat.{mul-le-mul_left}
use native.Mathlib.Omega.{arith}
use lib.ListN.{length, get_or}
use Rattle.words.specs.declared.cell.Cell.{Cell}
use Rattle.words.specs.Cell.{pack_cell, unpack_cell, CellFits}
use Rattle.words.specs.Index.{index, Pair}
use Rattle.words.proofs.Laws.Cell.{unpack_pack}
use Rattle.words.proofs.Laws.Index.{index_low, index_inj, writer_row}
use Rattle.common.proofs.Buffers.{two_ind, two_length}
use Rattle.common.proofs.Places.{Places}
use Rattle.protocol.specs.Table.{view}
use Rattle.protocol.specs.Reference.{void, start_cell, fresh_table}

abbrev pub places : ℕ → Places Cell
places n = record {
  cells = n * n + n;
  Has = Pair n;
  place = index n;
  place_low = index_low n;
  place_inj = index_inj n;
  pack = pack_cell;
  unpack = unpack_cell;
  Fits = CellFits;
  unpack_pack = unpack_pack;
}

-- The fresh table.
fresh_word : (n v k : ℕ) (Q : ℕ → Type 0) → k < n * n + n → (k < n → Q (pack_cell (start_cell v))) → (n ≤ k → Q (pack_cell void))
    → Q (get_or (fresh_table n v) k 0)
unfolding fresh_table
fresh_word n v k Q h a b = two_ind n (n * n) k _ _ Q (omega arith) a b

pub fresh_length : (n v : ℕ) → length (fresh_table n v) ≡ n * n + n
unfolding fresh_table
fresh_length n v = two_length n (n * n) _ _ ∙ omega arith

pub fresh_writer_lem : (n j v : ℕ) → v < 2 ^ 32 → 1 ≤ j → j ≤ n → view n (fresh_table n v) 0 j ≡ start_cell v
fresh_writer_lem n j v low h1 hn =
    fresh_word n v (index n 0 j) (λ x. unpack_cell x ≡ start_cell v) (index_low n 0 j (omega arith))
    (λ _. unpack_pack (start_cell v) (omega arith))
    (λ g. absurd (omega (arith, writer_row n j h1)))

pub fresh_reader_lem : (n i j v : ℕ) → 1 ≤ i → Pair n i j → view n (fresh_table n v) i j ≡ void
unfolding index
fresh_reader_lem n i j v h p =
    fresh_word n v (index n i j) (λ x. unpack_cell x ≡ void) (index_low n i j p)
    (λ g. absurd (omega (arith, mul-le-mul_left n h)))
    (λ _. unpack_pack void (omega arith))
