-- The counted register's rules are lawful.
use Prim.Native.Nat.{ℕ, ◌+◌}
use mathlib.Core.Path.{◌≡◌, refl, sym, ap, ◌∙◌}
use mathlib.Core.List.{List}
use native.Mathlib.Omega.{arith}
use lib.ListN.{length}
use borrow.Author.Tests.{ltb-true}
use Rattle.words.proofs.Laws.Choice.{lt_ind, never}
use Rattle.common.specs.declared.Reader.{Reader}
use Rattle.common.specs.State.{as_counted, writer_begins, reader_begins, retires}
use Rattle.common.specs.Rules.{ReadStep}
use Rattle.common.specs.SetUp.{fresh_writer, fresh_reader}
use Rattle.common.proofs.Effects.{word_cell}
use Rattle.common.proofs.Lawful.{Lawful, Wired}
use Rattle.counted.specs.Table.{index, Link}
use Rattle.counted.specs.Steps.{read_step}
use Rattle.counted.specs.Reference.{fresh_table}
use Rattle.counted.specs.Rules.{counted_rules, fresh_cells}
use Rattle.counted.proofs.Table.{index_low, index_inj, fresh_length}
use Rattle.counted.proofs.Range.{writer_in, in_writer, reader_in, in_reader}
use Rattle.counted.proofs.Effects.{write_word, read_word}
use Rattle.counted.proofs.Turning.{turn_w, turn_r}

-- A sub-step retires none.
retired_stays : (n p : ℕ) (r : Reader) (t : List ℕ) → (read_step n p r t).reader.retired ≡ r.retired
unfolding read_step
retired_stays n p r t =
    let AsIt : ReadStep → Type 0 = λ q. q.reader.retired ≡ r.retired in
    lt_ind AsIt (r.moved + 1) n _ _ (λ _. refl) (λ _. lt_ind AsIt r.moved n _ _ (λ _. refl) (λ _. refl))

-- The fresh cells of the rules are the book's.
pub fresh_is : (n v fresh : ℕ) → fresh_cells n v fresh ≡ fresh_table n v fresh
unfolding fresh_cells fresh_table
fresh_is n v fresh = refl

-- Its cells: each is one processor's.
pub wired : Wired counted_rules index Link
wired = record {
  one_owner = λ n i j k m v w e. (index_inj n i j k m v w e).0;
  write_word = λ n w pos k a. write_word n w ((writer_in n w k).moved_low a);
  read_word = λ n p r p1 pn k a. read_word n p p1 pn r (reader_in n r k a);
}

pub lawful : Lawful counted_rules
lawful = record {
  writer_turn = λ n w t _ _ k a. in_writer n _ (turn_w n w t (writer_in n w k) a);
  reader_turn = λ n p r t _ _ k a. in_reader n _ (turn_r n p r t);
  writer_begins_lem = λ n v w pos k may. in_writer n (writer_begins w v) (record { moved_low = λ _. pos; count_low = λ _. ltb-true _ _ may });
  reader_begins_lem = λ n r pos k. in_reader n (reader_begins r) (λ _. omega arith);
  reader_retires = λ n r k. in_reader n (as_counted (retires r)) (λ e. never (sym e));
  retired_stays = retired_stays;
  fresh_writer_lem = λ n fresh. in_writer n (fresh_writer fresh) (record { moved_low = λ e. never (sym e); count_low = λ e. never (sym e) });
  fresh_reader_lem = λ n. in_reader n fresh_reader (λ e. never (sym e));
  write_cell = λ n w t pos k a. word_cell (index n) (Link n) _ (index_low n) 0 _ _ (wired.write_word n w pos k a) t;
  read_cell = λ n p r t p1 pn k a. word_cell (index n) (Link n) _ (index_low n) p _ _ (wired.read_word n p r p1 pn k a) t;
  fresh_length = λ n v fresh pos. ap length (fresh_is n v fresh) ∙ fresh_length n v fresh pos;
}
