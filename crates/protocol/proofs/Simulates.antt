-- The first register's rules and its book go together.
use Prim.Native.Nat.{ℕ, zero, suc, ◌*◌, ◌+◌, ◌≤◌}
use mathlib.Core.Path.{◌≡◌, refl}
use mathlib.Core.List.{List, []}
use native.Mathlib.Omega.{arith}
use Rattle.words.specs.declared.stamp.Stamp.{Stamp}
use Rattle.words.specs.declared.cell.Cell.{Cell}
use Rattle.words.specs.Stamp.{none}
use Rattle.words.proofs.Laws.Choice.{lt_ind}
use Rattle.common.specs.declared.Writer.{Writer}
use Rattle.common.specs.declared.Reader.{Reader}
use Rattle.common.specs.State.{writer_begins, reader_begins}
use Rattle.common.specs.Book.{idle, open_with, is_open}
use Rattle.common.proofs.Lawful.{Simulates}
use Rattle.protocol.specs.Rules.{ticket_rules}
use Rattle.protocol.specs.Reference.{Operation, Turn, write_turn, fresh_stamp, book}
use Rattle.protocol.proofs.Range.{writer_in}
use Rattle.protocol.proofs.Walk.{bars}
use Rattle.protocol.proofs.WriterRel.{WRel, WIs, turn_w_rel}
use Rattle.protocol.proofs.ReaderRel.{RIs, rel_opened, rel_retired}
use Rattle.protocol.proofs.ReaderTurn.{turn_r_rel}
use Rattle.protocol.proofs.Laws.{fresh_is}

open_w : (n : ℕ) (w : Writer) (st : Stamp) (q : Operation) → WIs n w st q → w.active ≡ is_open q
open_w n w st idle k = k.op
open_w n w st (open_with v m cells) k = k.op.active_is

open_r : (n : ℕ) (r : Reader) (st : Stamp) (q : Operation) → RIs n r st q → r.active ≡ is_open q
open_r n r st idle k = k.op
open_r n r st (open_with v m cells) k = k.op.active_is

begun_w : (n v : ℕ) (w : Writer) (st : Stamp) → WRel n (writer_begins w v) st v 0 []
unfolding bars
begun_w n v w st = record {
  active_is = refl;
  moved_is = refl;
  value_is = refl;
  length_is = λ _. refl;
  excluded_is = λ _. refl;
  ticket_is = λ q. absurd (omega arith);
}

end_0 : (n : ℕ) (t : List ℕ) (st : Stamp) (v m : ℕ) (cells : List Cell) → (write_turn n t st v m cells).value ≡ 0
unfolding write_turn
end_0 n t st v m cells =
    let Is0 : Turn → Type 0 = λ x. x.value ≡ 0 in
    lt_ind Is0 m n _ _ (λ _. refl) (λ _. lt_ind Is0 (m + 1) (2 * n) _ _ (λ _. refl) (λ _. refl))

fresh_stamps : (p : ℕ) → 1 ≤ p → none ≡ fresh_stamp p
fresh_stamps zero h = absurd (omega arith)
fresh_stamps (suc p) h = refl

pub simulates : Simulates ticket_rules book WIs RIs
simulates = record {
  open_w = open_w;
  open_r = open_r;
  moved_w = λ n w st v m cells k. k.op.moved_is;
  moved_r = λ n r st v m cells k. k.op.moved_is;
  spent_is = λ n w st q k. refl;
  begin_w = λ n v w st nl k _. record { stamp_is = k.stamp_is; op = begun_w n v w st };
  begin_r = λ n r st nl k. record { stamp_is = k.stamp_is; op = rel_opened n (reader_begins r) refl refl refl };
  retire_r = λ n r st q k. record { stamp_is = k.stamp_is; op = rel_retired n r q k.op };
  turn_w = λ n nl nh T X size w st v m cells e k. turn_w_rel n nl nh T X size w st v m cells k.op k.stamp_is (writer_in n w e);
  turn_r = λ n p nh p1 pn T X size r st v m cells e k. turn_r_rel n p (omega arith) p1 pn T X size r st m cells k.op k.stamp_is;
  write_value = end_0;
  fresh_w = λ n fresh low. record { stamp_is = refl; op = refl };
  fresh_r = λ n fresh p h. record { stamp_is = fresh_stamps p h; op = refl };
  fresh_table_lem = λ n v fresh nl. fresh_is n v;
}
