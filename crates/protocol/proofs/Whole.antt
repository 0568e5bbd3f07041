-- Demand 3: from every accepted set-up, for every list of calls.
use Rattle.std.specs.Prelude.{Ok}
use Prim.Native.Nat.{ℕ, ◌+◌, ◌*◌, ◌^◌, ◌<◌}
use mathlib.Core.Path.{◌≡◌, sym, subst}
use mathlib.Core.List.{List}
use native.Mathlib.Omega.{arith}
use lib.ListN.{length}
use Rattle.words.specs.declared.cell.Cell.{Cell}
use Rattle.words.specs.Choice.{pick}
use Rattle.words.specs.Index.{index, Pair}
use Rattle.common.specs.declared.Done.TheVariants.{Accepted}
use Rattle.common.specs.Calls.{LowCalls}
use Rattle.common.specs.declared.calls.Call.{Call}
use Rattle.common.specs.declared.calls.Call.TheVariants.{Step as step}
use Rattle.common.specs.SetUp.{set_up_of}
use Rattle.common.specs.Register.{Ran, ran_from}
use Rattle.common.specs.Book.{open_with}
use Rattle.common.specs.Whole.{model_of, next}
use Rattle.common.proofs.Run.{FromSetUp}
use Rattle.common.proofs.Whole.{start, n_is, full, as_set_up, as_book, cells_stand}
use Rattle.protocol.specs.Rules.{ticket_rules}
use Rattle.protocol.specs.Reference.{Model, excluded_tickets, failed, book}
use Rattle.protocol.specs.Whole.{NewTicket, Whole}
use Rattle.protocol.proofs.WriterRel.{WIs}
use Rattle.protocol.proofs.ReaderRel.{RIs}
use Rattle.protocol.proofs.Laws.{lawful, wired}
use Rattle.protocol.proofs.Simulates.{simulates}
use Rattle.protocol.proofs.Counts.{write_moves, read_moves, first_ticket}
use Rattle.protocol.proofs.Atomic.Runs.{model_swept}

module _ (n v : ℕ) (t l : List ℕ) (cs : List Call) (e : (set_up_of ticket_rules n v 0 t l).answer ≡ Ok Accepted) where
  abbrev r : Ran
  r = ran_from ticket_rules n v 0 t l cs

  abbrev b : Model
  b = (model_of book n v 0 l cs).model

  z : FromSetUp ticket_rules book WIs RIs n v 0 t l (set_up_of ticket_rules n v 0 t l) cs
  z = start ticket_rules book WIs RIs lawful simulates n v 0 (omega arith) t l cs e

  n_kept : (ran_from ticket_rules n v 0 t l cs).state.head.n ≡ n
  n_kept = n_is ticket_rules book WIs RIs lawful simulates n v 0 (omega arith) t l cs e

  rows_kept : length (set_up_of ticket_rules n v 0 t l).log ≡ (ran_from ticket_rules n v 0 t l cs).state.head.rows
  rows_kept = full ticket_rules book WIs RIs lawful simulates n v 0 (omega arith) t l cs e

  next_ticket : (u : ℕ) (cells : List Cell) → b.op 0 ≡ open_with u n cells
      → NewTicket n (b.stamp 0).cur (next ticket_rules n v 0 t l cs (step 0)).table (excluded_tickets (b.stamp 0) cells)
  next_ticket u cells q =
      subst (λ (k : ℕ). NewTicket k (b.stamp 0).cur (next ticket_rules n v 0 t l cs (step 0)).table (excluded_tickets (b.stamp 0) cells)) n_kept
      (first_ticket _ _ r.state r.table r.log b z.runs.good z.runs.rel rows_kept u n cells q (sym n_kept))

  pub whole : v < 2 ^ 32 → LowCalls cs → Whole n v t l cs
  whole low lows = record {
    as_book = as_book ticket_rules book WIs RIs lawful simulates n v 0 (omega arith) t l cs e index Pair wired
        (model_swept n (length l) v cs z.n_low z.n_high low lows);
    write_moves = λ u m cells q. as_set_up ticket_rules book WIs RIs lawful simulates n v 0 (omega arith) t l cs e 0 m (λ k. 2 * k)
        (write_moves _ _ r.state r.table r.log b z.runs.good z.runs.rel rows_kept u m cells q);
    read_moves = λ p p1 pn free u m cells q. as_set_up ticket_rules book WIs RIs lawful simulates n v 0 (omega arith) t l cs e p m (λ k. pick (failed k m cells) (3 * k + 6) (2 * k + 3))
        (read_moves _ _ r.state r.table r.log b z.runs.good z.runs.rel rows_kept p p1 (omega (arith, n_kept)) free u m cells q);
    new_ticket = next_ticket;
    retired_cells = cells_stand ticket_rules book WIs RIs lawful simulates n v 0 (omega arith) t l cs e index Pair wired;
  }
