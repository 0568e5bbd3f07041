-- Every session of the table comes out as documents 01 and 02 say, by computation.
use mathlib.Core.Path.{◌≡◌, refl}
use mathlib.Core.Bool.{true}
use Rattle.words.specs.Cell
use Rattle.words.specs.Row
use Rattle.words.specs.Index
use Rattle.words.specs.Update
use Rattle.words.specs.Counting
use Rattle.logbytes.specs.Bytes
use Rattle.history.specs.Search
use Rattle.history.specs.Rows
use Rattle.history.specs.WellFormed
use Rattle.history.specs.History
use Rattle.history.specs.Sweep
use Rattle.history.specs.Listing
use Rattle.history.specs.Chosen
use Rattle.judging.specs.Fold
use Rattle.judging.specs.Answer
use Rattle.common.specs.Head
use Rattle.common.specs.Rules
use Rattle.common.specs.SetUp
use Rattle.common.specs.Register
use Rattle.common.specs.Book
use Rattle.protocol.specs.Tickets
use Rattle.protocol.specs.State
use Rattle.protocol.specs.Write
use Rattle.protocol.specs.Read
use Rattle.protocol.specs.Rules as TicketRules
use Rattle.protocol.specs.Reference
use Rattle.counted.specs.Cell as CountedCell
use Rattle.counted.specs.Table as CountedTable
use Rattle.counted.specs.State as CountedState
use Rattle.counted.specs.Steps as CountedSteps
use Rattle.counted.specs.Rules as CountedRules
use Rattle.counted.specs.Reference as CountedReference
use Rattle.sessions.specs.Session.{holds, as_defined, in_book, all}
use Rattle.sessions.specs.Table.{table}

pub sessions : all table ≡ true
unfolding holds as_defined in_book Cell.pack_cell Cell.unpack_cell Row.pack_row Index.index Index.in_row Update.upd native.Mathlib.Decide.ℕ_discrete Bytes.rows_of Bytes.read_rows Answer.number_of Answer.bytes_number Answer.answer_of Answer.order_of Answer.cases Answer.laid Answer.begins_to Answer.count_after Fold.up_to Rows.kind_of Rows.within Rows.suits Rows.begins Rows.kind_at Rows.processor_at Rows.zero_at Rows.value_at WellFormed.well_formed WellFormed.head_ok WellFormed.fields WellFormed.open_at WellFormed.alternates WellFormed.row_ok WellFormed.all History.event_at History.end_at Search.first Sweep.place_at Sweep.adds Sweep.floors Sweep.floor Sweep.place Sweep.missing Listing.behind Listing.group Listing.build Listing.listing Chosen.chosen Chosen.last_before Chosen.reads_from Chosen.regular Chosen.uninverted lib.Count.ones lib.Count.ones_in Counting.all Counting.count Tickets.with_ticket Tickets.smallest_out Tickets.through Tickets.walk_on Index.other Head.head_ok Rules.state_ok SetUp.set_up_of Register.begin_write_of Register.begin_read_of Register.step_writer Register.step_reader Register.step_of Register.retire_of Register.call_of Register.run_of Book.begins Book.told Book.kept State.writer_ok State.reader_ok Write.ticket_of Write.write_step Read.attempt_step Read.result_step Read.read_step TicketRules.fresh_cells Reference.is_in Reference.first_free Reference.new_ticket Reference.named_tickets Reference.without_none Reference.excluded_tickets Reference.write_turn Reference.first_with Reference.result_of Reference.attempt_turn Reference.result_turn Reference.read_turn Reference.fresh_table CountedCell.pack_cell CountedCell.unpack_cell CountedTable.row_start CountedTable.in_row CountedState.writer_ok CountedState.reader_ok CountedSteps.write_step CountedSteps.larger CountedSteps.read_step CountedRules.fresh_cells CountedReference.top_of CountedReference.first_with CountedReference.result_of CountedReference.write_turn CountedReference.read_turn CountedReference.fresh_table
sessions = refl
