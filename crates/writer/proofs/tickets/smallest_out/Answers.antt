use Rattle.protocol.proofs.Tickets.{zeros_of_not}
use Rattle.writer.proofs.tickets.smallest_out.Goals as goal

pub returns : goal.returns
returns c = zeros_of_not 64 c.args.set c.ranges.set.fits
