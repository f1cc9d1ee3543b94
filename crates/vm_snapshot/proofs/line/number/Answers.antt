use Rattle.vm_snapshot.proofs.Listed.{least_read}
use Rattle.vm_snapshot.proofs.line.number.Goals as goal

pub returns-clause-least : goal.returns-clause-least
returns-clause-least c =
    least_read c.decimal.result c.args.least c.args.most c.args.reader.now.left c.decimal.new.self.left c.requires
    (rw c.from_to.ensures at c.decimal.ensures.reads) c.ranges.most.fits
