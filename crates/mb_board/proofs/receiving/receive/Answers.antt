use Rattle.std.proofs.Common.{sym}
use Rattle.mb_board.proofs.receiving.receive.Goals as goal

pub returns-clause-means : goal.returns-clause-means
returns-clause-means c = sym ((c.is_due.ensures.quiet c.if-is_due.false).devices c.args.devices.now)

pub returns-clause-aborted : goal.returns-clause-aborted
returns-clause-aborted c = sym (c.is_due.ensures.quiet c.if-is_due.false).unaborted
