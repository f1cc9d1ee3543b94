use Rattle.std.proofs.Common.{true, false}
use Rattle.vm_shadow.proofs.PageLongs.{page_lawful}
use Rattle.vm_shadow.proofs.area.page_long.Goals.{then-writable, else-writable}
use Rattle.vm_shadow.proofs.area.page_long.Goals as goal

pub returns-clause-lawful : goal.returns-clause-lawful
returns-clause-lawful c = elim c.if-writable.branch [
  | then-writable w ↦ rw w.result-is (page_lawful c.args.frame true)
  | else-writable w ↦ rw w.result-is (page_lawful c.args.frame false)
]
