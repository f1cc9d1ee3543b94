use Rattle.vm_shadow.proofs.Maps.{laid}
use Rattle.vm_shadow.specs.Slots.{placed}
use Rattle.vm_shadow.proofs.shadow.Shadow.is_full_for.Goals as goal

pub pointers-requires-clause-laid : goal.pointers-requires-clause-laid
pointers-requires-clause-laid g c = laid (placed c.args.self.now) _ c.requires.tables

pub pages-requires-clause-laid : goal.pages-requires-clause-laid
pages-requires-clause-laid g c = laid (placed c.args.self.now) _ c.requires.tables
