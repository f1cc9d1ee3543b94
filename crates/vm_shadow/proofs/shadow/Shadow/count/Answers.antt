use Rattle.std.proofs.Common.{◌∙◌, length, ap, sym, arith}
use Rattle.vm_shadow.specs.Slots.{Slots}
use Rattle.vm_shadow.specs.Links.{links_of}
use Rattle.vm_shadow.proofs.Views.{how_many}
use Rattle.vm_shadow.proofs.shadow.Shadow.count.Goals as goal

pub returns-clause-used : goal.returns-clause-used
returns-clause-used c =
    c.self.invariant.1.many ∙ sym (how_many (links_of c.self.inside.nodes)) ∙ ap (λ (q : Slots). length q.tables) c.self.view_is

pub returns-clause-few : goal.returns-clause-few
returns-clause-few c =
    let many = c.self.invariant.1.many in
    let all = c.self.invariant.1.linked.all in
    omega (arith, many, all)
