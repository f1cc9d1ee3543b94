use Rattle.std.proofs.Common.{◌∙◌, ap}
use Rattle.vm_shadow.specs.Slots.{Slots}
use Rattle.vm_shadow.specs.Links.{links_of, counts}
use Rattle.vm_shadow.proofs.Views.{counted_view}
use Rattle.vm_shadow.proofs.Sets.{some_counted, few_counted, set_there, counted_after}
use Rattle.vm_shadow.proofs.shadow.Shadow.set.Goals as goal

pub recount-requires-clause-some : goal.recount-requires-clause-some
recount-requires-clause-some g c =
    some_counted c.self.inside.area c.self.inside.nodes c.args.self.now c.self.view_is (g.R.Ram.bytes c.args.ram.now) c.args.slot c.args.index
    c.requires.slot c.requires.index c.requires.counted c.area-area.result c.in_slot-at.result c.long_in-old.result c.area-area.ensures.area
    c.in_slot-at.ensures.number c.long_in-old.ensures

pub recount-requires-clause-few : goal.recount-requires-clause-few
recount-requires-clause-few g c =
    few_counted c.self.inside.area c.self.inside.nodes c.args.self.now c.self.view_is (g.R.Ram.bytes c.args.ram.now) c.args.slot c.args.index
    c.requires.slot c.requires.index c.requires.counted c.area-area.result c.in_slot-at.result c.long_in-old.result c.area-area.ensures.area
    c.in_slot-at.ensures.number c.long_in-old.ensures

pub returns-clause-longs : goal.returns-clause-longs
returns-clause-longs g c =
    set_there c.self.inside.area c.self.inside.nodes c.args.self.now c.self.view_is (g.R.Ram.bytes c.args.ram.now) c.args.slot c.args.index
    c.requires.slot c.requires.index c.requires.counted c.area-area.result c.in_slot-at.result c.long_in-old.result c.area-area.ensures.area
    c.in_slot-at.ensures.number c.long_in-old.ensures
    (g.R.Ram.bytes c.set_in.new.ram) c.args.long c.set_in.ensures.longs

pub returns-clause-same : goal.returns-clause-same
returns-clause-same g c =
    let t = c.self.inside.nodes in
    let u = c.recount.new.self in
    counted_view c.self.inside.area (links_of t) (links_of u) (counts t) (counts u) _ c.recount.ensures.links
    ∙ ap (λ (q : Slots). record q { counts = counts u }) c.self.view_is

pub returns-clause-counted : goal.returns-clause-counted
returns-clause-counted g c =
    counted_after c.self.inside.area c.self.inside.nodes c.args.self.now c.self.view_is (g.R.Ram.bytes c.args.ram.now) c.args.slot c.args.index
    c.requires.slot c.requires.index c.requires.counted c.area-area.result c.in_slot-at.result c.long_in-old.result c.area-area.ensures.area
    c.in_slot-at.ensures.number c.long_in-old.ensures
    c.recount.new.self (g.R.Ram.bytes c.set_in.new.ram) c.args.long c.set_in.ensures.longs c.recount.ensures.links c.recount.ensures.count
