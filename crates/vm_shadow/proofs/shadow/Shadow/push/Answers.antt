use Rattle.std.proofs.Common.{◌∙◌, ◌<◌, ◌≤◌, length, sym, subst, arith}
use Rattle.vm_shadow.specs.Slots.{Slots, placed, number_of}
use Rattle.vm_shadow.specs.Area.{Pushed}
use Rattle.vm_shadow.specs.Links.{links_of, counts}
use Rattle.vm_shadow.proofs.Views.{view, counts_are, how_many, pushed_view}
use Rattle.vm_shadow.proofs.shadow.Shadow.push.Goals as goal

pub push-requires-clause-room : goal.push-requires-clause-room
push-requires-clause-room c =
    let e = how_many (links_of c.self.inside.nodes) in
    let room = subst (λ (q : Slots). length q.tables < 126) (sym c.self.view_is) c.requires.room in
    omega (arith, e, room)

pub returns-clause-pushed : goal.returns-clause-pushed
returns-clause-pushed c =
    let t = c.self.inside.nodes in
    let u = c.push.new.self in
    let new = subst (λ (q : Slots). length q.tables ≤ number_of c.args.table q.tables) (sym c.self.view_is) c.requires.new in
    subst (λ (q : Slots). Pushed (placed q) (placed (view c.self.inside.area (links_of u) (counts u))) c.args.table c.push.result) c.self.view_is
    (pushed_view c.self.inside.area (links_of t) (links_of u) (counts t) (counts u) c.push.result c.args.table c.push.ensures.order c.push.ensures.table
    (counts_are u ∙ c.push.ensures.count ∙ sym (counts_are t)) c.push.ensures.free new)
