use Rattle.std.proofs.Common.{◌≡◌, ◌∙◌, sym, subst}
use Rattle.vm_shadow.specs.Slots.{Slots, placed, Has, Once}
use Rattle.vm_shadow.specs.Area.{Removed}
use Rattle.vm_shadow.specs.Links.{links_of, counts}
use Rattle.vm_shadow.proofs.Views.{view, counts_are, live_slot, removed_view}
use Rattle.vm_shadow.proofs.shadow.Shadow.remove.Goals as goal

pub remove-requires-clause-live : goal.remove-requires-clause-live
remove-requires-clause-live c =
    let t = c.self.inside.nodes in
    let live = live_slot c.self.inside.area (links_of t) (counts t) c.args.slot c.args.table
    (subst (λ (q : Slots). Has q.tables c.args.table) (sym c.self.view_is) c.requires.stands)
    (subst (λ (q : Slots). c.args.slot ≡ (placed q).slot c.args.table) (sym c.self.view_is) c.requires.slot) in
    (live.0, live.1.0, live.1.1)

pub returns : goal.returns
returns c =
    let t = c.self.inside.nodes in
    let u = c.remove.new.self in
    subst (λ (q : Slots). Removed (placed q) (placed (view c.self.inside.area (links_of u) (counts u))) c.args.table) c.self.view_is
    (removed_view c.self.inside.area (links_of t) (links_of u) (counts t) (counts u) c.args.slot c.args.table
    (subst (λ (q : Slots). Has q.tables c.args.table) (sym c.self.view_is) c.requires.stands)
    (subst (λ (q : Slots). Once q.tables) (sym c.self.view_is) c.requires.once)
    (subst (λ (q : Slots). c.args.slot ≡ (placed q).slot c.args.table) (sym c.self.view_is) c.requires.slot)
    c.remove.ensures.order c.remove.ensures.table (counts_are u ∙ c.remove.ensures.count ∙ sym (counts_are t)))
