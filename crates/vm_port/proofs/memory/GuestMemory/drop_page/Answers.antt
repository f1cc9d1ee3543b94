use Rattle.std.proofs.Common.{◌∙◌, ap, sym, subst, refl}
use Rattle.vm_shadow.specs.Mapped.{shadowed}
use Rattle.def_guests.specs.Seats.{own}
use Rattle.vm_port.specs.Own.{IsPlaced}
use Rattle.vm_port.proofs.Frames.{around}
use Rattle.vm_port.proofs.Owns.{placed_dropped, own_dropped}
use Rattle.vm_port.proofs.memory.GuestMemory.drop_page.Goals as goal

pub invariant_of-self : goal.invariant_of-self
invariant_of-self g c =
    let m = c.args.self.now in
    let e = c.drop_page.ensures in
    let before = shadowed m.shadow.now (g.R.Ram.bytes m.ram.now) in
    let is = e.shadow in
    record {
      aligned = m.aligned;
      whole = m.whole;
      small = rw e.outside.count m.small;
      inside = rw e.outside.count m.inside;
      area = e.area ∙ m.area;
      maps = e.tables;
      placed = subst (IsPlaced m.base) (sym is) (placed_dropped m.base before c.args.space c.args.page m.placed);
    }

pub returns-clause-shadow : goal.returns-clause-shadow
returns-clause-shadow g c =
    let m = c.args.self.now in
    let e = c.drop_page.ensures in
    let before = shadowed m.shadow.now (g.R.Ram.bytes m.ram.now) in
    let is = e.shadow in
    ap (own m.base) is ∙ own_dropped m.base before c.args.space c.args.page

pub returns-clause-ram : goal.returns-clause-ram
returns-clause-ram g c =
    let m = c.args.self.now in
    let e = c.drop_page.ensures in
    let (part, below, above) =
    around (g.R.Ram.bytes m.ram.now) (g.R.Ram.bytes c.drop_page.new.ram) m.base m.size m.shadow.now.area m.area e.outside.below e.outside.above in
    part

pub returns-clause-around : goal.returns-clause-around
returns-clause-around g c =
    let m = c.args.self.now in
    let e = c.drop_page.ensures in
    let (part, below, above) =
    around (g.R.Ram.bytes m.ram.now) (g.R.Ram.bytes c.drop_page.new.ram) m.base m.size m.shadow.now.area m.area e.outside.below e.outside.above in
    rw (e.rest, e.outside.count, below, above) refl
