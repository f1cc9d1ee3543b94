use Rattle.std.proofs.Common.{◌≡◌, ◌∙◌, ◌+◌, ap, sym, subst, refl}
use Rattle.mb_model.specs.Pages.{page_of}
use Rattle.vm_shadow.specs.Shadows.{with_page_put}
use Rattle.vm_shadow.specs.Mapped.{shadowed}
use Rattle.def_guests.specs.Seats.{own}
use Rattle.vm_port.specs.Own.{IsPlaced}
use Rattle.vm_port.proofs.Frames.{around}
use Rattle.vm_port.proofs.Owns.{placed_filled, own_filled}
use Rattle.vm_port.proofs.memory.GuestMemory.put_page.Goals as goal

pub invariant_of-self : goal.invariant_of-self
invariant_of-self g c =
    let m = c.args.self.now in
    let e = c.fill.ensures in
    let before = shadowed m.shadow.now (g.R.Ram.bytes m.ram.now) in
    let space = c.args.space in
    let page = c.args.page in
    let frame = c.args.frame in
    let writable = c.args.writable in
    let is :
    shadowed c.fill.new.self (g.R.Ram.bytes c.fill.new.ram) ≡ with_page_put space page (page_of m.base + frame) writable before =
    rw (sym c.page_of.ensures.number) e.shadow in
    record {
      aligned = m.aligned;
      whole = m.whole;
      small = rw e.outside.count m.small;
      inside = rw e.outside.count m.inside;
      area = e.area ∙ m.area;
      maps = e.tables;
      placed = subst (IsPlaced m.base) (sym is) (placed_filled m.base before space page frame writable m.placed);
    }

pub returns-clause-shadow : goal.returns-clause-shadow
returns-clause-shadow g c =
    let m = c.args.self.now in
    let e = c.fill.ensures in
    let before = shadowed m.shadow.now (g.R.Ram.bytes m.ram.now) in
    let space = c.args.space in
    let page = c.args.page in
    let frame = c.args.frame in
    let writable = c.args.writable in
    let is :
    shadowed c.fill.new.self (g.R.Ram.bytes c.fill.new.ram) ≡ with_page_put space page (page_of m.base + frame) writable before =
    rw (sym c.page_of.ensures.number) e.shadow in
    ap (own m.base) is ∙ own_filled m.base before space page frame writable

pub returns-clause-ram : goal.returns-clause-ram
returns-clause-ram g c =
    let m = c.args.self.now in
    let e = c.fill.ensures in
    let (part, below, above) =
    around (g.R.Ram.bytes m.ram.now) (g.R.Ram.bytes c.fill.new.ram) m.base m.size m.shadow.now.area m.area e.outside.below e.outside.above in
    part

pub returns-clause-around : goal.returns-clause-around
returns-clause-around g c =
    let m = c.args.self.now in
    let e = c.fill.ensures in
    let (part, below, above) =
    around (g.R.Ram.bytes m.ram.now) (g.R.Ram.bytes c.fill.new.ram) m.base m.size m.shadow.now.area m.area e.outside.below e.outside.above in
    rw (e.rest, e.outside.count, below, above) refl
