use Rattle.std.proofs.Common.{◌∙◌, ◌%◌, get_or, ap, sym, subst}
use Rattle.vm_shadow.specs.Slots.{Slots, placed, pages_of}
use Rattle.vm_shadow.specs.Mapped.{entries_in}
use Rattle.vm_shadow.specs.Area.{longs, in_slot, Counted, Laid, UsedBut}
use Rattle.vm_shadow.proofs.Maps.{laid_put, entries_written, full_put, long_put}
use Rattle.vm_shadow.proofs.shadow.Shadow.put.Goals as goal

counted : (g : _) (c : goal.After-set g)
    → Counted (record (placed c.args.self.now) { count = λ n. get_or c.set.new.self.counts n 0 }) (g.R.Ram.bytes c.set.new.ram)
counted g c = subst (λ (q : Slots). Counted (placed q) (g.R.Ram.bytes c.set.new.ram)) c.set.ensures.same c.set.ensures.counted

pub returns-clause-laid : goal.returns-clause-laid
returns-clause-laid g c = subst (λ (q : Slots). Laid (placed q) (g.R.Ram.bytes c.set.new.ram)) (sym c.set.ensures.same)
    (laid_put (placed c.args.self.now) (λ n. get_or c.set.new.self.counts n 0) _ _ c.args.space c.args.page c.args.slot c.args.long
    c.requires.laid c.requires.page c.requires.stands c.requires.slot c.requires.long c.set.ensures.outside.count c.set.ensures.longs (counted g c))

pub returns-clause-full : goal.returns-clause-full
returns-clause-full g c = subst (λ (q : Slots). UsedBut (pages_of c.args.space c.args.page) (placed q) (g.R.Ram.bytes c.set.new.ram)) (sym c.set.ensures.same)
    (full_put (placed c.args.self.now) (λ n. get_or c.set.new.self.counts n 0) _ _ c.args.space c.args.page c.args.slot c.args.long
    c.requires.laid c.requires.page c.requires.stands c.requires.slot c.requires.long c.set.ensures.outside.count c.set.ensures.longs (counted g c)
    c.requires.full)

pub returns-clause-entries : goal.returns-clause-entries
returns-clause-entries g c =
    ap (λ (q : Slots). entries_in (g.R.Ram.bytes c.set.new.ram) q.area) c.set.ensures.same
    ∙ entries_written (placed c.args.self.now) (λ n. get_or c.set.new.self.counts n 0) _ _ c.args.space c.args.page c.args.slot c.args.long
    c.requires.laid c.requires.page c.requires.stands c.requires.slot c.requires.long c.set.ensures.outside.count c.set.ensures.longs (counted g c)

pub returns-clause-long : goal.returns-clause-long
returns-clause-long g c =
    ap (λ (q : Slots). longs (g.R.Ram.bytes c.set.new.ram) q.area (in_slot c.args.slot (c.args.page % 64))) c.set.ensures.same
    ∙ long_put (placed c.args.self.now) (λ n. get_or c.set.new.self.counts n 0) _ _ c.args.space c.args.page c.args.slot c.args.long
    c.requires.laid c.requires.page c.requires.stands c.requires.slot c.requires.long c.set.ensures.outside.count c.set.ensures.longs (counted g c)
