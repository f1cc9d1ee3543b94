use Rattle.std.proofs.Common.{◌≡◌, ◌∙◌, ◌/◌, ℕ, get_or, ap, sym, subst, arith}
use Rattle.vm_shadow.specs.declared.table.Table.TheVariants.{Pointers, Pages}
use Rattle.vm_shadow.specs.Slots.{Slots, placed}
use Rattle.vm_shadow.specs.Mapped.{entries_in}
use Rattle.vm_shadow.specs.Area.{link, Counted, Laid, UsedBut}
use Rattle.vm_shadow.proofs.Maps.{full_but, maps_of, above_used, with_old, with_new, room_new, pushed_counted, laid_pages, entries_pages, full_pages}
use Rattle.vm_shadow.proofs.shadow.Shadow.stand_pages.Goals as goal

pub returns-in-Some-clause-full : goal.returns-in-Some-clause-full
returns-in-Some-clause-full g c =
    let s = placed c.args.self.now in
    full_but s _ (Pages c.args.space c.args.index)
    (maps_of s _ (Pointers c.args.space (c.args.index / 128)) c.requires.laid c.requires.full
    (λ up. above_used s _ c.args.space c.args.index c.requires.laid c.requires.index c.in-Some.ensures.1))

pub returns-in-Some-clause-tables : goal.returns-in-Some-clause-tables
returns-in-Some-clause-tables g c = sym (with_old (Pages c.args.space c.args.index) c.args.self.now.tables c.in-Some.ensures.1)

pub push-slot-requires-clause-room : goal.push-slot-requires-clause-room
push-slot-requires-clause-room g c = room_new (Pages c.args.space c.args.index) c.args.self.now.tables c.in_default.ensures c.requires.room

pub set-requires-clause-slot : goal.set-requires-clause-slot
set-requires-clause-slot g c =
    let low = c.requires.laid.tables.inside (Pointers c.args.space (c.args.index / 128)) c.requires.above in
    let e = c.requires.slot in
    omega (arith, low, e)

pub set-requires-clause-inside : goal.set-requires-clause-inside
set-requires-clause-inside g c =
    let inside = c.requires.laid.inside in
    let area = c.push-slot.ensures.pushed.area in
    omega (arith, inside, area)

pub set-requires-clause-counted : goal.set-requires-clause-counted
set-requires-clause-counted g c =
    pushed_counted (placed c.args.self.now) (placed c.push-slot.new.self) _ (Pages c.args.space c.args.index) c.push-slot.result
    c.push-slot.ensures.pushed c.requires.laid.counted

long : (g : _) (c : goal.After-set g) → c.link.result ≡ link c.push-slot.new.self.area c.push-slot.result
long g c = c.link.ensures ∙ ap (λ (n : ℕ). link n c.push-slot.result) c.area.ensures.area

counted : (g : _) (c : goal.After-set g)
    → Counted (record (placed c.push-slot.new.self) { count = λ n. get_or c.set.new.self.counts n 0 }) (g.R.Ram.bytes c.set.new.ram)
counted g c = subst (λ (q : Slots). Counted (placed q) (g.R.Ram.bytes c.set.new.ram)) c.set.ensures.same c.set.ensures.counted

pub returns-clause-laid : goal.returns-clause-laid
returns-clause-laid g c = subst (λ (q : Slots). Laid (placed q) (g.R.Ram.bytes c.set.new.ram)) (sym c.set.ensures.same)
    (laid_pages (placed c.args.self.now) (placed c.push-slot.new.self) (λ n. get_or c.set.new.self.counts n 0) _ _ c.args.space c.args.index c.args.above
    c.push-slot.result c.link.result c.requires.laid c.requires.index c.requires.above c.requires.slot c.in_default.ensures c.push-slot.ensures.inside
    c.push-slot.ensures.pushed c.set.ensures.outside.count (long g c) c.set.ensures.longs (counted g c))

pub returns-clause-full : goal.returns-clause-full
returns-clause-full g c = subst (λ (q : Slots). UsedBut (Pages c.args.space c.args.index) (placed q) (g.R.Ram.bytes c.set.new.ram)) (sym c.set.ensures.same)
    (full_pages (placed c.args.self.now) (placed c.push-slot.new.self) (λ n. get_or c.set.new.self.counts n 0) _ _ c.args.space c.args.index c.args.above
    c.push-slot.result c.link.result c.requires.laid c.requires.index c.requires.above c.requires.slot c.in_default.ensures c.push-slot.ensures.inside
    c.push-slot.ensures.pushed c.set.ensures.outside.count (long g c) c.set.ensures.longs (counted g c) c.requires.full)

pub returns-clause-entries : goal.returns-clause-entries
returns-clause-entries g c =
    ap (λ (q : Slots). entries_in (g.R.Ram.bytes c.set.new.ram) q.area) c.set.ensures.same
    ∙ entries_pages (placed c.args.self.now) (placed c.push-slot.new.self) (λ n. get_or c.set.new.self.counts n 0) _ _ c.args.space c.args.index c.args.above
    c.push-slot.result c.link.result c.requires.laid c.requires.index c.requires.above c.requires.slot c.in_default.ensures c.push-slot.ensures.inside
    c.push-slot.ensures.pushed c.set.ensures.outside.count (long g c) c.set.ensures.longs (counted g c)

pub returns-clause-tables : goal.returns-clause-tables
returns-clause-tables g c =
    ap (λ (q : Slots). q.tables) c.set.ensures.same ∙ c.push-slot.ensures.pushed.tables
    ∙ sym (with_new (Pages c.args.space c.args.index) c.args.self.now.tables c.in_default.ensures)

pub returns-clause-slot : goal.returns-clause-slot
returns-clause-slot g c =
    sym (ap (λ (q : Slots). (placed q).slot (Pages c.args.space c.args.index)) c.set.ensures.same ∙ c.push-slot.ensures.pushed.slot)
