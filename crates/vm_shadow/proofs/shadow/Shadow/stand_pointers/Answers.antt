use Rattle.std.proofs.Common.{◌≡◌, ◌∙◌, ℕ, ap, sym, arith}
use Rattle.vm_shadow.specs.declared.table.Table.TheVariants.{Pointers}
use Rattle.vm_shadow.specs.Slots.{placed}
use Rattle.vm_shadow.specs.Area.{link}
use Rattle.vm_shadow.proofs.Maps.{laid, full_but, with_old, with_new, room_new, laid_pointers, entries_pointers, full_pointers}
use Rattle.vm_shadow.proofs.shadow.Shadow.stand_pointers.Goals as goal

pub pointers-requires-clause-laid : goal.pointers-requires-clause-laid
pointers-requires-clause-laid g c = laid (placed c.args.self.now) _ c.requires.tables

pub returns-in-Some-clause-laid : goal.returns-in-Some-clause-laid
returns-in-Some-clause-laid g c = laid (placed c.args.self.now) _ c.requires.tables

pub returns-in-Some-clause-full : goal.returns-in-Some-clause-full
returns-in-Some-clause-full g c = full_but (placed c.args.self.now) _ (Pointers c.args.space c.args.index) c.requires.tables

pub returns-in-Some-clause-tables : goal.returns-in-Some-clause-tables
returns-in-Some-clause-tables g c = sym (with_old (Pointers c.args.space c.args.index) c.args.self.now.tables c.in-Some.ensures.1)

pub push-slot-requires-clause-room : goal.push-slot-requires-clause-room
push-slot-requires-clause-room g c = room_new (Pointers c.args.space c.args.index) c.args.self.now.tables c.in_default.ensures c.requires.room

pub set_root-requires-clause-inside : goal.set_root-requires-clause-inside
set_root-requires-clause-inside g c =
    let inside = c.requires.tables.inside in
    let area = c.push-slot.ensures.pushed.area in
    omega (arith, inside, area)

long : (g : _) (c : goal.After-set_root g) → c.link.result ≡ link c.push-slot.new.self.area c.push-slot.result
long g c = c.link.ensures ∙ ap (λ (n : ℕ). link n c.push-slot.result) c.area.ensures.area

pub returns-clause-laid : goal.returns-clause-laid
returns-clause-laid g c =
    laid_pointers (placed c.args.self.now) (placed c.push-slot.new.self) _ _ c.args.space c.args.index c.push-slot.result c.link.result
    (laid (placed c.args.self.now) _ c.requires.tables) c.requires.index c.in_default.ensures c.push-slot.ensures.inside c.push-slot.ensures.pushed
    c.set_root.ensures.outside.count (long g c) c.set_root.ensures.longs

pub returns-clause-full : goal.returns-clause-full
returns-clause-full g c =
    full_pointers (placed c.args.self.now) (placed c.push-slot.new.self) _ _ c.args.space c.args.index c.push-slot.result c.link.result
    (laid (placed c.args.self.now) _ c.requires.tables) c.requires.index c.in_default.ensures c.push-slot.ensures.inside c.push-slot.ensures.pushed
    c.set_root.ensures.outside.count (long g c) c.set_root.ensures.longs
    (full_but (placed c.args.self.now) _ (Pointers c.args.space c.args.index) c.requires.tables)

pub returns-clause-entries : goal.returns-clause-entries
returns-clause-entries g c =
    entries_pointers (placed c.args.self.now) (placed c.push-slot.new.self) _ _ c.args.space c.args.index c.push-slot.result c.link.result
    (laid (placed c.args.self.now) _ c.requires.tables) c.requires.index c.in_default.ensures c.push-slot.ensures.inside c.push-slot.ensures.pushed
    c.set_root.ensures.outside.count (long g c) c.set_root.ensures.longs

pub returns-clause-tables : goal.returns-clause-tables
returns-clause-tables g c = c.push-slot.ensures.pushed.tables ∙ sym (with_new (Pointers c.args.space c.args.index) c.args.self.now.tables c.in_default.ensures)

pub returns-clause-slot : goal.returns-clause-slot
returns-clause-slot g c = sym c.push-slot.ensures.pushed.slot
