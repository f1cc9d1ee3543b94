use Rattle.std.proofs.Common.{◌≡◌, ◌∙◌, ◌/◌, ◌%◌, ℕ, List, length, ap, sym, subst, arith}
use Rattle.vm_shadow.specs.declared.table.Table.{Table}
use Rattle.vm_shadow.specs.declared.table.Table.TheVariants.{Pointers, Pages}
use Rattle.vm_shadow.specs.Slots.{Slots, placed, with_table, pointers_of, pages_of, Has}
use Rattle.vm_shadow.specs.Shadows.{with_entry}
use Rattle.vm_shadow.specs.Mapped.{entries_in, shadowed}
use Rattle.vm_shadow.specs.Area.{longs, in_slot, entry_of, Maps, UsedBut}
use Rattle.vm_shadow.proofs.Uses.{used_by}
use Rattle.vm_shadow.proofs.Walks.{both_stand}
use Rattle.vm_shadow.proofs.Searches.{entry_long}
use Rattle.vm_shadow.proofs.Maps.{maps_of, with_has}
use Rattle.vm_shadow.proofs.Fills.{with_more, long_some, shadow_filled}
use Rattle.vm_shadow.proofs.shadow.Shadow.fill.Goals as goal

pub stand_pointers-above-requires-clause-room : goal.stand_pointers-above-requires-clause-room
stand_pointers-above-requires-clause-room g c =
    let room = c.make_room-full.ensures.room in
    let more = with_more (pages_of c.args.space c.args.page) (with_table (pointers_of c.args.space c.args.page) c.make_room-full.new.self.tables) in
    omega (arith, room, more)

pub stand_pages-slot-requires-clause-above : goal.stand_pages-slot-requires-clause-above
stand_pages-slot-requires-clause-above g c =
    let same : c.args.page / 8192 ≡ c.args.page / 64 / 128 = omega arith in
    subst (λ (n : ℕ). Has c.stand_pointers-above.new.self.tables (Pointers c.args.space n)) same
    (subst (λ (tables : List Table). Has tables (Pointers c.args.space (c.args.page / 8192))) (sym c.stand_pointers-above.ensures.tables)
    (with_has (Pointers c.args.space (c.args.page / 8192)) c.make_room-full.new.self.tables))

pub stand_pages-slot-requires-clause-slot : goal.stand_pages-slot-requires-clause-slot
stand_pages-slot-requires-clause-slot g c =
    let same : c.args.page / 8192 ≡ c.args.page / 64 / 128 = omega arith in
    subst (λ (n : ℕ). c.stand_pointers-above.result ≡ (placed c.stand_pointers-above.new.self).slot (Pointers c.args.space n)) same
    c.stand_pointers-above.ensures.slot

pub stand_pages-slot-requires-clause-room : goal.stand_pages-slot-requires-clause-room
stand_pages-slot-requires-clause-room g c =
    let room = c.make_room-full.ensures.room in
    let e = ap (λ (ts : List Table). length (with_table (Pages c.args.space (c.args.page / 64)) ts)) c.stand_pointers-above.ensures.tables in
    omega (arith, room, e)

pub stand_pages-slot-requires-clause-full : goal.stand_pages-slot-requires-clause-full
stand_pages-slot-requires-clause-full g c =
    let same : c.args.page / 8192 ≡ c.args.page / 64 / 128 = omega arith in
    subst (λ (n : ℕ). UsedBut (Pointers c.args.space n) (placed c.stand_pointers-above.new.self) (g.R.Ram.bytes c.stand_pointers-above.new.ram)) same
    c.stand_pointers-above.ensures.full

pub put-requires-clause-stands : goal.put-requires-clause-stands
put-requires-clause-stands g c =
    subst (λ (tables : List Table). Has tables (Pages c.args.space (c.args.page / 64))) (sym c.stand_pages-slot.ensures.tables)
    (with_has (Pages c.args.space (c.args.page / 64)) c.stand_pointers-above.new.self.tables)

whole : (g : _) (c : goal.After-put g) → Maps c.put.new.self (g.R.Ram.bytes c.put.new.ram)
whole g c =
    let a = pages_of c.args.space c.args.page in
    let t = longs (g.R.Ram.bytes c.put.new.ram) c.put.new.self.area in
    let is : c.stand_pages-slot.result ≡ (placed c.put.new.self).slot a =
    subst (λ (q : Slots). c.stand_pages-slot.result ≡ (placed q).slot a) (sym c.put.ensures.same) c.stand_pages-slot.ensures.slot in
    maps_of (placed c.put.new.self) _ a c.put.ensures.laid c.put.ensures.full
    (λ has. used_by t ((placed c.put.new.self).slot a) (c.args.page % 64) (omega arith) (λ z.
    long_some c.args.frame c.args.writable (sym c.page_long.ensures.long ∙ sym c.put.ensures.long
    ∙ ap (λ (n : ℕ). t (in_slot n (c.args.page % 64))) is ∙ z)))

pub returns-clause-tables : goal.returns-clause-tables
returns-clause-tables g c = whole g c

pub returns-clause-stands : goal.returns-clause-stands
returns-clause-stands g c = both_stand (placed c.put.new.self) _ c.put.ensures.laid

pub returns-clause-shadow : goal.returns-clause-shadow
returns-clause-shadow g c =
    let entries = λ (s : Slots) (ram : List ℕ). entries_in ram s.area in
    shadow_filled c.args.space c.args.page c.args.frame c.args.writable (shadowed c.args.self.now (g.R.Ram.bytes c.args.ram.now))
    (entries c.make_room-full.new.self (g.R.Ram.bytes c.make_room-full.new.ram))
    (entries c.stand_pointers-above.new.self (g.R.Ram.bytes c.stand_pointers-above.new.ram))
    (entries c.stand_pages-slot.new.self (g.R.Ram.bytes c.stand_pages-slot.new.ram))
    (entries c.put.new.self (g.R.Ram.bytes c.put.new.ram))
    c.make_room-full.new.self.tables c.stand_pointers-above.new.self.tables c.stand_pages-slot.new.self.tables c.put.new.self.tables
    c.make_room-full.ensures.shadow
    c.stand_pointers-above.ensures.entries c.stand_pointers-above.ensures.tables
    c.stand_pages-slot.ensures.entries c.stand_pages-slot.ensures.tables
    (c.put.ensures.entries
    ∙ ap (λ o. with_entry c.args.space c.args.page o (entries c.stand_pages-slot.new.self (g.R.Ram.bytes c.stand_pages-slot.new.ram)))
    (ap entry_of c.page_long.ensures.long ∙ entry_long c.args.frame c.args.writable))
    (ap (λ (q : Slots). q.tables) c.put.ensures.same)
