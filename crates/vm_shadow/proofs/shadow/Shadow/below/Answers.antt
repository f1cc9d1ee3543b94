use Rattle.std.proofs.Common.{◌∙◌, ◌/◌, ◌%◌, ℕ, ap, arith}
use Rattle.vm_shadow.specs.declared.table.Table.TheVariants.{Pointers, Pages}
use Rattle.vm_shadow.specs.Slots.{placed}
use Rattle.vm_shadow.specs.Area.{in_slot}
use Rattle.vm_shadow.proofs.Leads.{read_is, leads, led_there}
use Rattle.vm_shadow.proofs.shadow.Shadow.below.Goals as goal

pub in_slot-requires-clause-slot : goal.in_slot-requires-clause-slot
in_slot-requires-clause-slot g c =
    let low = c.requires.laid.tables.inside (Pointers c.args.space (c.args.index / 128)) c.requires.above in
    let e = c.requires.slot in
    omega (arith, low, e)

pub led-requires-clause-link : goal.led-requires-clause-link
led-requires-clause-link g c =
    let above = (placed c.args.self.now).slot (Pointers c.args.space (c.args.index / 128)) in
    let is = read_is (g.R.Ram.bytes c.args.ram.now) c.args.self.now.area c.area-area.result c.in_slot.result (in_slot above (c.args.index % 128))
    c.long_in.result c.area-area.ensures.area (c.in_slot.ensures.number ∙ ap (λ (n : ℕ). in_slot n (c.args.index % 128)) c.requires.slot)
    c.long_in.ensures
    ∙ c.requires.laid.tables.pointers c.args.space c.args.index c.requires.index c.requires.above in
    leads (placed c.args.self.now) _ c.requires.laid (Pages c.args.space c.args.index) c.area-area.result c.long_in.result c.area-area.ensures.area is

pub returns : goal.returns
returns g c =
    let above = (placed c.args.self.now).slot (Pointers c.args.space (c.args.index / 128)) in
    let is = read_is (g.R.Ram.bytes c.args.ram.now) c.args.self.now.area c.area-area.result c.in_slot.result (in_slot above (c.args.index % 128))
    c.long_in.result c.area-area.ensures.area (c.in_slot.ensures.number ∙ ap (λ (n : ℕ). in_slot n (c.args.index % 128)) c.requires.slot)
    c.long_in.ensures
    ∙ c.requires.laid.tables.pointers c.args.space c.args.index c.requires.index c.requires.above in
    led_there (placed c.args.self.now) _ c.requires.laid (Pages c.args.space c.args.index) c.area-area.result c.long_in.result
    c.area-area.ensures.area is c.led.result c.led.ensures
