use Rattle.std.proofs.Common.{◌∙◌}
use Rattle.vm_shadow.specs.declared.table.Table.TheVariants.{Pointers}
use Rattle.vm_shadow.specs.Slots.{placed}
use Rattle.vm_shadow.specs.Area.{in_root}
use Rattle.vm_shadow.proofs.Leads.{read_is, leads, led_there}
use Rattle.vm_shadow.proofs.shadow.Shadow.pointers.Goals as goal

pub led-requires-clause-link : goal.led-requires-clause-link
led-requires-clause-link g c =
    let is = read_is (g.R.Ram.bytes c.args.ram.now) c.args.self.now.area c.area-area.result c.in_root.result (in_root c.args.space c.args.index)
    c.long_in.result c.area-area.ensures.area c.in_root.ensures.number c.long_in.ensures
    ∙ c.requires.laid.tables.roots c.args.space c.args.index c.requires.index in
    leads (placed c.args.self.now) _ c.requires.laid (Pointers c.args.space c.args.index) c.area-area.result c.long_in.result c.area-area.ensures.area is

pub returns : goal.returns
returns g c =
    let is = read_is (g.R.Ram.bytes c.args.ram.now) c.args.self.now.area c.area-area.result c.in_root.result (in_root c.args.space c.args.index)
    c.long_in.result c.area-area.ensures.area c.in_root.ensures.number c.long_in.ensures
    ∙ c.requires.laid.tables.roots c.args.space c.args.index c.requires.index in
    led_there (placed c.args.self.now) _ c.requires.laid (Pointers c.args.space c.args.index) c.area-area.result c.long_in.result
    c.area-area.ensures.area is c.led.result c.led.ensures
