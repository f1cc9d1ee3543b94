use Rattle.std.proofs.Common.{◌≡◌, subst, arith, length, ◌<◌, ℕ}
use Rattle.vm_shadow.specs.Slots.{placed}
use Rattle.vm_shadow.specs.Area.{longs, Maps}
use Rattle.vm_shadow.proofs.Walks.{both_stand}
use Rattle.vm_shadow.proofs.Maps.{laid, maps_empty, shadow_empty}
use Rattle.vm_shadow.proofs.shadow.Shadow.clear.Goals as goal

whole : (g : _) (c : goal.After-empty g) → Maps c.empty.new.self (g.R.Ram.bytes c.wipe.new.ram)
whole g c =
    let area : c.area.result ≡ c.args.self.now.area = c.area.ensures.area in
    let aligned = c.area.ensures.aligned in
    let size : length (g.R.Ram.bytes c.wipe.new.ram) ≡ length (g.R.Ram.bytes c.args.ram.now) = c.wipe.ensures.outside.count in
    let inside = c.requires in
    maps_empty (placed c.args.self.now) (placed c.empty.new.self) (g.R.Ram.bytes c.wipe.new.ram) (omega arith) (omega arith)
    c.empty.ensures.area c.empty.ensures.tables c.empty.ensures.count
    (subst (λ (a : ℕ). (at : ℕ) → at < 16384 → longs (g.R.Ram.bytes c.wipe.new.ram) a at ≡ 0) area c.wipe.ensures.longs)

pub returns-clause-tables : goal.returns-clause-tables
returns-clause-tables g c = whole g c

pub returns-clause-shadow : goal.returns-clause-shadow
returns-clause-shadow g c = shadow_empty (placed c.empty.new.self) _ (laid (placed c.empty.new.self) _ (whole g c)) c.empty.ensures.tables

pub returns-clause-stands : goal.returns-clause-stands
returns-clause-stands g c = both_stand (placed c.empty.new.self) _ (laid (placed c.empty.new.self) _ (whole g c))
