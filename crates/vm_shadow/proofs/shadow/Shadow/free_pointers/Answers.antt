use Rattle.std.proofs.Common.{not, refl, arith}
use Rattle.vm_shadow.specs.declared.table.Table.TheVariants.{Pointers}
use Rattle.vm_shadow.specs.Slots.{placed, same_table}
use Rattle.vm_shadow.proofs.Kept.{go_none}
use Rattle.vm_shadow.proofs.Maps.{used_of, zero_of, maps_of, maps_freed, entries_gone}
use Rattle.vm_shadow.proofs.shadow.Shadow.free_pointers.Goals as goal

pub is_empty-requires : goal.is_empty-requires
is_empty-requires g c =
    let low = c.requires.laid.tables.inside (Pointers c.args.space c.args.index) c.requires.stands in
    let e = c.in-Some.ensures.0 in
    omega (arith, low, e)

pub returns-else-is_empty-clause-tables : goal.returns-else-is_empty-clause-tables
returns-else-is_empty-clause-tables g c =
    let s = placed c.args.self.now in
    let a = Pointers c.args.space c.args.index in
    maps_of s _ a c.requires.laid c.requires.full
    (λ has. used_of s _ a c.in-Some.slot c.is_empty.result c.requires.laid c.requires.stands c.in-Some.ensures.0 c.is_empty.ensures c.if-is_empty.false)

pub returns-else-is_empty-clause-gone : goal.returns-else-is_empty-clause-gone
returns-else-is_empty-clause-gone g c = go_none c.args.self.now.tables c.args.self.now.tables refl

pub set_root-requires-clause-inside : goal.set_root-requires-clause-inside
set_root-requires-clause-inside g c = c.requires.laid.inside

pub remove-requires-clause-once : goal.remove-requires-clause-once
remove-requires-clause-once g c = c.requires.laid.tables.once

pub returns-then-is_empty-clause-tables : goal.returns-then-is_empty-clause-tables
returns-then-is_empty-clause-tables g c =
    maps_freed (placed c.args.self.now) (placed c.remove.new.self) _ _ c.args.space c.args.index c.requires.laid c.requires.index c.requires.stands
    (zero_of (placed c.args.self.now) (Pointers c.args.space c.args.index) c.in-Some.slot c.is_empty.result c.in-Some.ensures.0 c.is_empty.ensures
    c.if-is_empty.true) c.set_root.ensures.outside.count c.set_root.ensures.longs c.remove.ensures c.requires.full

pub returns-then-is_empty-clause-entries : goal.returns-then-is_empty-clause-entries
returns-then-is_empty-clause-entries g c =
    entries_gone (placed c.args.self.now) (placed c.remove.new.self) _ _ c.args.space c.args.index c.requires.laid c.requires.index c.requires.stands
    (zero_of (placed c.args.self.now) (Pointers c.args.space c.args.index) c.in-Some.slot c.is_empty.result c.in-Some.ensures.0 c.is_empty.ensures
    c.if-is_empty.true) c.set_root.ensures.outside.count c.set_root.ensures.longs c.remove.ensures

pub returns-then-is_empty-clause-gone : goal.returns-then-is_empty-clause-gone
returns-then-is_empty-clause-gone g c = (λ a. not (same_table (Pointers c.args.space c.args.index) a), c.remove.ensures.tables)

pub returns-in_default-clause-tables : goal.returns-in_default-clause-tables
returns-in_default-clause-tables g c = let k = c.in_default.ensures in let h = c.requires.stands in absurd (omega (arith, k, h))

pub returns-in_default-clause-gone : goal.returns-in_default-clause-gone
returns-in_default-clause-gone g c = go_none c.args.self.now.tables c.args.self.now.tables refl
