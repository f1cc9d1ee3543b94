use Rattle.std.proofs.Common.{◌∙◌}
use Rattle.vm_shadow.proofs.Finds.{meets_first, meets_second, second_inside, third_inside, found_none_second, found_entry, entry_is}
use Rattle.vm_shadow.proofs.Finds.{is_resident, is_absent, entry_yes, entry_no}
use Rattle.vm_shadow.specs.Slots.{placed}
use Rattle.vm_shadow.proofs.Maps.{laid}
use Rattle.vm_shadow.proofs.shadow.Shadow.find.Goals as goal

pub long-leaf-requires-clause-inside : goal.long-leaf-requires-clause-inside
long-leaf-requires-clause-inside g c =
    let s = placed c.args.self.now in
    let ram = g.R.Ram.bytes c.args.ram.now in
    let m = laid s ram c.requires.tables in
    let a = c.long-pointer.result in
    second_inside s ram c.args.space c.args.page m c.requires.page a
    (meets_first s ram c.args.space c.args.page m c.requires.page c.root.result a c.root.ensures c.long-pointer.ensures)
    (is_resident c.of.result a c.of.ensures c.if-not-of.false)

pub long-requires-clause-inside : goal.long-requires-clause-inside
long-requires-clause-inside g c =
    let s = placed c.args.self.now in
    let ram = g.R.Ram.bytes c.args.ram.now in
    let m = laid s ram c.requires.tables in
    let a = c.long-pointer.result in
    let b = c.long-leaf.result in
    let e = meets_first s ram c.args.space c.args.page m c.requires.page c.root.result a c.root.ensures c.long-pointer.ensures in
    third_inside s ram c.args.space c.args.page m c.requires.page a b e (is_resident c.of.result a c.of.ensures c.if-not-of.false)
    (meets_second s ram c.args.space c.args.page m c.requires.page a b e c.long-leaf.ensures)
    (is_resident c.of-2.result b c.of-2.ensures c.if-not-of-2.false)

pub returns-then-not-of-2-clause-mapped : goal.returns-then-not-of-2-clause-mapped
returns-then-not-of-2-clause-mapped g c =
    let s = placed c.args.self.now in
    let ram = g.R.Ram.bytes c.args.ram.now in
    let m = laid s ram c.requires.tables in
    let a = c.long-pointer.result in
    let b = c.long-leaf.result in
    let e = meets_first s ram c.args.space c.args.page m c.requires.page c.root.result a c.root.ensures c.long-pointer.ensures in
    found_none_second s ram c.args.space c.args.page m c.requires.page a b e (is_resident c.of.result a c.of.ensures c.if-not-of.false)
    (meets_second s ram c.args.space c.args.page m c.requires.page a b e c.long-leaf.ensures)
    (is_absent c.of-2.result b c.of-2.ensures c.if-not-of-2.true)

pub returns-then-not-of-2-clause-entry : goal.returns-then-not-of-2-clause-entry
returns-then-not-of-2-clause-entry g c =
    let s = placed c.args.self.now in
    let ram = g.R.Ram.bytes c.args.ram.now in
    entry_is s ram c.args.space c.args.page (laid s ram c.requires.tables) c.requires.page _
    (returns-then-not-of-2-clause-mapped g c)

pub returns-then-entry-clause-mapped : goal.returns-then-entry-clause-mapped
returns-then-entry-clause-mapped g c =
    let s = placed c.args.self.now in
    let ram = g.R.Ram.bytes c.args.ram.now in
    let m = laid s ram c.requires.tables in
    let a = c.long-pointer.result in
    let b = c.long-leaf.result in
    let e = meets_first s ram c.args.space c.args.page m c.requires.page c.root.result a c.root.ensures c.long-pointer.ensures in
    entry_yes c.of-entry.result c.long.result c.of-entry.ensures c.if-entry.true
    ∙ found_entry s ram c.args.space c.args.page m c.requires.page a b c.long.result e
    (is_resident c.of.result a c.of.ensures c.if-not-of.false)
    (meets_second s ram c.args.space c.args.page m c.requires.page a b e c.long-leaf.ensures)
    (is_resident c.of-2.result b c.of-2.ensures c.if-not-of-2.false) c.long.ensures

pub returns-then-entry-clause-entry : goal.returns-then-entry-clause-entry
returns-then-entry-clause-entry g c =
    let s = placed c.args.self.now in
    let ram = g.R.Ram.bytes c.args.ram.now in
    entry_is s ram c.args.space c.args.page (laid s ram c.requires.tables) c.requires.page _
    (returns-then-entry-clause-mapped g c)

pub returns-else-entry-clause-mapped : goal.returns-else-entry-clause-mapped
returns-else-entry-clause-mapped g c =
    let s = placed c.args.self.now in
    let ram = g.R.Ram.bytes c.args.ram.now in
    let m = laid s ram c.requires.tables in
    let a = c.long-pointer.result in
    let b = c.long-leaf.result in
    let e = meets_first s ram c.args.space c.args.page m c.requires.page c.root.result a c.root.ensures c.long-pointer.ensures in
    entry_no c.of-entry.result c.long.result c.of-entry.ensures c.if-entry.false
    ∙ found_entry s ram c.args.space c.args.page m c.requires.page a b c.long.result e
    (is_resident c.of.result a c.of.ensures c.if-not-of.false)
    (meets_second s ram c.args.space c.args.page m c.requires.page a b e c.long-leaf.ensures)
    (is_resident c.of-2.result b c.of-2.ensures c.if-not-of-2.false) c.long.ensures

pub returns-else-entry-clause-entry : goal.returns-else-entry-clause-entry
returns-else-entry-clause-entry g c =
    let s = placed c.args.self.now in
    let ram = g.R.Ram.bytes c.args.ram.now in
    entry_is s ram c.args.space c.args.page (laid s ram c.requires.tables) c.requires.page _
    (returns-else-entry-clause-mapped g c)
