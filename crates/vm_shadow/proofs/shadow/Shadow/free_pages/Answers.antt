use Rattle.std.proofs.Common.{◌≡◌, ◌/◌, List, not, get_or, refl, sym, subst, arith}
use Rattle.vm_shadow.specs.declared.table.Table.{Table}
use Rattle.vm_shadow.specs.declared.table.Table.TheVariants.{Pointers, Pages}
use Rattle.vm_shadow.specs.Slots.{Slots, placed, same_table, Has, Once}
use Rattle.vm_shadow.specs.Area.{Counted, Removed}
use Rattle.vm_shadow.proofs.Kept.{go_none, gone_other}
use Rattle.vm_shadow.proofs.Changes.{crossed}
use Rattle.vm_shadow.proofs.Maps.{used_of, zero_of, maps_of, full_but, laid_freed, entries_freed, full_freed}
use Rattle.vm_shadow.proofs.shadow.Shadow.free_pages.Goals as goal

pub is_empty-requires : goal.is_empty-requires
is_empty-requires g c =
    let low = c.requires.laid.tables.inside (Pages c.args.space c.args.index) c.requires.stands in
    let e = c.requires.slot in
    omega (arith, low, e)

pub returns-then-not-is_empty-clause-full : goal.returns-then-not-is_empty-clause-full
returns-then-not-is_empty-clause-full g c =
    let s = placed c.args.self.now in
    let a = Pages c.args.space c.args.index in
    full_but s _ (Pointers c.args.space (c.args.index / 128))
    (maps_of s _ a c.requires.laid c.requires.full
    (λ has. used_of s _ a c.args.slot c.is_empty.result c.requires.laid c.requires.stands c.requires.slot c.is_empty.ensures c.if-not-is_empty.true))

pub returns-then-not-is_empty-clause-above : goal.returns-then-not-is_empty-clause-above
returns-then-not-is_empty-clause-above g c = c.requires.laid.tables.reached c.args.space c.args.index c.requires.index c.requires.stands

pub returns-then-not-is_empty-clause-gone : goal.returns-then-not-is_empty-clause-gone
returns-then-not-is_empty-clause-gone g c = go_none c.args.self.now.tables c.args.self.now.tables refl

pub set-requires-clause-slot : goal.set-requires-clause-slot
set-requires-clause-slot g c =
    let low = c.requires.laid.tables.inside (Pointers c.args.space (c.args.index / 128)) c.in-Some.ensures.1 in
    let e = c.in-Some.ensures.0 in
    omega (arith, low, e)

pub set-requires-clause-inside : goal.set-requires-clause-inside
set-requires-clause-inside g c = c.requires.laid.inside

pub set-requires-clause-counted : goal.set-requires-clause-counted
set-requires-clause-counted g c = c.requires.laid.counted

pub remove-requires-clause-stands : goal.remove-requires-clause-stands
remove-requires-clause-stands g c =
    subst (λ (q : Slots). Has q.tables (Pages c.args.space c.args.index)) (sym c.set.ensures.same) c.requires.stands

pub remove-requires-clause-once : goal.remove-requires-clause-once
remove-requires-clause-once g c = subst (λ (q : Slots). Once q.tables) (sym c.set.ensures.same) c.requires.laid.tables.once

pub remove-requires-clause-slot : goal.remove-requires-clause-slot
remove-requires-clause-slot g c =
    subst (λ (q : Slots). c.args.slot ≡ (placed q).slot (Pages c.args.space c.args.index)) (sym c.set.ensures.same) c.requires.slot

zero : (g : _) (c : goal.After-remove g)
    → (placed c.args.self.now).count ((placed c.args.self.now).slot (Pages c.args.space c.args.index)) ≡ 0
zero g c =
    zero_of (placed c.args.self.now) (Pages c.args.space c.args.index) c.args.slot c.is_empty.result c.requires.slot c.is_empty.ensures c.if-not-is_empty.false

counted : (g : _) (c : goal.After-remove g)
    → Counted (record (placed c.args.self.now) { count = λ n. get_or c.set.new.self.counts n 0 }) (g.R.Ram.bytes c.set.new.ram)
counted g c = subst (λ (q : Slots). Counted (placed q) (g.R.Ram.bytes c.set.new.ram)) c.set.ensures.same c.set.ensures.counted

removed : (g : _) (c : goal.After-remove g)
    → Removed (record (placed c.args.self.now) { count = λ n. get_or c.set.new.self.counts n 0 }) (placed c.remove.new.self) (Pages c.args.space c.args.index)
removed g c = subst (λ (q : Slots). Removed (placed q) (placed c.remove.new.self) (Pages c.args.space c.args.index)) c.set.ensures.same c.remove.ensures

pub returns-clause-laid : goal.returns-clause-laid
returns-clause-laid g c =
    laid_freed (placed c.args.self.now) (placed c.remove.new.self) (λ n. get_or c.set.new.self.counts n 0) _ _ c.args.space c.args.index c.in-Some.above
    c.requires.laid c.requires.index c.requires.stands c.in-Some.ensures.0 (zero g c)
    c.set.ensures.outside.count c.set.ensures.longs (counted g c) (removed g c)

pub returns-clause-entries : goal.returns-clause-entries
returns-clause-entries g c =
    entries_freed (placed c.args.self.now) (placed c.remove.new.self) (λ n. get_or c.set.new.self.counts n 0) _ _ c.args.space c.args.index c.in-Some.above
    c.requires.laid c.requires.index c.requires.stands c.in-Some.ensures.0 (zero g c)
    c.set.ensures.outside.count c.set.ensures.longs (counted g c) (removed g c)

pub returns-clause-full : goal.returns-clause-full
returns-clause-full g c =
    full_freed (placed c.args.self.now) (placed c.remove.new.self) (λ n. get_or c.set.new.self.counts n 0) _ _ c.args.space c.args.index c.in-Some.above
    c.requires.laid c.requires.index c.requires.stands c.in-Some.ensures.0 (zero g c)
    c.set.ensures.outside.count c.set.ensures.longs (counted g c) (removed g c)
    c.requires.full

pub returns-clause-gone : goal.returns-clause-gone
returns-clause-gone g c = (λ a. not (same_table (Pages c.args.space c.args.index) a), (removed g c).tables)

pub returns-clause-above : goal.returns-clause-above
returns-clause-above g c =
    let up = c.requires.laid.tables.reached c.args.space c.args.index c.requires.index c.requires.stands in
    subst (λ (ts : List Table). Has ts (Pointers c.args.space (c.args.index / 128))) (sym (removed g c).tables)
    (gone_other (Pages c.args.space c.args.index) (Pointers c.args.space (c.args.index / 128)) c.args.self.now.tables
    (crossed c.args.space c.args.space (c.args.index / 128) c.args.index) up)

-- the table above stands
pub unreachable-requires : goal.unreachable-requires
unreachable-requires g c =
    let up = c.requires.laid.tables.reached c.args.space c.args.index c.requires.index c.requires.stands in
    let k = c.in-None.ensures in
    omega (arith, up, k)
