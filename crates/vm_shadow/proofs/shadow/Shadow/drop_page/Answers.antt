use Rattle.std.proofs.Common.{◌≡◌, ◌∙◌, ◌/◌, ℕ, List, refl, ap, sym, subst, arith}
use Rattle.vm_shadow.specs.declared.table.Table.{Table}
use Rattle.vm_shadow.specs.declared.table.Table.TheVariants.{Pointers, Pages}
use Rattle.vm_shadow.specs.Slots.{Slots, placed, pages_of, Has}
use Rattle.vm_shadow.specs.Area.{UsedBut, OnlyGo}
use Rattle.vm_shadow.proofs.Walks.{both_stand}
use Rattle.vm_shadow.proofs.Kept.{go_none, go_on}
use Rattle.vm_shadow.proofs.Held.{entries_without}
use Rattle.vm_shadow.proofs.Maps.{laid, full_but}
use Rattle.vm_shadow.proofs.Needed.{shadow_dropped}
use Rattle.vm_shadow.proofs.shadow.Shadow.drop_page.Goals as goal

pub pages-requires-clause-laid : goal.pages-requires-clause-laid
pages-requires-clause-laid g c = laid (placed c.args.self.now) _ c.requires.tables

pub put-requires-clause-stands : goal.put-requires-clause-stands
put-requires-clause-stands g c = c.in-Some.ensures.1

pub put-requires-clause-slot : goal.put-requires-clause-slot
put-requires-clause-slot g c = c.in-Some.ensures.0

pub put-requires-clause-long : goal.put-requires-clause-long
put-requires-clause-long g c = refl

pub put-requires-clause-laid : goal.put-requires-clause-laid
put-requires-clause-laid g c = laid (placed c.args.self.now) _ c.requires.tables

pub put-requires-clause-full : goal.put-requires-clause-full
put-requires-clause-full g c = full_but (placed c.args.self.now) _ (pages_of c.args.space c.args.page) c.requires.tables

pub free_pages-requires-clause-stands : goal.free_pages-requires-clause-stands
free_pages-requires-clause-stands g c =
    subst (λ (q : Slots). Has q.tables (Pages c.args.space (c.args.page / 64))) (sym c.put.ensures.same) c.in-Some.ensures.1

pub free_pages-requires-clause-slot : goal.free_pages-requires-clause-slot
free_pages-requires-clause-slot g c =
    subst (λ (q : Slots). c.in-Some.slot ≡ (placed q).slot (Pages c.args.space (c.args.page / 64))) (sym c.put.ensures.same) c.in-Some.ensures.0

pub free_pointers-requires-clause-stands : goal.free_pointers-requires-clause-stands
free_pointers-requires-clause-stands g c =
    let same : c.args.page / 64 / 128 ≡ c.args.page / 8192 = omega arith in
    subst (λ (n : ℕ). Has c.free_pages.new.self.tables (Pointers c.args.space n)) same c.free_pages.ensures.above

pub free_pointers-requires-clause-full : goal.free_pointers-requires-clause-full
free_pointers-requires-clause-full g c =
    let same : c.args.page / 64 / 128 ≡ c.args.page / 8192 = omega arith in
    subst (λ (n : ℕ). UsedBut (Pointers c.args.space n) (placed c.free_pages.new.self) (g.R.Ram.bytes c.free_pages.new.ram)) same c.free_pages.ensures.full

pub returns-in-Some-clause-shadow : goal.returns-in-Some-clause-shadow
returns-in-Some-clause-shadow g c =
    let gone : OnlyGo c.args.self.now.tables c.free_pages.new.self.tables =
    subst (λ (ts : List Table). OnlyGo ts c.free_pages.new.self.tables) (ap (λ (q : Slots). q.tables) c.put.ensures.same) c.free_pages.ensures.gone in
    shadow_dropped (placed c.args.self.now) (placed c.free_pointers.new.self) _ _ c.args.space c.args.page c.requires.tables c.free_pointers.ensures.tables
    (go_on c.args.self.now.tables c.free_pages.new.self.tables c.free_pointers.new.self.tables gone c.free_pointers.ensures.gone)
    (c.free_pointers.ensures.entries ∙ c.free_pages.ensures.entries ∙ c.put.ensures.entries)

pub returns-in-Some-clause-stands : goal.returns-in-Some-clause-stands
returns-in-Some-clause-stands g c = both_stand (placed c.free_pointers.new.self) _ (laid (placed c.free_pointers.new.self) _ c.free_pointers.ensures.tables)

pub returns-in_default-clause-shadow : goal.returns-in_default-clause-shadow
returns-in_default-clause-shadow g c =
    let s = placed c.args.self.now in
    shadow_dropped s s _ _ c.args.space c.args.page c.requires.tables c.requires.tables (go_none s.tables s.tables refl)
    (entries_without s _ c.args.space c.args.page (laid s _ c.requires.tables) c.in_default.ensures)

pub returns-in_default-clause-stands : goal.returns-in_default-clause-stands
returns-in_default-clause-stands g c = both_stand (placed c.args.self.now) _ (laid (placed c.args.self.now) _ c.requires.tables)
