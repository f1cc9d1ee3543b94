use Rattle.std.proofs.Common.{length, arith, inl, inr}
use Rattle.std.proofs.lemmas.Bool.{cases_lt}
use Rattle.vm_shadow.specs.declared.table.Table.TheVariants.{Pages}
use Rattle.vm_shadow.specs.Slots.{number_of}
use Rattle.vm_shadow.proofs.shadow.Shadow.pages.Goals as goal

-- a page's table does not stand where the one above it does not
pub returns-in-None : goal.returns-in-None
returns-in-None g c =
    let tables = c.args.self.now.tables in
    let a = Pages c.args.space c.args.index in
    elim (cases_lt (number_of a tables) (length tables)) [
      | inl h ↦ let up = c.requires.laid.tables.reached c.args.space c.args.index c.requires.index h in absurd (omega (arith, up, c.in-None.ensures))
      | inr k ↦ k
    ]
