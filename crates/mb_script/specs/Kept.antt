-- How a script keeps its entries.
use Rattle.mb_script.specs.declared.script.Kept.{Kept}
use Rattle.mb_script.specs.declared.script.Kept.TheVariants as form
use Rattle.mb_script.specs.Runs.{AreKept, kept}
use Rattle.mb_script.specs.Script.{Entries, IsScript}

abbrev pub shown : Kept → Entries
shown (form.Whole entries) = entries.items
shown (form.InRuns runs) = kept runs

abbrev pub HasRuns : Kept → Type 0
HasRuns (form.Whole entries) = Unit {0}
HasRuns (form.InRuns runs) = AreKept runs

pub record IsKept (form : Kept) : Type 0 where
  pub lawful : IsScript (shown form)
  pub runs : HasRuns form
