use Rattle.std.proofs.Common.{◌∙◌, sym}
use Rattle.mb_script.proofs.InRuns.{entry_found, entry_missed}
use Rattle.mb_script.proofs.runs.Runs.entry.Goals as goal

pub returns-in-None : goal.returns-in-None
returns-in-None c = entry_missed c.args.place c.args.self.now.runs.items c.args.self.now.bytes.items (sym c.byte.ensures ∙ c.in-None.is)

pub returns-in-Some : goal.returns-in-Some
returns-in-Some c =
    let found = entry_found c.args.place c.in-Some.byte c.args.self.now.runs.items c.args.self.now.bytes.items (sym c.byte.ensures ∙ c.in-Some.is) in
    rw (c.entry.ensures, c.run_at.ensures) found
