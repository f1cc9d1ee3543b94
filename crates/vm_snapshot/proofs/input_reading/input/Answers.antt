use Rattle.std.proofs.Common.{◌≡◌, sym, ap, ◌∙◌}
use Rattle.std.specs.Prelude.{codes}
use Rattle.mb_script.specs.Script.{Entries}
use Rattle.mb_spelling.specs.Spelling.{Read, mapped}
use Rattle.vm_snapshot.specs.Inputs.{counts_32, input_lines, inputs}
use Rattle.vm_snapshot.specs.Runs.{entries_of, lines_of}
use Rattle.vm_snapshot.proofs.InputLoop.{script_read}
use Rattle.vm_snapshot.proofs.Listed.{listed_then}
use Rattle.vm_snapshot.proofs.input_reading.input.Goals as goal

pub new-requires : goal.new-requires
new-requires c =
    let whole : mapped entries_of (inputs.read c.args.reader.now.left) ≡ Read c.in_ok-entries.entries.items c.entries.new.reader.left =
    ap (mapped entries_of)
    (listed_then (codes "input ") counts_32 10 input_lines c.args.reader.now.left c.between.new.reader.left c.in_ok-count.count c.in_ok-count.ensures.reads)
    ∙ c.in_ok-entries.ensures.reads in
    (script_read c.args.reader.now.left c.entries.new.reader.left c.in_ok-entries.entries.items whole).0

pub returns-clause-reads : goal.returns-clause-reads
returns-clause-reads c =
    let whole : mapped entries_of (inputs.read c.args.reader.now.left) ≡ Read c.in_ok-entries.entries.items c.entries.new.reader.left =
    ap (mapped entries_of)
    (listed_then (codes "input ") counts_32 10 input_lines c.args.reader.now.left c.between.new.reader.left c.in_ok-count.count c.in_ok-count.ensures.reads)
    ∙ c.in_ok-entries.ensures.reads in
    (script_read c.args.reader.now.left c.entries.new.reader.left c.in_ok-entries.entries.items whole).1
    ∙ ap (λ (script : Entries). Read (lines_of script) c.entries.new.reader.left) (sym c.new.ensures)
