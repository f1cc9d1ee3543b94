use Rattle.std.proofs.Common.{Option}
use Rattle.std.specs.Prelude.{option_map}
use Rattle.std.proofs.lemmas.List.{append-nil}
use Rattle.std.proofs.lemmas.Result.{err_from_is_err_and}
use Rattle.mb_outside.proofs.PrintLemmas.{part_more}
use Rattle.mb_model.specs.Seen.{seen_of}
use Rattle.mb_report.specs.Text.{outcome_text}
use Rattle.vm_disk.specs.Disk.{DiskState}
use Rattle.vm_disk.specs.Text.{disk_text}
use Rattle.vm_snapshot.specs.Texts.{disk_lines}
use Rattle.vm_snapshot.proofs.Prints.{printed_before}
use Rattle.vm_snapshot.proofs.guest_writing.write_machine.Goals as goal

pub returns-in_err-write_outcome : goal.returns-in_err-write_outcome
returns-in_err-write_outcome g c =
    let disk : Option DiskState = option_map (λ d. d.now) c.args.disk in
    let p = err_from_is_err_and c.from_residual.result c.from_residual.ensures.1 in
    rw p.1 (part_more (disk_lines c.args.guest disk) c.in_err-write_outcome.ensures)

pub returns-in-Some : goal.returns-in-Some
returns-in-Some g c =
    rw c.in-Some.is (printed_before c.write_disk.result _ _ _ _ _ _ (outcome_text c.args.guest (seen_of c.args.o.now))
    (disk_text c.args.guest c.in-Some.disk.now) c.in_ok-write_outcome.ensures c.write_disk.ensures)

pub returns-in-None : goal.returns-in-None
returns-in-None g c = rw (c.in-None.is, append-nil (outcome_text c.args.guest (seen_of c.args.o.now))) c.in_ok-write_outcome.ensures
