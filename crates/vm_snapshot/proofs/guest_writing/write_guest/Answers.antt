use Rattle.std.proofs.Common.{◌/◌, Option}
use Rattle.std.specs.Prelude.{option_map}
use Rattle.std.proofs.lemmas.Result.{err_from_is_err_and}
use Rattle.mb_outside.proofs.PrintLemmas.{part_more}
use Rattle.mb_model.specs.Seen.{seen_of}
use Rattle.vm_disk.specs.Disk.{DiskState}
use Rattle.vm_snapshot.specs.Runs.{lines_of}
use Rattle.vm_snapshot.specs.Texts.{above, front_text, machine_text}
use Rattle.vm_snapshot.proofs.Prints.{printed_before}
use Rattle.vm_snapshot.proofs.guest_writing.write_guest.Goals as goal

pub returns-in_err-write_front-clause-prints : goal.returns-in_err-write_front-clause-prints
returns-in_err-write_front-clause-prints g c =
    let disk : Option DiskState = option_map (λ d. d.now) c.args.disk in
    let p = err_from_is_err_and c.from_residual.result c.from_residual.ensures.1 in
    rw p.1 (part_more (machine_text c.args.guest (seen_of c.args.o.now) disk) c.in_err-write_front.ensures.prints)

pub returns-in_err-write_front-clause-told : goal.returns-in_err-write_front-clause-told
returns-in_err-write_front-clause-told g c = λ lawful. record {
  lawful = lawful;
  widths = c.outcome_widths.ensures;
  script = c.write_front.ensures.entries;
  disk = c.disk_widths.ensures;
}

pub returns-clause-prints : goal.returns-clause-prints
returns-clause-prints g c =
    let seen = seen_of c.args.o.now in
    printed_before c.write_machine.result _ _ _ _ _ _ (front_text (c.args.ram / 1024) c.args.kept.now (lines_of (above seen.steps c.args.script.now)))
    (machine_text c.args.guest seen (option_map (λ d. d.now) c.args.disk)) c.in_ok-write_front.ensures.prints c.write_machine.ensures

pub returns-clause-told : goal.returns-clause-told
returns-clause-told g c = λ lawful. record {
  lawful = lawful;
  widths = c.outcome_widths.ensures;
  script = c.write_front.ensures.entries;
  disk = c.disk_widths.ensures;
}
