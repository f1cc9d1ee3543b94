use Rattle.std.proofs.Common.{[], Option}
use Rattle.std.specs.Prelude.{option_map}
use Rattle.std.specs.Option.{option_map_or}
use Rattle.std.proofs.lemmas.List.{append-nil}
use Rattle.std.proofs.lemmas.Result.{err_from_is_err_and}
use Rattle.mb_outside.proofs.PrintLemmas.{part_more}
use Rattle.mb_model.specs.Seen.{seen_of}
use Rattle.mb_report.specs.Text.{outcome_text}
use Rattle.vm_disk.specs.Disk.{DiskState}
use Rattle.vm_disk.specs.Text.{disk_text}
use Rattle.mb_ends.proofs.TextLemmas.{printed_before}
use Rattle.mb_program.proofs.machine.write_machine.Goals as goal

pub returns-in_err-write_outcome : goal.returns-in_err-write_outcome
returns-in_err-write_outcome g c =
    let disk : Option DiskState = option_map (λ d. d.now) c.args.disk in
    let p = err_from_is_err_and c.from_residual.result c.from_residual.ensures.1 in
    rw p.1 (part_more (option_map_or (disk_text c.args.guest) disk []) c.in_err-write_outcome.ensures)

pub returns-in-Some : goal.returns-in-Some
returns-in-Some g c =
    rw c.in-Some.is (printed_before c.write_disk.result _ _ _ _ _ _ (outcome_text c.args.guest (seen_of c.args.outcome.now))
    (disk_text c.args.guest c.in-Some.disk.now) c.in_ok-write_outcome.ensures c.write_disk.ensures)

pub returns-in-None : goal.returns-in-None
returns-in-None g c = rw (c.in-None.is, append-nil (outcome_text c.args.guest (seen_of c.args.outcome.now))) c.in_ok-write_outcome.ensures
