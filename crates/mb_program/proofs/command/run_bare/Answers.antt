use Rattle.std.proofs.Common.{Err, Ok, refl}
use Rattle.def_machine.specs.Machine.{Entries, Opening}
use Rattle.mb_words.specs.Words.{run_said}
use Rattle.mb_files.specs.Reading.{Reading, gives}
use Rattle.mb_files.specs.Reads.{IsRead}
use Rattle.mb_program.specs.Files.{machine_files}
use Rattle.mb_program.specs.Answers.{bare_shown, shows}
use Rattle.mb_program.specs.Around.{Around, around_of}
use Rattle.mb_program.specs.Said.{parts_said}
use Rattle.mb_program.proofs.EndLemmas.{by_answer, by_files}
use Rattle.mb_program.proofs.GuestLemmas.{same_files}
use Rattle.mb_program.proofs.command.run_bare.Goals as goal

pub returns-in-Ok : goal.returns-in-Ok
returns-in-Ok g c = λ native.
    let run = run_said c.args.run.now in
    let a : Around = around_of g.F.Shelf g.O.Sink
    c.args.shelf.now c.read_parts.new.shelf c.args.out.now c.show_machine.new.out native native in
    by_answer (machine_files run.image run.ram run.script run.disk) (λ (opening, script). shows (bare_shown run opening script)) parts_said c.in-Ok.parts a
    c.show_machine.result
    (same_files _ run.image _ run.ram _ run.script _ run.disk
    (λ (r : Reading (Opening × Entries)). IsRead r parts_said a.shelf a.shelf_after (Ok c.in-Ok.parts))
    c.files_of.ensures.image c.files_of.ensures.ram c.files_of.ensures.script c.files_of.ensures.disk c.in-Ok.ensures.read) (c.show_machine.ensures native)

pub returns-in-Err : goal.returns-in-Err
returns-in-Err g c = λ native.
    let run = run_said c.args.run.now in
    let a : Around = around_of g.F.Shelf g.O.Sink
    c.args.shelf.now c.read_parts.new.shelf c.args.out.now c.args.out.now native native in
    rw c.from.ensures (by_files (machine_files run.image run.ram run.script run.disk) (λ (opening, script). gives (shows (bare_shown run opening script)))
    parts_said a c.in-Err.fault
    (same_files _ run.image _ run.ram _ run.script _ run.disk
    (λ (r : Reading (Opening × Entries)). IsRead r parts_said a.shelf a.shelf_after (Err c.in-Err.fault))
    c.files_of.ensures.image c.files_of.ensures.ram c.files_of.ensures.script c.files_of.ensures.disk c.in-Err.ensures.read) (refl, refl))
