use Rattle.std.proofs.Common.{refl}
use Rattle.mb_words.specs.Words.{resumption_said}
use Rattle.vm_snapshot.specs.Plans.{Plan, plan_seen}
use Rattle.mb_files.specs.Reading.{file, gives}
use Rattle.mb_files.specs.Snapshots.{snapshots}
use Rattle.mb_program.specs.Answers.{if_it_fits}
use Rattle.mb_program.specs.Around.{Around, around_of}
use Rattle.mb_program.specs.Saves.{resume_shown, session_of}
use Rattle.mb_program.proofs.EndLemmas.{by_answer, by_files}
use Rattle.mb_program.proofs.command.run_resume.Goals as goal

pub returns-in-Ok : goal.returns-in-Ok
returns-in-Ok g c =
    let r = resumption_said c.args.resume.now in
    let a : Around = around_of g.F.Shelf g.O.Sink
    c.args.shelf.now c.snapshot_file.new.shelf c.args.out.now c.show_resumed.new.out c.args.native.now c.show_resumed.new.native in
    by_answer (file snapshots r.snapshot) (λ (plan : Plan). if_it_fits (session_of r.steps plan) (resume_shown r.steps plan)) plan_seen c.in-Ok.plan a
    c.show_resumed.result c.in-Ok.ensures.read c.show_resumed.ensures

pub returns-in-Err : goal.returns-in-Err
returns-in-Err g c =
    let r = resumption_said c.args.resume.now in
    let a : Around = around_of g.F.Shelf g.O.Sink
    c.args.shelf.now c.snapshot_file.new.shelf c.args.out.now c.args.out.now c.args.native.now c.args.native.now in
    rw c.from.ensures (by_files (file snapshots r.snapshot) (λ (plan : Plan). gives (if_it_fits (session_of r.steps plan) (resume_shown r.steps plan)))
    plan_seen a c.in-Err.fault c.in-Err.ensures.read (refl, refl))
