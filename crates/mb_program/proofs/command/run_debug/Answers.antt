use Rattle.std.proofs.Common.{refl}
use Rattle.mb_words.specs.Words.{debugged_said}
use Rattle.mb_files.specs.Reading.{gives}
use Rattle.mb_program.specs.Debugs.{debug_shown, debugged_files}
use Rattle.mb_program.specs.Answers.{if_it_fits}
use Rattle.mb_program.specs.Around.{Around, around_of}
use Rattle.mb_program.specs.Said.{debugged_by}
use Rattle.mb_program.proofs.EndLemmas.{by_answer, by_files}
use Rattle.mb_program.proofs.command.run_debug.Goals as goal

pub returns-in-Ok : goal.returns-in-Ok
returns-in-Ok g c =
    let d = debugged_said c.args.debug.now in
    let a : Around = around_of g.F.Shelf g.O.Sink
    c.args.shelf.now c.read_debugged.new.shelf c.args.out.now c.show_debugged.new.out c.args.native.now c.show_debugged.new.native in
    by_answer (debugged_files d) (λ (session, orders). if_it_fits session (debug_shown d.guest session.guests orders)) debugged_by c.in-Ok.debugged a
    c.show_debugged.result c.in-Ok.ensures.read c.show_debugged.ensures

pub returns-in-Err : goal.returns-in-Err
returns-in-Err g c =
    let d = debugged_said c.args.debug.now in
    let a : Around = around_of g.F.Shelf g.O.Sink
    c.args.shelf.now c.read_debugged.new.shelf c.args.out.now c.args.out.now c.args.native.now c.args.native.now in
    rw c.from.ensures (by_files (debugged_files d) (λ (session, orders). gives (if_it_fits session (debug_shown d.guest session.guests orders))) debugged_by a
    c.in-Err.fault c.in-Err.ensures.read (refl, refl))
