use Rattle.std.proofs.Common.{refl}
use Rattle.mb_words.specs.Words.{saving_said}
use Rattle.mb_files.specs.Reading.{gives}
use Rattle.mb_program.specs.Files.{Ordered, session_files}
use Rattle.mb_program.specs.Answers.{if_it_fits}
use Rattle.mb_program.specs.Around.{Around, around_of}
use Rattle.mb_ends.specs.Lines.{status_of}
use Rattle.mb_program.specs.Said.{ordered_said}
use Rattle.mb_program.specs.Saves.{save_shown}
use Rattle.mb_program.proofs.EndLemmas.{by_answer, by_files, has_saved, none_read}
use Rattle.mb_program.proofs.command.run_save.Goals as goal

pub returns-in-Ok-clause-ends : goal.returns-in-Ok-clause-ends
returns-in-Ok-clause-ends g c =
    let p = saving_said c.args.save.now in
    let a : Around = around_of g.F.Shelf g.O.Sink
    c.args.shelf.now c.read_session.new.shelf c.args.out.now c.show_saved.new.out c.args.native.now c.show_saved.new.native in
    by_answer (session_files p.session) (λ (s : Ordered). if_it_fits s.session (save_shown p.steps s.session)) ordered_said c.in-Ok.ordered a
    c.show_saved.result c.in-Ok.ensures.read c.show_saved.ensures.given

pub returns-in-Ok-clause-saved : goal.returns-in-Ok-clause-saved
returns-in-Ok-clause-saved g c =
    let a : Around = around_of g.F.Shelf g.O.Sink
    c.args.shelf.now c.read_session.new.shelf c.args.out.now c.show_saved.new.out c.args.native.now c.show_saved.new.native in
    has_saved (saving_said c.args.save.now) (ordered_said c.in-Ok.ordered) a (status_of c.show_saved.result) c.in-Ok.ensures.read.1
    c.show_saved.ensures.saved

pub returns-in-Err-clause-ends : goal.returns-in-Err-clause-ends
returns-in-Err-clause-ends g c =
    let p = saving_said c.args.save.now in
    let a : Around = around_of g.F.Shelf g.O.Sink
    c.args.shelf.now c.read_session.new.shelf c.args.out.now c.args.out.now c.args.native.now c.args.native.now in
    rw c.from.ensures (by_files (session_files p.session) (λ (s : Ordered). gives (if_it_fits s.session (save_shown p.steps s.session))) ordered_said a
    c.in-Err.fault c.in-Err.ensures.read (refl, refl))

pub returns-in-Err-clause-saved : goal.returns-in-Err-clause-saved
returns-in-Err-clause-saved g c = rw c.from.ensures (λ p s asked gets zero. absurd (none_read c.in-Err.fault zero))
