use Rattle.std.proofs.Common.{refl}
use Rattle.mb_srec.specs.Image.{contents_of}
use Rattle.mb_words.specs.Words.{source_said}
use Rattle.mb_files.specs.Reading.{file, gives}
use Rattle.mb_files.specs.Sources.{sources}
use Rattle.mb_program.specs.Answers.{asm_shown, shows}
use Rattle.mb_program.specs.Around.{Around, around_of}
use Rattle.mb_program.proofs.EndLemmas.{by_answer, by_files}
use Rattle.mb_program.proofs.command.run_asm.Goals as goal

pub returns-in-Ok : goal.returns-in-Ok
returns-in-Ok g c = λ native.
    let a : Around = around_of g.F.Shelf g.O.Sink
    c.args.shelf.now c.source_file.new.shelf c.args.out.now c.show_records.new.out native native in
    by_answer (file sources (source_said c.args.asm.now)) (λ image. shows (asm_shown image)) contents_of c.in-Ok.image a c.show_records.result
    c.in-Ok.ensures.read (c.show_records.ensures native)

pub returns-in-Err : goal.returns-in-Err
returns-in-Err g c = λ native.
    let a : Around = around_of g.F.Shelf g.O.Sink
    c.args.shelf.now c.source_file.new.shelf c.args.out.now c.args.out.now native native in
    rw c.from.ensures (by_files (file sources (source_said c.args.asm.now)) (λ image. gives (shows (asm_shown image))) contents_of a c.in-Err.fault
    c.in-Err.ensures.read (refl, refl))
