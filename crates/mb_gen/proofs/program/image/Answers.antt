use Rattle.std.proofs.Common.{◌∙◌}
use Rattle.mb_gen.specs.Draws.{draws}
use Rattle.mb_gen.specs.Seen.{generator_seen}
use Rattle.mb_gen.proofs.Images.{image_made}
use Rattle.mb_gen.proofs.program.image.Goals as goal

pub returns-clause-image : goal.returns-clause-image
returns-clause-image c =
    c.new-4.ensures
    ∙ image_made (draws 2000 (generator_seen c.args.generator.now)) c.in_ok-chunks.chunks.items c.new.result c.new-2.result c.new-3.result
    c.in_ok-start.start.items c.in_ok-program.program.items c.in_ok-counter.counter.items c.in_ok-chunks.ensures.items
    c.new.ensures c.new-2.ensures c.new-3.ensures c.in_ok-start.ensures c.in_ok-program.ensures.bytes c.in_ok-counter.ensures
