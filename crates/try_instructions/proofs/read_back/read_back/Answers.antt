use Rattle.std.proofs.Common.{◌∙◌, ap}
use Rattle.mb_decode.specs.Decodes.{decode_of}
use Rattle.mb_decode.proofs.Table.{read_back}
use Rattle.try_instructions.proofs.read_back.read_back.Goals as goal

pub returns-in-Ok-clause-whole : goal.returns-in-Ok-clause-whole
returns-in-Ok-clause-whole c =
    let w = c.in-Ok.words.items in
    let codes = c.in-Ok.ensures.codes in
    (w, codes, c.decode.ensures.means ∙ ap decode_of c.as_slice.ensures.value ∙ read_back c.args.i.now w codes)
