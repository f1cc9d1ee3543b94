use Rattle.mb_asm_text.specs.Cutting.{cut_of}
use Rattle.mb_asm_text.proofs.SomeCut.{some_cut}
use Rattle.mb_syntax.proofs.statement_reading.parse.Goals as goal

pub returns : goal.returns
returns c = c.parse_cut.ensures (cut_of c.args.line.now) (some_cut c.args.line.now)
