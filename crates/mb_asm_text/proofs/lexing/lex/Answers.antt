use Rattle.mb_asm_text.proofs.Cuts.{cut_told}
use Rattle.mb_asm_text.proofs.lexing.lex.Goals as goal

pub returns-clause-only : goal.returns-clause-only
returns-clause-only c = cut_told c.args.line.now c.cut.result c.cut.ensures
