-- The words of a MOVEM name it.
use Rattle.std.proofs.Common.{◌∙◌, true, false, sym}
use Rattle.mb_instr.specs.declared.instruction.Instr.TheVariants as instr
use Rattle.mb_instr.specs.declared.instruction.Move.TheVariants as move
use Rattle.law_returns.proofs.Movems.{words_say}
use Rattle.law_held.specs.Names.{WordsName}

pub words_name : WordsName
words_name (instr.Move (move.MovemLoad size e mask)) m is h = words_say true size e mask is ∙ sym h
words_name (instr.Move (move.MovemStore size e mask)) m is h = words_say false size e mask is ∙ sym h
words_name (instr.Move i) m is h = absurd h
words_name (instr.Arith i) m is h = absurd h
words_name (instr.Flow i) m is h = absurd h
words_name (instr.System i) m is h = absurd h
