-- The words of a MOVEM name it.
use Rattle.std.specs.Prelude.{◌≡◌}
use Rattle.mb_instr.specs.declared.instruction.Instr.{Instr}
use Rattle.mb_instr.specs.Codes.{IsInstr}
use Rattle.mb_writes.specs.declared.transfers.Movem.{Movem}
use Rattle.mb_writes.specs.Transfers.{movem_in}
use Rattle.def_processor.specs.Step.{movem_words}
use Rattle.law_tells.specs.Laws.{moves}

-- So whoever finds them in a frame has the MOVEM of which a transfer was refused.
abbrev pub WordsName : Type 0
WordsName = (i : Instr) (m : Movem) → IsInstr i → moves i m → movem_in (movem_words i) ≡ m
