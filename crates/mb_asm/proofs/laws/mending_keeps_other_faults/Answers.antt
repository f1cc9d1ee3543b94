use Rattle.mb_asm.proofs.Mended.{before_mended, behind_mended}
use Rattle.mb_asm.proofs.laws.mending_keeps_other_faults.Goals as goal

pub returns-clause-behind : goal.returns-clause-behind
returns-clause-behind c = behind_mended

pub returns-clause-before : goal.returns-clause-before
returns-clause-before c = before_mended
