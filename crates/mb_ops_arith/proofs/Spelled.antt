-- The row of the arm that was taken.
use Rattle.std.proofs.Common.{◌≡◌, subst}
use Rattle.mb_instr.specs.declared.instruction.Arith.{Arith}
use Rattle.mb_instr.specs.declared.instruction.Instr.TheVariants as instr
use Rattle.mb_instr.specs.Codes.{IsInstr}

pub spelled : {i j : Arith} → i ≡ j → IsInstr (instr.Arith i) → IsInstr (instr.Arith j)
spelled e h = subst (λ (i : Arith). IsInstr (instr.Arith i)) e h
