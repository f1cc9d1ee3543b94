-- Sign extension.
use Rattle.std.specs.Prelude.{ℕ}
use Rattle.mb_instr.specs.declared.size.Size.{Size}
use Rattle.mb_instr.specs.Sizes.{sign_extended}
use Rattle.mb_alu.specs.declared.conditions.Flagged.{Flagged}
use Rattle.mb_alu.specs.Logic.{moved_of}

-- x extended to a long; at a shorter size its low bytes count
abbrev pub extend_of : Size → Size → ℕ → ℕ → Flagged
extend_of from to x ccr = moved_of to (sign_extended from x) ccr
