-- Absolute addresses of operands are longs, since they are spelled by words.
use Rattle.std.specs.Prelude.{ℕ, ◌^◌, ◌<◌, [], ◌∷◌, ◌++◌}
use Rattle.mb_instr.specs.declared.size.Size.{Size}
use Rattle.mb_instr.specs.declared.operand.Ea.{Ea}
use Rattle.mb_instr.specs.declared.operand.Ea.TheVariants.{AbsW, AbsL}
use Rattle.mb_instr.specs.Operands.{more, immediate}
use Rattle.mb_instr.specs.Codes.{AreWords}
use Rattle.mb_instr.proofs.Words.{AreWords-head, AreWords-tail, AreWords-right}
use Rattle.mb_instr.proofs.Ranges.{long_range}

-- an absolute address is in range
abbrev pub IsFormed : Ea → Type 0
IsFormed (AbsW a) = a < 2 ^ 16
IsFormed (AbsL a) = a < 2 ^ 32
IsFormed _ = Unit {0}

-- by the words behind the first: those of the operand alone, with a word before them, and with an immediate before them
pub formed : (s : Size) (ea : Ea) → AreWords (more s ea) → IsFormed ea
formed s (AbsW a) h = AreWords-head a [] h
formed s (AbsL a) h = long_range a h
formed s _ h = tt

pub formed_behind_word : (s : Size) (ea : Ea) (w : ℕ) → AreWords (w ∷ more s ea) → IsFormed ea
formed_behind_word s ea w h = formed s ea (AreWords-tail w (more s ea) h)

pub formed_behind_immediate : (s : Size) (ea : Ea) (v : ℕ) → AreWords (immediate s v ++ more s ea) → IsFormed ea
formed_behind_immediate s ea v h = formed s ea (AreWords-right (immediate s v) (more s ea) h)
