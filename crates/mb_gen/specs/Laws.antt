-- What holds of generated programs.
use Rattle.std.specs.Prelude.{◌≡◌, ℕ, List, ◌++◌, length, All}
use Rattle.mb_decode.specs.declared.front.Decoded.TheVariants.{Whole}
use Rattle.mb_decode.specs.Decodes.{decode_of}
use Rattle.mb_gen.specs.Draws.{Generator, draws}
use Rattle.mb_gen.specs.Instructions.{Spelled}
use Rattle.mb_gen.specs.Programs.{program}
use Rattle.mb_gen.specs.declared.program.TheConstants.{PICKS}

-- the words are the instruction, whatever follows
abbrev pub IsRead : Spelled → Type 0
IsRead it = (behind : List ℕ) → decode_of (it.words ++ behind) ≡ Whole it.instruction (length it.words)

-- All words belong to instructions, of which five stand beside the 2,000 that are picked.
pub record IsProgram (instructions : List Spelled) : Type 0 where
  pub read : All IsRead instructions
  pub count : length instructions ≡ 2005

abbrev pub ProgramsAreRead : Type 0
ProgramsAreRead = (generator : Generator) → IsProgram (program (draws PICKS generator))
