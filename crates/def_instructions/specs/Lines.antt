-- MOVE16.
use Rattle.std.specs.Prelude.{ℕ, ◌*◌, ◌/◌, ◌^◌, ◌==◌, if◌then◌else◌}
use Rattle.mb_port.specs.Routine.{Routine, Return, ◌>>=◌, ◌>>◌, failing, read_line, write_line}
use Rattle.mb_port.specs.declared.types.Space.{Space}
use Rattle.mb_instr.specs.declared.kinds.LineMove.{LineMove}
use Rattle.mb_instr.specs.declared.kinds.LineMove.TheVariants as line
use Rattle.mb_instr.specs.declared.registers.Plain.{Plain}
use Rattle.mb_instr.specs.Registers.{address_register, with_address_register}
use Rattle.mb_ea.specs.Addresses.{sum}
use Rattle.mb_ea.specs.Reading.{refused_in}
use Rattle.mb_writes.specs.declared.ends.Ended.TheVariants as ended
use Rattle.def_instructions.specs.Ends.{Rowed, carried, ending, reading}
use Rattle.mb_instr.specs.FurtherWords.{line_word}

-- the line of 16 bytes that has an address: the address with its low four bits clear
abbrev pub line_address : ℕ → ℕ
line_address address = address / 2 ^ 4 * 2 ^ 4

-- a line is read, and then written; the registers are those after the instruction
abbrev pub move_line_of : ℕ → ℕ → Space → Plain → Routine Rowed
move_line_of from to space after = do
  line ← reading (failing (refused_in (line_address from)) (read_line space (line_address from)))
  ending (λ fault. ended.LineFault fault line) after (write_line space (line_address to) line)
  Return (carried after)

-- a postincrement
abbrev pub past_line : ℕ → Plain → Plain
past_line n p = with_address_register p n (sum (address_register p n) 16)

-- MOVE16 between (An)+ or (An) and an absolute address
abbrev pub move16_absolute_of : LineMove → ℕ → ℕ → Space → Plain → Routine Rowed
move16_absolute_of line.PostToAbsolute n place space p = move_line_of (address_register p n) place space (past_line n p)
move16_absolute_of line.AbsoluteToPost n place space p = move_line_of place (address_register p n) space (past_line n p)
move16_absolute_of line.IndirectToAbsolute n place space p = move_line_of (address_register p n) place space p
move16_absolute_of line.AbsoluteToIndirect n place space p = move_line_of place (address_register p n) space p

-- both registers step, but one that is both steps once
abbrev pub past_lines : ℕ → ℕ → Plain → Plain
past_lines x y p = if x == y then past_line x p else past_line y (past_line x p)

-- MOVE16 (Ax)+,(Ay)+
abbrev pub move16_post_of : ℕ → ℕ → Space → Plain → Routine Rowed
move16_post_of x word space p =
    let y = (line_word word).destination in
    move_line_of (address_register p x) (address_register p y) space (past_lines x y p)
