-- PEA, LINK and UNLK.
use Rattle.std.specs.Prelude.{ℕ}
use Rattle.mb_port.specs.Routine.{Routine, Return, ◌>>=◌, ◌>>◌}
use Rattle.mb_port.specs.declared.types.Space.{Space}
use Rattle.mb_instr.specs.declared.size.Size.TheVariants.{Long}
use Rattle.mb_instr.specs.declared.operand.Ea.{Ea}
use Rattle.mb_instr.specs.declared.registers.Plain.{Plain}
use Rattle.mb_instr.specs.Registers.{address_register, with_address_register}
use Rattle.mb_ea.specs.Addresses.{sum}
use Rattle.mb_ea.specs.Reading.{read_operand_of}
use Rattle.def_instructions.specs.Ends.{Rowed, carried, reading}
use Rattle.def_instructions.specs.Operands.{find_address_of, stack_lowered, push_of}

-- PEA: the address is formed, and then A7 falls and the address is stored there
abbrev pub pea_of : Ea → ℕ → Space → Plain → Routine Rowed
pea_of ea word_at space p = do
  place ← reading (find_address_of Long ea word_at space p)
  let after = stack_lowered p
  push_of place (address_register after 7) space after
  Return (carried after)

-- An becomes A7, and then A7 moves by the displacement
abbrev pub linked : ℕ → ℕ → Plain → Plain
linked n displacement p =
    let frame = address_register p 7 in
    with_address_register (with_address_register p n frame) 7 (sum frame displacement)

-- LINK: A7 falls, and An is stored there; of A7 itself its new value
abbrev pub link_of : ℕ → ℕ → Space → Plain → Routine Rowed
link_of n displacement space p =
    let low = stack_lowered p in
    let after = linked n displacement low in
    push_of (address_register low n) (address_register low 7) space after >> Return (carried after)

-- UNLK: A7 becomes An, the long there goes to An, and A7 is past it; A7 itself becomes the long
abbrev pub unlk_of : ℕ → Space → Plain → Routine Rowed
unlk_of n space p = do
  frame ← reading (read_operand_of space (address_register p n) 4)
  let past = with_address_register p 7 (sum (address_register p n) 4)
  Return (carried (with_address_register past n frame))
