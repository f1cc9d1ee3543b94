-- Operands of short forms, and what becomes of them.
use Rattle.std.specs.Prelude.{⊤, ℕ, ◌<◌}
use Rattle.mb_instr.specs.declared.size.Size.{Size}
use Rattle.mb_instr.specs.declared.size.Size.TheVariants.{Byte, Long}
use Rattle.mb_instr.specs.declared.registers.Plain.{Plain}
use Rattle.mb_instr.specs.Sizes.{low_of, sign_extended}
use Rattle.mb_instr.specs.Registers.{data_register, address_register, with_address_register}
use Rattle.mb_alu.specs.declared.bitwise.LogicKind.TheVariants.{And, Or}
use Rattle.mb_alu.specs.Logic.{logic_of}
use Rattle.mb_alu.specs.Sums.{compare_of}
use Rattle.mb_ea.specs.Addresses.{sum, difference, increment_of, index_of}
use Rattle.def_instructions.specs.Arithmetic.{added, subtracted}
use Rattle.def_instructions.specs.Moves.{move_flags}
use Rattle.def_instructions.specs.Unary.{put_in_register_of}
use Rattle.mb_table.specs.declared.forms.Place.{Place}
use Rattle.mb_table.specs.declared.forms.Place.TheVariants as place
use Rattle.mb_table.specs.declared.forms.Register.{Register}
use Rattle.mb_table.specs.declared.forms.Register.TheVariants as register
use Rattle.mb_table.specs.declared.forms.Taking.{Taking}
use Rattle.mb_table.specs.declared.forms.Taking.TheVariants as taking
use Rattle.mb_table.specs.declared.forms.Putting.{Putting}
use Rattle.mb_table.specs.declared.forms.Putting.TheVariants as putting
use Rattle.mb_short.specs.Moved.{moved_to}

-- where an operand in memory stands
abbrev pub place_at : Place → Size → Plain → ℕ
place_at (place.At n) size p = address_register p n
place_at (place.Up n) size p = address_register p n
place_at (place.Down n) size p = difference (address_register p n) (increment_of size n)

-- where an operand (d8,An,Xn) with this brief extension word stands
abbrev pub indexed_at : ℕ → ℕ → Plain → ℕ
indexed_at base word p = sum (sum (address_register p base) (sign_extended Byte word)) (index_of word p)

-- all of a register
abbrev pub register_value : Register → Plain → ℕ
register_value (register.Data n) p = data_register p n
register_value (register.Address n) p = address_register p n

-- the register that a taken operand goes to is one
abbrev pub HasRegister : Taking → Type 0
HasRegister (taking.Move n) = n < 8
HasRegister (taking.MoveAddress n) = n < 8
HasRegister (taking.Add n) = n < 8
HasRegister (taking.Subtract n) = n < 8
HasRegister (taking.And n) = n < 8
HasRegister (taking.Or n) = n < 8
HasRegister (taking.Compare n) = n < 8
HasRegister (taking.AddAddress n) = n < 8
HasRegister (taking.SubtractAddress n) = n < 8
HasRegister (taking.CompareAddress n) = n < 8
HasRegister taking.Test = ⊤

-- the registers once an operand was taken that has this value
abbrev pub taken_by : Taking → Size → ℕ → Plain → Plain
taken_by (taking.Move n) size value p = moved_to n size value p
taken_by (taking.MoveAddress n) size value p = with_address_register p n (sign_extended size value)
taken_by (taking.Add n) size value p =
    put_in_register_of n size (added size value (low_of size (data_register p n)) p.ccr) p
taken_by (taking.Subtract n) size value p =
    put_in_register_of n size (subtracted size value (low_of size (data_register p n)) p.ccr) p
taken_by (taking.And n) size value p =
    put_in_register_of n size (logic_of And size value (low_of size (data_register p n)) p.ccr) p
taken_by (taking.Or n) size value p =
    put_in_register_of n size (logic_of Or size value (low_of size (data_register p n)) p.ccr) p
taken_by (taking.Compare n) size value p =
    record p { ccr = compare_of size value (low_of size (data_register p n)) p.ccr }
taken_by (taking.AddAddress n) size value p =
    with_address_register p n (sum (address_register p n) (sign_extended size value))
taken_by (taking.SubtractAddress n) size value p =
    with_address_register p n (difference (address_register p n) (sign_extended size value))
taken_by (taking.CompareAddress n) size value p =
    record p { ccr = compare_of Long (sign_extended size value) (address_register p n) p.ccr }
taken_by taking.Test size value p = move_flags size value p

-- the register that is written is one
abbrev pub HasSource : Putting → Type 0
HasSource (putting.Data n) = n < 8
HasSource (putting.Address n) = n < 8
HasSource putting.Zero = ⊤

-- what is written
abbrev pub put_value : Putting → Size → Plain → ℕ
put_value (putting.Data n) size p = low_of size (data_register p n)
put_value (putting.Address n) size p = low_of size (address_register p n)
put_value putting.Zero size p = 0
