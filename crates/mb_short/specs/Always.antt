-- Which short forms are carried out whatever the bus knows at once.
use Rattle.std.specs.Prelude.{Bool, false, true, not, ◌||◌}
use Rattle.def_instructions.specs.Flow.{is_call}
use Rattle.mb_table.specs.declared.short.Short.{Short}
use Rattle.mb_table.specs.declared.short.Short.TheVariants as short

-- a form with a name of its own whose operands are two data registers
abbrev pub is_between_data : Short → Bool
is_between_data (short.CopyLong n m) = true
is_between_data (short.AddLong n m) = true
is_between_data (short.SubtractLong n m) = true
is_between_data (short.AndLong n m) = true
is_between_data (short.OrLong n m) = true
is_between_data (short.ExclusiveOrLong n m) = true
is_between_data (short.CompareLong n m) = true
is_between_data (short.MultiplyUnsigned n m) = true
is_between_data (short.MultiplySigned n m) = true
is_between_data _ = false

-- one for a data register, by itself or with a number in the word
abbrev pub is_in_data : Short → Bool
is_in_data (short.MoveQuick n value) = true
is_in_data (short.ShiftRightLong n count) = true
is_in_data (short.AddQuickLong n quick) = true
is_in_data (short.SubtractQuickLong n quick) = true
is_in_data (short.TestLong n) = true
is_in_data (short.Swap n) = true
is_in_data (short.ExtendWord n) = true
is_in_data _ = false

-- one for an address register
abbrev pub is_in_address : Short → Bool
is_in_address (short.RaiseAddress size n quick) = true
is_in_address (short.LowerAddress size n quick) = true
is_in_address _ = false

-- one whose parts say what is read or changed, and that is a register
abbrev pub is_of_registers_by_parts : Short → Bool
is_of_registers_by_parts (short.TakeRegister taking size register) = true
is_of_registers_by_parts (short.Change change size n) = true
is_of_registers_by_parts _ = false

-- a form that asks nothing of the bus: one of these, or a branch by its first word that is no call
abbrev pub asks_nothing : Short → Bool
asks_nothing (short.Branch c d) = not (is_call c)
asks_nothing (short.RaiseAddress size n quick) = true
asks_nothing (short.LowerAddress size n quick) = true
asks_nothing form = is_between_data form || is_in_data form || is_of_registers_by_parts form
