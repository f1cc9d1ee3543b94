-- What the parts of short forms stand for.
use Rattle.std.specs.Prelude.{ℕ, false, true}
use Rattle.mb_instr.specs.declared.size.Size.{Size}
use Rattle.mb_instr.specs.declared.kinds.ShiftKind.TheVariants.{Arithmetic, Logical, Rotate}
use Rattle.mb_instr.specs.declared.operand.Ea.{Ea}
use Rattle.mb_instr.specs.declared.operand.Ea.TheVariants.{Dn, An, Ind, Post, Pre, Imm}
use Rattle.mb_instr.specs.declared.instruction.Instr.{Instr}
use Rattle.mb_instr.specs.declared.instruction.Instr.TheVariants as instr
use Rattle.mb_instr.specs.declared.instruction.Move.TheVariants as move
use Rattle.mb_instr.specs.declared.instruction.Arith.TheVariants as arith
use Rattle.mb_table.specs.declared.forms.Place.{Place}
use Rattle.mb_table.specs.declared.forms.Place.TheVariants as place
use Rattle.mb_table.specs.declared.forms.Register.{Register}
use Rattle.mb_table.specs.declared.forms.Register.TheVariants as register
use Rattle.mb_table.specs.declared.forms.Taking.{Taking}
use Rattle.mb_table.specs.declared.forms.Taking.TheVariants as taking
use Rattle.mb_table.specs.declared.forms.Putting.{Putting}
use Rattle.mb_table.specs.declared.forms.Putting.TheVariants as putting
use Rattle.mb_table.specs.declared.forms.Change.{Change}
use Rattle.mb_table.specs.declared.forms.Change.TheVariants as change
use Rattle.mb_table.specs.declared.forms.Update.{Update}
use Rattle.mb_table.specs.declared.forms.Update.TheVariants as update

abbrev pub place_ea : Place → Ea
place_ea (place.At n) = Ind n
place_ea (place.Up n) = Post n
place_ea (place.Down n) = Pre n

abbrev pub register_ea : Register → Ea
register_ea (register.Data n) = Dn n
register_ea (register.Address n) = An n

-- the instruction that reads this operand
abbrev pub taking_of : Taking → Size → Ea → Instr
taking_of (taking.Move n) size ea = instr.Move (move.Move size (Dn n) ea)
taking_of (taking.MoveAddress n) size ea = instr.Move (move.Movea size n ea)
taking_of (taking.Add n) size ea = instr.Arith (arith.Add n false size ea)
taking_of (taking.Subtract n) size ea = instr.Arith (arith.Sub n false size ea)
taking_of (taking.And n) size ea = instr.Arith (arith.And n false size ea)
taking_of (taking.Or n) size ea = instr.Arith (arith.Or n false size ea)
taking_of (taking.Compare n) size ea = instr.Arith (arith.Cmp n size ea)
taking_of (taking.AddAddress n) size ea = instr.Arith (arith.Adda n size ea)
taking_of (taking.SubtractAddress n) size ea = instr.Arith (arith.Suba n size ea)
taking_of (taking.CompareAddress n) size ea = instr.Arith (arith.Cmpa n size ea)
taking_of taking.Test size ea = instr.Arith (arith.Tst size ea)

-- the instruction that reads this immediate; where it is combined with a data register it has a row of its own
abbrev pub immediate_of : Taking → Size → ℕ → Instr
immediate_of (taking.Add n) size value = instr.Arith (arith.Addi size (Dn n) value)
immediate_of (taking.Subtract n) size value = instr.Arith (arith.Subi size (Dn n) value)
immediate_of (taking.And n) size value = instr.Arith (arith.Andi size (Dn n) value)
immediate_of (taking.Or n) size value = instr.Arith (arith.Ori size (Dn n) value)
immediate_of (taking.Compare n) size value = instr.Arith (arith.Cmpi size (Dn n) value)
immediate_of taking size value = taking_of taking size (Imm value)

-- the instruction that writes to this operand
abbrev pub putting_of : Putting → Size → Ea → Instr
putting_of (putting.Data n) size ea = instr.Move (move.Move size ea (Dn n))
putting_of (putting.Address n) size ea = instr.Move (move.Move size ea (An n))
putting_of putting.Zero size ea = instr.Arith (arith.Clr size ea)

-- the instruction that changes this operand
abbrev pub update_of : Update → Size → Ea → Instr
update_of (update.Add n) size ea = instr.Arith (arith.Add n true size ea)
update_of (update.Subtract n) size ea = instr.Arith (arith.Sub n true size ea)
update_of (update.And n) size ea = instr.Arith (arith.And n true size ea)
update_of (update.Or n) size ea = instr.Arith (arith.Or n true size ea)
update_of (update.ExclusiveOr n) size ea = instr.Arith (arith.Eor n size ea)
update_of (update.AddQuick quick) size ea = instr.Arith (arith.Addq quick size ea)
update_of (update.SubtractQuick quick) size ea = instr.Arith (arith.Subq quick size ea)
update_of update.Negate size ea = instr.Arith (arith.Neg size ea)
update_of update.Complement size ea = instr.Arith (arith.Not size ea)

-- the instruction that moves an operand to this one
abbrev pub copy_of : Size → (to : Ea) → (from : Ea) → Instr
copy_of size to from = instr.Move (move.Move size to from)

-- the instruction that changes this data register
abbrev pub change_of : Change → Size → ℕ → Instr
change_of change.Clear size n = instr.Arith (arith.Clr size (Dn n))
change_of change.Negate size n = instr.Arith (arith.Neg size (Dn n))
change_of change.Complement size n = instr.Arith (arith.Not size (Dn n))
change_of (change.AddQuick quick) size n = instr.Arith (arith.Addq quick size (Dn n))
change_of (change.SubtractQuick quick) size n = instr.Arith (arith.Subq quick size (Dn n))
change_of (change.Set c) size n = instr.Move (move.Scc c (Dn n))
change_of (change.ExclusiveOr m) size n = instr.Arith (arith.Eor m size (Dn n))
change_of (change.AddExtended m) size n = instr.Arith (arith.Addx n size false m)
change_of (change.SubtractExtended m) size n = instr.Arith (arith.Subx n size false m)
change_of (change.ShiftLeft count) size n = instr.Arith (arith.ShiftReg count true size false Logical n)
change_of (change.ShiftRight count) size n = instr.Arith (arith.ShiftReg count false size false Logical n)
change_of (change.ArithmeticLeft count) size n = instr.Arith (arith.ShiftReg count true size false Arithmetic n)
change_of (change.ArithmeticRight count) size n = instr.Arith (arith.ShiftReg count false size false Arithmetic n)
change_of (change.RotateLeft count) size n = instr.Arith (arith.ShiftReg count true size false Rotate n)
change_of (change.RotateRight count) size n = instr.Arith (arith.ShiftReg count false size false Rotate n)
