-- The kinds of faults that the meaning of a statement has.
use Rattle.std.specs.Prelude.{Result, Ok, Err}
use Rattle.mb_mnemonics.specs.declared.fault.MeansFault.{MeansFault}
use Rattle.mb_mnemonics.specs.declared.fault.MeansFault.TheVariants as means
use Rattle.mb_asm.specs.declared.fault.AsmKind.{AsmKind}
use Rattle.mb_asm.specs.declared.fault.AsmKind.TheVariants as kind

abbrev pub kind_of : MeansFault → AsmKind
kind_of means.Name = kind.Name
kind_of means.Operand = kind.Operand
kind_of means.Range = kind.Range

abbrev pub meant : {A : Type 0} → Result A MeansFault → Result A AsmKind
meant (Ok x) = Ok x
meant (Err fault) = Err (kind_of fault)
