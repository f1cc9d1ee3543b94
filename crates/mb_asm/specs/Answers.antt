-- How what the code has stands to what the definitions give.
use Rattle.std.specs.Prelude.{◌≡◌, ℕ, Result, Ok, Err}
use Rattle.mb_asm.specs.declared.fault.AsmKind.{AsmKind}
use Rattle.mb_asm.specs.declared.fault.AsmFault.{AsmFault}
use Rattle.mb_asm.specs.declared.fault.AsmFault.TheVariants.{Memory, Line}
use Rattle.mb_asm.specs.declared.refusal.Refusal.{Refusal}
use Rattle.mb_asm.specs.declared.refusal.Refusal.TheVariants as refusal
use Rattle.mb_asm.specs.Texts.{Fault}

-- a fault is the one that is given, unless memory ran out
abbrev pub Faults : {Y : Type 0} → AsmFault → Result Y Fault → Type 0
Faults Memory given = Unit {0}
Faults (Line number kind) given = given ≡ Err (record { number = number; kind = kind })

-- the answer, seen by view, is what is given, unless memory ran out
abbrev pub Gives : {X Y : Type 0} → (X → Y) → Result X AsmFault → Result Y Fault → Type 0
Gives view (Ok x) given = given ≡ Ok (view x)
Gives view (Err fault) given = Faults fault given

-- the same for what one line says
abbrev pub FaultsAlone : {Y : Type 0} → Refusal → Result Y AsmKind → Type 0
FaultsAlone refusal.Memory given = Unit {0}
FaultsAlone (refusal.Kind kind) given = given ≡ Err kind

abbrev pub GivesAlone : {X Y : Type 0} → (X → Y) → Result X Refusal → Result Y AsmKind → Type 0
GivesAlone view (Ok x) given = given ≡ Ok (view x)
GivesAlone view (Err fault) given = FaultsAlone fault given

abbrev pub fault_at : ℕ → Refusal → AsmFault
fault_at number refusal.Memory = Memory
fault_at number (refusal.Kind kind) = Line number kind
