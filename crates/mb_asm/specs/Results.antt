-- Faults of a line.
use Rattle.std.specs.Prelude.{Bool, Result, Ok, Err, if◌then◌else◌}
use Rattle.mb_asm.specs.declared.fault.AsmKind.{AsmKind}

-- a fault where a test holds
abbrev pub refuse : Bool → AsmKind → Result (Unit {0}) AsmKind
refuse test kind = if test then Err kind else Ok tt
