-- What reading a whole file gives.
use Rattle.std.specs.Prelude.{◌≡◌, ℕ, ◌<◌, ◌≤◌, List, length, Option, Result, Ok, Err, IfSome, Vec}
use Rattle.std.specs.declared.alloc.Global.{Global}
use Rattle.mb_outside.specs.Counts.{Rose}
use Rattle.mb_outside.specs.declared.loads.LoadFault.{LoadFault}
use Rattle.mb_outside.specs.declared.loads.LoadFault.TheVariants.{Memory, Failed, TooLong}

-- why a file was not read, with the count of faults before and after
abbrev pub LoadCause : Option (List ℕ) → ℕ → ℕ → ℕ → LoadFault → Type 0
LoadCause told most before now Memory = now ≡ before
LoadCause told most before now Failed = Rose before now
LoadCause told most before now TooLong = (now ≡ before) × IfSome told (λ bytes. most < length bytes)

-- The file, of at most `most` bytes, is read to its end, or the fault has its cause.
abbrev pub Loads : Option (List ℕ) → ℕ → ℕ → ℕ → Result (Vec ℕ Global) LoadFault → Type 0
Loads told most before now (Ok v) =
    (now ≡ before) × (length v.items ≤ most) × IfSome told (λ bytes. v.items ≡ bytes)
Loads told most before now (Err fault) = LoadCause told most before now fault
