-- What a board's frame leaves to do is what buses may be asked for.
use Rattle.std.specs.Prelude.{◌≡◌, ◌≤◌, ◌%◌, Option, Some, None}
use Rattle.mb_frames.specs.declared.frame.Access.{Access}
use Rattle.mb_writes.specs.Writing.{ArePending}
use Rattle.mb_writes.specs.Transfers.{count_of, mask_in}
use Rattle.def_runs.specs.declared.left.LeftOver.{LeftOver}
use Rattle.def_runs.specs.declared.left.LeftOver.TheVariants.{Again, Writes, Line, Movem}
use Rattle.def_runs.specs.Frames.{left_in}

-- pieces of memory, the line at a multiple of 16, or a MOVEM of which no more is done than its mask names
abbrev pub IsLawfulLeftOver : LeftOver → Type 0
IsLawfulLeftOver Again = Unit {0}
IsLawfulLeftOver (Writes pending first) = ArePending pending.items
IsLawfulLeftOver (Line at line) = at % 16 ≡ 0
IsLawfulLeftOver (Movem words ea done next) = done ≤ count_of (mask_in words)

-- of the fields of an access error, where there are any
abbrev pub LeavesLawful : Option Access → Type 0
LeavesLawful None = Unit {0}
LeavesLawful (Some access) = IsLawfulLeftOver (left_in access)
