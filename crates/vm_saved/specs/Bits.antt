-- Whatever a machine runs, its registers have no bits but those that they keep.
use Rattle.std.specs.Prelude.{ℕ}
use Rattle.mb_model.specs.Keeping.{Rule}
use Rattle.def_machine.specs.Machine.{Entries, Machine, Opening, run_of, start}
use Rattle.mb_saved.specs.Saved.{HasBits}

abbrev pub HasItsBits : Machine → Type 0
HasItsBits m = HasBits m.cpu m.world.mmu

-- At its start they have none else,
abbrev pub StartsHaveBits : Type 0
StartsHaveBits = (rule : Rule) (opening : Opening) (size : ℕ) → HasItsBits (start rule opening size)

-- and a run leaves it so.
abbrev pub RunsKeepBits : Type 0
RunsKeepBits = (rule : Rule) (script : Entries) (n : ℕ) (m : Machine) → HasItsBits m
    → HasItsBits (run_of rule script n m)
