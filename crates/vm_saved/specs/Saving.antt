-- Which machines a snapshot can tell of.
use Rattle.std.specs.Prelude.{◌≡◌, ℕ, ◌%◌, All, length, Option}
use Rattle.vm_disk.specs.Disk.{DiskState}
use Rattle.mb_srec.specs.Image.{LiesBelow}
use Rattle.mb_model.specs.Keeping.{Rule, rule_k}
use Rattle.def_machine.specs.Machine.{Entries, Machine, Opening, run_of, start}
use Rattle.mb_saved.specs.Saved.{IsLawful, Saved}
use Rattle.vm_saved.specs.Saved.{CanBeSaved, machine_of}

-- A guest's start is one, where RAM is of whole lines and the image lies in it,
abbrev pub StartsCanBeSaved : Type 0
StartsCanBeSaved = (opening : Opening) (size : ℕ) → size % 16 ≡ 0 → All (LiesBelow size) opening.image
    → CanBeSaved (start rule_k opening size)

-- and so is a lawful machine that was saved, with whatever disk.
abbrev pub SavedCanBeSaved : Type 0
SavedCanBeSaved = (disk : Option DiskState) (s : Saved) → IsLawful s → CanBeSaved (machine_of disk s)

-- By every rule there are as many lists of what is kept after a run as before.
abbrev pub RunsKeepLists : Type 0
RunsKeepLists = (rule : Rule) (script : Entries) (n : ℕ) (m : Machine)
    → length (run_of rule script n m).world.kept ≡ length m.world.kept

-- A machine that can be saved comes to one that can be saved.
abbrev pub RunsCanBeSaved : Type 0
RunsCanBeSaved = (rule : Rule) (script : Entries) (n : ℕ) (m : Machine) → CanBeSaved m
    → CanBeSaved (run_of rule script n m)
