-- Whatever a guest runs, what is saved of its machine is lawful.
use Rattle.std.specs.Prelude.{ℕ, ◌<◌, ◌≤◌, All, length, Option}
use Rattle.vm_disk.specs.Disk.{DiskState}
use Rattle.mb_srec.specs.Image.{LiesBelow}
use Rattle.mb_model.specs.Keeping.{Rule, list_of}
use Rattle.mb_devices.specs.Devices.{DeviceState}
use Rattle.mb_devices.specs.declared.devices.TheConstants.{CONSOLE_ROOM, QUEUE_ROOM}
use Rattle.mb_saved.specs.Saved.{CanBeKept, IsLawful, IsRamBytes, Saved}
use Rattle.def_machine.specs.Machine.{Entries, Machine, Opening, run_of, start}
use Rattle.vm_saved.specs.Bits.{HasItsBits}
use Rattle.vm_saved.specs.Saved.{machine_of, saved_of}

-- Queue and console have their room, and a timer that runs has steps left.
pub record HaveRoom (d : DeviceState) : Type 0 where
  pub queue : length d.queue ≤ QUEUE_ROOM
  pub console : length d.console ≤ CONSOLE_ROOM
  pub count : d.count ≤ d.period
  pub runs : 0 < d.period → 0 < d.count

-- A machine with a guest's RAM, whose registers and devices have what they can hold.
pub record IsGuests (m : Machine) : Type 0 where
  pub ram : IsRamBytes (length m.world.ram)
  pub bits : HasItsBits m
  pub devices : HaveRoom m.world.devices

-- A guest's start is one, where the image lies in RAM,
abbrev pub StartsAreGuests : Type 0
StartsAreGuests = (rule : Rule) (opening : Opening) (size : ℕ) → IsRamBytes size → All (LiesBelow size) opening.image
    → IsGuests (start rule opening size)

-- so is a lawful machine that was saved, with whatever disk,
abbrev pub SavedAreGuests : Type 0
SavedAreGuests = (disk : Option DiskState) (s : Saved) → IsLawful s → IsGuests (machine_of disk s)

-- and so is what a run of either comes to.
abbrev pub RunsAreGuests : Type 0
RunsAreGuests = (rule : Rule) (script : Entries) (n : ℕ) (m : Machine) → IsGuests m → IsGuests (run_of rule script n m)

-- What is saved of such a machine is lawful, where what it keeps can be kept.
abbrev pub GuestsAreLawful : Type 0
GuestsAreLawful = (m : Machine) → IsGuests m → CanBeKept (list_of 0 m.world.kept) → IsLawful (saved_of m)
