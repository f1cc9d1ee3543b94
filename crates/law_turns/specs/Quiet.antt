-- A stretch in which nothing arrives and the timer does not come to 0: the board may carry it out in one run.
use Rattle.std.specs.Prelude.{◌≡◌, ℕ, zero, suc, ◌+◌, ◌<◌, length}
use Rattle.mb_instr.specs.Registers.{plain_of}
use Rattle.def_processor.specs.SystemEnds.{with_registers}
use Rattle.def_machine.specs.Machine.{Machine, Entries, going}
use Rattle.mb_devices.specs.Devices.{ticks, IsNotDue}
use Rattle.def_runs.specs.Batches.{NothingArrives}
use Rattle.law_mirror.specs.Related.{Site}
use Rattle.law_held.specs.Truth.{Fine}
use Rattle.def_guests.specs.declared.class.Class.TheVariants.{Retired}
use Rattle.def_guests.specs.Turns.{Guested, bus_side, guest_begun, guest_stepped, step_class_at_first}
use Rattle.law_turns.specs.Retire.{Boarded, Retires}
use Rattle.def_runs.specs.Native.{user_step}
use Rattle.law_turns.specs.Batch.{Wanted, IsTried, IsStretch, stepped_by, AllRetired}

-- what each of so many steps wants, as far as they are retired
abbrev pub AreWanted : Entries → ℕ → Guested → Type 0
AreWanted script zero g = Unit {0}
AreWanted script (suc n) g =
    Wanted g × (step_class_at_first script g ≡ Retired → AreWanted script n (guest_stepped script g))

-- Where the first step is one that the board attempts, and behind its beginning so many steps are quiet, the board
-- attempts them all.
abbrev pub QuietStepsAreTried : Type 0
QuietStepsAreTried = (x : Site) (script : Entries) (n : ℕ) (m : Machine) (g : Guested) → Boarded x m g
    → AreWanted script (suc n) g
    → IsTried (step_class_at_first script g) → NothingArrives script (g.machine.steps + 1) n
    → IsNotDue n (guest_begun script g).machine.world.devices
    → IsStretch script (suc n) g

-- So many more retired steps have ticked the timer so often, and done nothing else to the devices.
abbrev pub RetiredStepsTick : Type 0
RetiredStepsTick = (x : Site) (script : Entries) (n : ℕ) (m : Machine) (g : Guested) → Boarded x m g
    → AllRetired script (suc n) g
    → NothingArrives script (g.machine.steps + 1) n
    → ((stepped_by script (suc n) g).machine.world.devices ≡ ticks n (guest_begun script g).machine.world.devices)
    × ((stepped_by script (suc n) g).machine.steps ≡ g.machine.steps + suc n)

-- A retired step keeps the guest's shadow truthful, and its one list of entries.
abbrev pub RetiredStepsKeepTruth : Type 0
RetiredStepsKeepTruth = (x : Site) (script : Entries) (m : Machine) (g : Guested)
    → Retires x script m g (user_step m) (guest_stepped script g)
    → Fine x.size (bus_side g) → Fine x.size (bus_side (guest_stepped script g))

-- What so many retired steps leave of a guest: its own registers change as the board's do, and of its world RAM and
-- devices alone. So the monitor sets its registers once, from the board's.
pub record IsAfter (n : ℕ) (g u : Guested) : Type 0 where
  pub cpu : length u.machine.cpu.regs.a ≡ 7 → with_registers (plain_of u.machine.cpu.regs) g.machine.cpu ≡ u.machine.cpu
  pub steps : u.machine.steps ≡ g.machine.steps + n
  pub mmu : u.machine.world.mmu ≡ g.machine.world.mmu
  pub kept : u.machine.world.kept ≡ g.machine.world.kept
  pub shadow : u.shadow ≡ g.shadow
  pub state : 0 < n → u.machine.state ≡ going u.machine.cpu u.machine.world.devices

abbrev pub RetiredStepsLeave : Type 0
RetiredStepsLeave = (x : Site) (script : Entries) (n : ℕ) (m : Machine) (g : Guested) → Boarded x m g
    → AllRetired script n g
    → IsAfter n g (stepped_by script n g)
