-- A run of the board, beside the guest's steps: so many are retired, and then it was counted to its end, or left.
use Rattle.std.specs.Prelude.{◌≡◌, ◌⊎◌, ℕ, zero, suc, ◌+◌, ◌<◌, false, List, ◌++◌, length}
use Rattle.mb_instr.specs.declared.registers.Plain.{Plain}
use Rattle.mb_instr.specs.Registers.{plain_of}
use Rattle.mb_model.specs.declared.outcome.RunState.TheVariants.{Running}
use Rattle.def_machine.specs.Machine.{Machine, Entries}
use Rattle.def_processor.specs.declared.Finish.TheVariants as finish
use Rattle.law_mirror.specs.Related.{Site}
use Rattle.def_guests.specs.declared.class.Class.{Class}
use Rattle.def_guests.specs.declared.class.Class.TheVariants.{Privileged, Denied, Trapped, Retired}
use Rattle.def_runs.specs.declared.RunEnd.TheVariants.{Counted, Exit}
use Rattle.def_guests.specs.Turns.{Guested, Turned, guest_stepped, step_class_at_first, turn_of}
use Rattle.def_runs.specs.Marks.{trail}
use Rattle.def_runs.specs.Native.{Ran, user_run}
use Rattle.law_turns.specs.Retire.{Boarded, HasRegisters}
use Rattle.law_turns.specs.Exit.{Furnished, Leaves}
use Rattle.vm_shadow.specs.Area.{OnlyBetween}

-- What the law on one step wants of the guest.
pub record Wanted (g : Guested) : Type 0 where
  pub registers : HasRegisters (plain_of g.machine.cpu.regs)
  pub seven : length g.machine.cpu.regs.a ≡ 7

-- a step that the board attempts
abbrev pub IsTried : Class → Type 0
IsTried Retired = Unit {0}
IsTried Privileged = Unit {0}
IsTried Trapped = Unit {0}
IsTried Denied = Unit {0}
IsTried _ = ⊥

-- Each of so many steps, as far as they are retired, is one that the board attempts.
abbrev pub IsStretch : Entries → ℕ → Guested → Type 0
IsStretch script zero g = Unit {0}
IsStretch script (suc n) g = Wanted g × IsTried (step_class_at_first script g)
    × (step_class_at_first script g ≡ Retired → IsStretch script n (guest_stepped script g))

-- the guest after so many steps
abbrev pub stepped_by : Entries → ℕ → Guested → Guested
stepped_by script zero g = g
stepped_by script (suc n) g = stepped_by script n (guest_stepped script g)

-- Each of so many steps is retired.
abbrev pub AllRetired : Entries → ℕ → Guested → Type 0
AllRetired script zero g = Unit {0}
AllRetired script (suc n) g = Wanted g × (step_class_at_first script g ≡ Retired)
    × AllRetired script n (guest_stepped script g)

-- Of the board's memory nothing has changed outside the guest's RAM.
abbrev pub IsInside : Site → (ram after : List ℕ) → Type 0
IsInside x ram after = OnlyBetween x.base (x.base + x.size) ram after

-- It was counted to its end, and the board is ready for the guest's next step.
pub record IsCounted (x : Site) (u : Turned) (r after : Ran) : Type 0 where
  pub end : after.end ≡ Counted
  pub boarded : Boarded x after.machine u.guest
  pub furnished : Furnished x after.machine
  pub inside : IsInside x r.machine.world.ram after.machine.world.ram
  pub exceptions : after.native.exceptions ≡ r.native.exceptions

-- The step behind them was left.
pub record IsExit (x : Site) (script : Entries) (u : Turned) (r after : Ran) : Type 0 where
  pub vector : ℕ
  pub end : after.end ≡ Exit vector
  -- the board at its beginning
  pub last : Machine
  pub boarded : Boarded x last u.guest
  pub furnished : Furnished x last
  pub isp : last.cpu.regs.isp ≡ r.machine.cpu.regs.isp
  pub inside : IsInside x r.machine.world.ram last.world.ram
  pub left : Leaves x script last u.guest (finish.Entered vector, after.machine)
  pub seven : length u.guest.machine.cpu.regs.a ≡ 7
  pub fit : HasRegisters (plain_of u.guest.machine.cpu.regs)
  -- the registers at its beginning are the guest's
  pub before : after.before ≡ plain_of u.guest.machine.cpu.regs
  pub exceptions : after.native.exceptions ≡ r.native.exceptions + 1

pub record Batch (x : Site) (script : Entries) (n : ℕ) (r : Ran) (t : Turned) (after : Ran) : Type 0 where
  pub retired : ℕ
  pub marks : List Plain
  -- the guest's steps so far: all retired
  pub tally : (turn_of script retired t).tally ≡ record t.tally { retired = t.tally.retired + retired }
  pub marked : (turn_of script retired t).marks ≡ t.marks ++ marks
  -- none of them is left by an exception
  pub unleft : (turn_of script retired t).exceptions ≡ t.exceptions
  pub counted : after.native.retired ≡ r.native.retired + retired
  pub sum : after.native.trail ≡ trail r.native.trail marks
  pub all : AllRetired script retired t.guest
  pub guest : (turn_of script retired t).guest ≡ stepped_by script retired t.guest
  pub running : retired < n → (turn_of script retired t).guest.machine.state ≡ Running
  pub end : ((retired ≡ n) × IsCounted x (turn_of script retired t) r after)
      ⊎ ((retired < n) × IsExit x script (turn_of script retired t) r after)

-- A guest that is switched off takes one step at most.
abbrev pub RunsAreBatches : Type 0
RunsAreBatches = (x : Site) (script : Entries) (n : ℕ) (r : Ran) (t : Turned) → r.end ≡ Counted
    → Boarded x r.machine t.guest → Furnished x r.machine → (0 < n → t.guest.machine.state ≡ Running)
    → (1 < n → t.guest.machine.world.devices.off ≡ false) → IsStretch script n t.guest
    → Batch x script n r t (user_run n r)
