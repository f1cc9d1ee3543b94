-- A step of a guest that is retired, on the board and alone.
use Rattle.std.specs.Prelude.{◌≡◌, ℕ, ◌+◌, ◌^◌, ◌<◌, true, false, []}
use Rattle.mb_port.specs.declared.types.Space.{Space}
use Rattle.def_processor.specs.declared.Finish.{Finish}
use Rattle.def_processor.specs.declared.Finish.TheVariants as finish
use Rattle.mb_instr.specs.declared.registers.Plain.{Plain}
use Rattle.mb_instr.specs.Registers.{is_supervisor, plain_of}
use Rattle.mb_model.specs.Status.{space_of}
use Rattle.def_processor.specs.SystemEnds.{with_registers}
use Rattle.def_instructions.specs.Attempt.{attempt_of}
use Rattle.def_processor.specs.Step.{interrupt_mask}
use Rattle.law_tells.specs.Laws.{HasLongs}
use Rattle.def_machine.specs.Machine.{Machine, Entries, begun, going, takes_steps}
use Rattle.law_routines.specs.Until.{run_until}
use Rattle.law_attempts.specs.Attempts.{IsUntraced}
use Rattle.law_held.specs.Denied.{held_end}
use Rattle.def_guests.specs.Guests.{Guest, may}
use Rattle.def_guests.specs.Bus.{guest_bus}
use Rattle.law_mirror.specs.Related.{Site, Related}
use Rattle.law_mirror.specs.Laws.{Outside}
use Rattle.law_held.specs.Sound.{Sound, OnlyRam}
use Rattle.def_guests.specs.declared.class.Class.TheVariants.{Retired}
use Rattle.def_guests.specs.Classes.{class_of_end, class_at}
use Rattle.def_guests.specs.Turns.{Guested, bus_side, guest_begun, guest_stepped, step_class_at_first}
use Rattle.def_runs.specs.Native.{user_step}
use Rattle.law_turns.specs.Registers.{IsFrom}

-- A board made ready for the next step of a guest.
pub record Boarded (x : Site) (m : Machine) (g : Guested) : Type 0 where
  pub on : m.world.devices.off ≡ false
  pub user : is_supervisor m.cpu.regs.sr ≡ false
  pub goes : IsUntraced m.cpu
  pub mask : interrupt_mask m.cpu ≡ 7
  pub plain : plain_of m.cpu.regs ≡ plain_of g.machine.cpu.regs
  pub present : space_of g.machine.cpu ≡ x.space
  pub related : Related x m.world (bus_side g)

-- registers that fit
pub record HasRegisters (p : Plain) : Type 0 where
  pub longs : HasLongs p
  pub counter : p.pc < 2 ^ 32

-- The class of a step, by how the held guest's attempt ends.
abbrev pub ClassesAreHeld : Type 0
ClassesAreHeld = (space : Space) (size : ℕ) (p : Plain) (g : Guest) → HasRegisters p → Sound size g
    → let (end, _) = held_end space p g in
    class_at (run_until may guest_bus (attempt_of space p) g) ≡ class_of_end end

-- What becomes of board and guest in a step that is retired: the board enters nothing, and is ready for the guest as it
-- is one step later. Of the guest nothing but registers, RAM and the devices that its step began with has changed, and
-- outside its RAM nothing of the board but its devices.
pub record RetiresTo (x : Site) (script : Entries) (m : Machine) (g : Guested) (ended : Finish) (after : Machine)
    (t : Guested) : Type 0 where
  pub step : ended ≡ finish.Went
  pub running : takes_steps after.state ≡ true
  pub boarded : Boarded x after t
  pub from : IsFrom m.cpu after.cpu
  pub only : OnlyRam (bus_side (guest_begun script g)) (bus_side t)
  pub outside : Outside x (begun [] m).world after.world
  pub goes : IsUntraced t.machine.cpu
  pub mask : interrupt_mask t.machine.cpu ≡ interrupt_mask g.machine.cpu
  pub steps : t.machine.steps ≡ g.machine.steps + 1
  pub state : t.machine.state ≡ going t.machine.cpu t.machine.world.devices
  pub registers : Plain
  pub set : t.machine.cpu ≡ with_registers registers g.machine.cpu

-- the same of what a step came to
abbrev pub Retires : Site → Entries → Machine → Guested → Finish × Machine → Guested → Type 0
Retires x script m g (ended, after) t = RetiresTo x script m g ended after t

abbrev pub RetiredSteps : Type 0
RetiredSteps = (x : Site) (script : Entries) (m : Machine) (g : Guested) → Boarded x m g
    → HasRegisters (plain_of g.machine.cpu.regs) → step_class_at_first script g ≡ Retired
    → Retires x script m g (user_step m) (guest_stepped script g)
