-- A step of a guest that begins again behind a read that was filled and put.
use Rattle.std.specs.Prelude.{◌≡◌, ◌⊎◌, ℕ, zero, suc, ◌≤◌, None, Some}
use Rattle.mb_port.specs.Routine.{run}
use Rattle.mb_instr.specs.Registers.{plain_of}
use Rattle.mb_model.specs.declared.processor.Cpu.{Cpu}
use Rattle.def_processor.specs.Step.{interrupt_mask, step_of, rank}
use Rattle.law_attempts.specs.Attempts.{IsUntraced}
use Rattle.def_machine.specs.Machine.{Machine, Entries, asked_of}
use Rattle.def_guests.specs.declared.class.Class.TheVariants.{Retired}
use Rattle.def_guests.specs.Guests.{Guest}
use Rattle.def_guests.specs.Bus.{guest_bus}
use Rattle.def_guests.specs.Refills.{Refilled, begun_again, refilled}
use Rattle.def_guests.specs.declared.limits.TheConstants.{MOST_REFILLS}
use Rattle.def_guests.specs.Classes.{class_at_first}
use Rattle.def_guests.specs.Turns.{Guested, Turned, bus_side, guest_begun, guest_processed, guest_later, class_of_step}
use Rattle.def_guests.specs.Turns.{step_class_at_first, refills_of_step, by_class, advanced}
use Rattle.law_held.specs.Truth.{Fine}
use Rattle.law_held.specs.Refills.{IsAhead}
use Rattle.law_mirror.specs.Related.{Site}
use Rattle.law_turns.specs.Retire.{Boarded, HasRegisters}

-- A step whose first attempt is retired is retired, and never begins again.
abbrev pub FirstIsLast : Type 0
FirstIsLast = (x : Site) (script : Entries) (m : Machine) (g : Guested) → Boarded x m g
    → HasRegisters (plain_of g.machine.cpu.regs) → step_class_at_first script g ≡ Retired
    → (class_of_step script g ≡ Retired) × (refills_of_step script g ≡ 0)

-- Where no read of it is refilled, its class is that of its first attempt.
abbrev pub NoneIsRefilled : Type 0
NoneIsRefilled = (script : Entries) (g : Guested) → let b = guest_begun script g in
    begun_again b.machine.cpu (bus_side b) ≡ None
    → (class_of_step script g ≡ step_class_at_first script g) × (refills_of_step script g ≡ 0)

-- The guest's own step comes to the same from the guest that begins again, of which nothing else has changed.
abbrev pub StepsBeginAgain : Type 0
StepsBeginAgain = (size level : ℕ) (cpu : Cpu) (g h : Guest) → rank level ≤ interrupt_mask cpu → IsUntraced cpu
    → HasRegisters (plain_of cpu.regs) → Fine size g → begun_again cpu g ≡ Some h
    → IsAhead size g h × (run guest_bus (step_of level cpu) h ≡ run guest_bus (step_of level cpu) g)

-- the guest once its attempt has begun again so often
abbrev pub HasBegunAgain : Cpu → ℕ → Guest → Guest → Type 0
HasBegunAgain cpu zero g h = h ≡ g
HasBegunAgain cpu (suc n) g h = (k : Guest) × HasBegunAgain cpu n g k × (begun_again cpu k ≡ Some h)

-- Where it may not begin again once more, this is the guest whose attempt is judged.
abbrev pub LastIsJudged : Type 0
LastIsJudged = (cpu : Cpu) (n : ℕ) (g h : Guest) → HasBegunAgain cpu n g h → n ≤ MOST_REFILLS
    → (n ≡ MOST_REFILLS) ⊎ (begun_again cpu h ≡ None)
    → refilled cpu g ≡ (let r : Refilled = record { guest = h; refills = n } in r)

-- So often it comes to the same, and of the guest nothing else has changed than what is kept and the shadow.
abbrev pub AgainComesToTheSame : Type 0
AgainComesToTheSame = (size level : ℕ) (cpu : Cpu) (n : ℕ) (g h : Guest) → rank level ≤ interrupt_mask cpu
    → IsUntraced cpu
    → HasRegisters (plain_of cpu.regs) → Fine size g → HasBegunAgain cpu n g h
    → Fine size h × (h.world ≡ record g.world { kept = h.world.kept })
    × (run guest_bus (step_of level cpu) h ≡ run guest_bus (step_of level cpu) g)

-- A step is one of the turn by the guest from which it began for the last time: its class is that of the attempt there,
-- it is counted as refilled where it began again, and machine and shadow are what comes of it from there.
abbrev pub AgainAdvances : Type 0
AgainAdvances = (script : Entries) (t : Turned) (n : ℕ) (h : Guest) → let b = guest_begun script t.guest in
    let cpu = b.machine.cpu in let level = asked_of script b.machine in
    HasBegunAgain cpu n (bus_side b) h → n ≤ MOST_REFILLS → (n ≡ MOST_REFILLS) ⊎ (begun_again cpu h ≡ None)
    → run guest_bus (step_of level cpu) h ≡ guest_processed script b
    → advanced script t
    ≡ by_class (class_at_first level cpu h) n (guest_later b.machine (run guest_bus (step_of level cpu) h)) t
