-- A guest's steps and turns: its machine with its shadow, how many steps of each class there were, their marks, and the
-- exceptions by which a board leaves them.
use Rattle.std.specs.Prelude.{ℕ, zero, suc, ◌+◌, ◌-◌, List, [], ◌∷◌, ◌++◌, if◌then◌else◌}
use Rattle.mb_port.specs.Routine.{run}
use Rattle.mb_instr.specs.declared.registers.Plain.{Plain}
use Rattle.mb_instr.specs.Registers.{plain_of}
use Rattle.mb_model.specs.declared.processor.Cpu.{Cpu}
use Rattle.mb_model.specs.Keeping.{rule_k}
use Rattle.def_processor.specs.Raise.{Stepped}
use Rattle.def_processor.specs.Step.{step_of}
use Rattle.def_machine.specs.Machine.{Machine, Opening, Entries, start, begun, one_later, takes_steps, asked_of}
use Rattle.vm_shadow.specs.Shadows.{Shadowed, nothing}
use Rattle.def_guests.specs.declared.class.Class.{Class}
use Rattle.def_guests.specs.declared.class.Class.TheVariants.{Entered, Idle, Traced, Privileged, Denied, Trapped}
use Rattle.def_guests.specs.declared.class.Class.TheVariants.{Retired}
use Rattle.def_guests.specs.Guests.{Guest}
use Rattle.def_guests.specs.Bus.{guest_bus}
use Rattle.def_guests.specs.Refills.{refilled}
use Rattle.def_guests.specs.Classes.{class_of, class_at_first}

-- ---- the machine with its shadow

-- a guest between steps: its machine, and its shadow
pub record Guested : Type 0 where
  pub machine : Machine
  pub shadow : Shadowed

-- what its bus reads and changes
abbrev pub bus_side : Guested → Guest
bus_side g = record { world = g.machine.world; shadow = g.shadow }

-- ---- a step

-- it begins as a machine's step does
abbrev pub guest_begun : Entries → Guested → Guested
guest_begun script g = record g { machine = begun script g.machine }

-- the processor's part of it, over the guest's bus
abbrev pub guest_processed : Entries → Guested → Stepped × Guest
guest_processed script b = run guest_bus (step_of (asked_of script b.machine) b.machine.cpu) (bus_side b)

-- one step later, with what that part left
abbrev pub guest_later : Machine → Stepped × Guest → Guested
guest_later b ((ended, cpu), after) = record { machine = one_later b ended cpu after.world; shadow = after.shadow }

-- Machine and shadow one step later.
abbrev pub guest_stepped : Entries → Guested → Guested
guest_stepped script g =
    let b = guest_begun script g in guest_later b.machine (guest_processed script b)

-- The class of that step, judged once it has begun.
abbrev pub class_of_step : Entries → Guested → Class
class_of_step script g =
    let b = guest_begun script g in class_of (asked_of script b.machine) b.machine.cpu (bus_side b)

-- by its first attempt alone
abbrev pub step_class_at_first : Entries → Guested → Class
step_class_at_first script g =
    let b = guest_begun script g in class_at_first (asked_of script b.machine) b.machine.cpu (bus_side b)

-- How often its attempt is begun again, if it makes one.
abbrev pub refills_of_step : Entries → Guested → ℕ
refills_of_step script g =
    let b = guest_begun script g in (refilled b.machine.cpu (bus_side b)).refills

-- ---- counts and marks

-- how many steps of each class there were
pub record Tally : Type 0 where
  pub retired : ℕ
  pub privileged : ℕ
  pub trapped : ℕ
  pub denied : ℕ
  pub traced : ℕ
  pub entered : ℕ
  pub idle : ℕ
  -- retired ones that the board began again after a fill, once or more often
  pub refilled : ℕ

-- before any step
abbrev pub no_steps : Tally
no_steps = record {
  retired = 0;
  privileged = 0;
  trapped = 0;
  denied = 0;
  traced = 0;
  entered = 0;
  idle = 0;
  refilled = 0;
}

-- with one more step of a class
abbrev pub tallied : Class → Tally → Tally
tallied Retired t = record t { retired = t.retired + 1 }
tallied Privileged t = record t { privileged = t.privileged + 1 }
tallied Trapped t = record t { trapped = t.trapped + 1 }
tallied Denied t = record t { denied = t.denied + 1 }
tallied Traced t = record t { traced = t.traced + 1 }
tallied Entered t = record t { entered = t.entered + 1 }
tallied Idle t = record t { idle = t.idle + 1 }

-- a retired step that began again so often is a refilled one too
abbrev pub with_refills : Class → ℕ → Tally → Tally
with_refills Retired (suc n) t = record t { refilled = t.refilled + 1 }
with_refills _ _ t = t

-- all steps
abbrev pub steps_in : Tally → ℕ
steps_in t = t.retired + t.privileged + t.trapped + t.denied + t.traced + t.entered + t.idle

-- the steps that the board began and left by an exception
abbrev pub exits : Tally → ℕ
exits t = t.privileged + t.trapped + t.denied

-- the marks of a step: where it is retired, the registers at its beginning, and those at its end
abbrev pub marks_of : Class → Cpu → Cpu → List Plain
marks_of Retired before after = plain_of before.regs ∷ plain_of after.regs ∷ []
marks_of _ before after = []

-- by how many exceptions a board leaves such a step, which begins again so often: by one each time that it begins
-- again, and by one more where it is not retired then; in what is no attempt the board has no part
abbrev pub exceptions_of : Class → (refills : ℕ) → ℕ
exceptions_of Retired refills = refills
exceptions_of Entered refills = 0
exceptions_of Idle refills = 0
exceptions_of Traced refills = 0
exceptions_of _ refills = refills + 1

-- ---- turns

-- a guest, what was counted of its steps, the marks of those that were retired, and the exceptions of all
pub record Turned : Type 0 where
  pub guest : Guested
  pub tally : Tally
  pub marks : List Plain
  pub exceptions : ℕ

-- with a step of this class, which began again so often and leaves this guest
abbrev pub by_class : Class → (refills : ℕ) → Guested → Turned → Turned
by_class class refills after t = record {
  guest = after;
  tally = with_refills class refills (tallied class t.tally);
  marks = t.marks ++ marks_of class t.guest.machine.cpu after.machine.cpu;
  exceptions = t.exceptions + exceptions_of class refills;
}

-- One step.
abbrev pub advanced : Entries → Turned → Turned
advanced script t =
    by_class (class_of_step script t.guest) (refills_of_step script t.guest) (guest_stepped script t.guest) t

-- A turn: so many steps, or fewer where the machine is halted or off.
unfoldable pub turn_of : Entries → ℕ → Turned → Turned
turn_of script zero t = t
turn_of script (suc n) t = if takes_steps t.guest.machine.state then turn_of script n (advanced script t) else t

-- ---- a guest's run

-- the start of a guest: its machine with an image, an empty shadow, nothing counted
abbrev pub prepared : Opening → (size : ℕ) → Turned
prepared opening size = record {
  guest = record { machine = start rule_k opening size; shadow = nothing };
  tally = no_steps;
  marks = [];
  exceptions = 0;
}

-- The count of each class over the first n steps.
abbrev pub tally_of : Opening → Entries → (size n : ℕ) → Tally
tally_of opening script size n = (turn_of script n (prepared opening size)).tally

-- before a turn whose marks and exceptions are asked for alone
abbrev pub afresh : Turned → Turned
afresh t = record t { marks = []; exceptions = 0 }

-- The marks of the steps k + 1 to n.
abbrev pub marks_between : Opening → Entries → (size k n : ℕ) → List Plain
marks_between opening script size k n =
    (turn_of script (n - k) (afresh (turn_of script k (prepared opening size)))).marks
