-- What holds of every call of the bus, by every rule: memory stays bytes, what a refused access tells and leaves, and
-- what an access keeps; and of every call and run, that memory keeps its size, and the devices their build.
use Rattle.std.specs.Prelude.{◌≡◌, ℕ, is_none, is_some, length, IfSome}
use Rattle.mb_port.specs.Routine.{Call, Fetch, Read, Write, ReadLine, WriteLine, Probe, Get, Put, ReadMmu, SetMmu}
use Rattle.mb_port.specs.Routine.{FlushKept, Test, ResetDevices}
use Rattle.mb_port.specs.declared.types.Fault.{Fault}
use Rattle.mb_port.specs.declared.types.Place.{Place}
use Rattle.mb_model.specs.Keeping.{Rule}
use Rattle.law_routines.specs.Refusal.{IsFault}
use Rattle.mb_devices.specs.Devices.{built}
use Rattle.def_machine.specs.declared.reference.Reference.{Reference}
use Rattle.def_machine.specs.World.{World, HasBytes}
use Rattle.def_machine.specs.Access.{translated}
use Rattle.def_machine.specs.Bus.{fetching_of, reading_of, writing_of, reference_of, fault_of, bus_of}
use Rattle.def_machine.specs.Machine.{Entries, Machine, Opening, start, run_of}

abbrev pub BytesStay : Type 0
BytesStay = (rule : Rule) (c : Call) (w : World) → HasBytes w
    → let (_, after) = bus_of rule c w in HasBytes after

-- A reference to so many bytes was refused with this fault, and left this world: that which its translation left, so
-- nothing was read or written at its place. ATC says whether the translation refused it.
pub record WasRefused (rule : Rule) (r : Reference) (len : ℕ) (before : World) (fault : Fault) (after : World)
    : Type 0 where
  pub told : let (at, _) = translated rule r before in fault ≡ fault_of r len (is_none at)
  pub left : let (_, now) = translated rule r before in after ≡ now

-- the same of a call; calls without translation are never refused
abbrev pub CallWasRefused : Rule → Call → World → Fault → World → Type 0
CallWasRefused rule (Fetch space at) = WasRefused rule (fetching_of space at) 2
CallWasRefused rule (Read space p) = WasRefused rule (reading_of space p.at) p.len
CallWasRefused rule (Write space p value) = WasRefused rule (writing_of space p.at) p.len
CallWasRefused rule (ReadLine space at) = WasRefused rule (reading_of space at) 16
CallWasRefused rule (WriteLine space at line) = WasRefused rule (writing_of space at) 16
CallWasRefused rule (Probe space p) = WasRefused rule (writing_of space p.at) p.len
CallWasRefused rule (Get place) = λ before fault after. ⊥
CallWasRefused rule (Put place value) = λ before fault after. ⊥
CallWasRefused rule ReadMmu = λ before fault after. ⊥
CallWasRefused rule (SetMmu which value) = λ before fault after. ⊥
CallWasRefused rule (FlushKept what) = λ before fault after. ⊥
CallWasRefused rule (Test space at write) = λ before fault after. ⊥
CallWasRefused rule ResetDevices = λ before fault after. ⊥

abbrev pub FaultsTell : Type 0
FaultsTell = (rule : Rule) (c : Call) (w : World) (fault : Fault)
    → let (answer, after) = bus_of rule c w in IsFault c answer fault → CallWasRefused rule c w fault after

-- A translation marks descriptors and keeps entries; registers and devices stay.
pub record IsBeside (before after : World) : Type 0 where
  pub mmu : after.mmu ≡ before.mmu
  pub devices : after.devices ≡ before.devices

abbrev pub TranslationsStayBeside : Type 0
TranslationsStayBeside = (rule : Rule) (r : Reference) (w : World)
    → let (_, after) = translated rule r w in IsBeside w after

-- Memory and devices may have changed; the registers of translation, and what is kept, have not.
pub record IsBeneath (before after : World) : Type 0 where
  pub mmu : after.mmu ≡ before.mmu
  pub kept : after.kept ≡ before.kept

-- What a call reads or writes behind its translation keeps both as the translation left them,
abbrev pub CallsStandBeneath : Type 0
CallsStandBeneath = (rule : Rule) (c : Call) (w : World) → let (_, after) = bus_of rule c w in
    IfSome (reference_of c) (λ r. let (_, between) = translated rule r w in IsBeneath between after)

-- and so does a call that goes to a place without translation.
abbrev pub PlacesStandBeneath : Type 0
PlacesStandBeneath = (rule : Rule) (place : Place) (value : ℕ) (w : World)
    → let (_, after_get) = bus_of rule (Get place) w in let (_, after_put) = bus_of rule (Put place value) w in
    IsBeneath w after_get × IsBeneath w after_put

-- No call changes the size of RAM,
abbrev pub CallsLeaveTheSize : Type 0
CallsLeaveTheSize = (rule : Rule) (c : Call) (w : World)
    → let (_, after) = bus_of rule c w in length after.ram ≡ length w.ram

-- nor does a run.
abbrev pub RunsLeaveTheSize : Type 0
RunsLeaveTheSize = (rule : Rule) (script : Entries) (steps : ℕ) (m : Machine)
    → length (run_of rule script steps m).world.ram ≡ length m.world.ram

-- The devices of a machine at its start show its size, and a disk is attached where it opens with one;
abbrev pub StartsHaveTheBuild : Type 0
StartsHaveTheBuild = (rule : Rule) (opening : Opening) (size : ℕ)
    → built (start rule opening size).world.devices ≡ (size, is_some opening.disk)

-- no call changes either,
abbrev pub CallsLeaveTheBuild : Type 0
CallsLeaveTheBuild = (rule : Rule) (c : Call) (w : World)
    → let (_, after) = bus_of rule c w in built after.devices ≡ built w.devices

-- nor does a run, whatever arrives.
abbrev pub RunsLeaveTheBuild : Type 0
RunsLeaveTheBuild = (rule : Rule) (script : Entries) (steps : ℕ) (m : Machine)
    → built (run_of rule script steps m).world.devices ≡ built m.world.devices
