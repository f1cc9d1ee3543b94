-- What running guests up to a snapshot, or on from one, gave.
use Rattle.std.specs.Prelude.{◌≡◌, ℕ, ◌/◌, All, List, [], ◌∷◌, length, map, Option, None, Result, Ok, Err}
use Rattle.mb_model.specs.declared.kept.Kept.{Kept}
use Rattle.mb_model.specs.Keeping.{list_of}
use Rattle.vm_disk.specs.Disk.{DiskState}
use Rattle.mb_saved.specs.Saved.{IsLawful, Saved}
use Rattle.vm_saved.specs.Begins.{beginning}
use Rattle.vm_saved.specs.Lawful.{IsGuests}
use Rattle.vm_saved.specs.Saved.{machine_of}
use Rattle.vm_snapshot.specs.declared.plan.SnapGuest.{SnapGuest}
use Rattle.def_guests.specs.Turns.{no_steps}
use Rattle.def_runs.specs.Native.{NativeState}
use Rattle.def_guests.specs.Rounds.{Member}
use Rattle.vm_guest.specs.Session.{SessionAtStart}
use Rattle.vm_slices.specs.Adopting.{CanAdopt}
use Rattle.vm_slices.specs.Fit.{Fits}
use Rattle.vm_slices.specs.Members.{machine_at_end, machines_of, tallies_of, tally_at_end}
use Rattle.vm_slices.specs.Places.{HostState, members_in}
use Rattle.vm_slices.specs.declared.open_fault.OpenFault.{OpenFault}
use Rattle.vm_snapshot.specs.Plans.{Plan}
use Rattle.vm_snapshot.specs.Shown.{ShownGuest}
use Rattle.vm_snapshot.specs.Texts.{guest_text}
use Rattle.mb_words.specs.Words.{Text}
use Rattle.mb_program.specs.Direct.{IsCounted}
use Rattle.mb_program.specs.Disks.{with_disk}
use Rattle.mb_program.specs.Runs.{IsUnopened}
use Rattle.mb_program.specs.Saves.{all_cut_to, save_shown, shown_alone, shown_of}
use Rattle.mb_program.specs.Saves.{resume_shown, resumed_guests, session_of}
use Rattle.mb_program.specs.declared.resumed.LeftMachine.{LeftMachine}

-- what each guest keeps, and what a snapshot is written of
abbrev pub kept_by : List Member → List (List Kept)
kept_by members = map (λ (m : Member). list_of 0 m.guest.machine.world.kept) members

abbrev pub shown_by : List Member → List ShownGuest
shown_by members = map (λ (m : Member). shown_of m.script m.guest.machine) members

-- the lines of one
abbrev pub shown_text : (number : ℕ) → ShownGuest → Text
shown_text number g = guest_text number (length g.seen.ram / 1024) g.kept g.script g.seen g.disk

-- RAM, registers and devices of each are such as a guest's can be.
abbrev pub AreGuests : List Member → Type 0
AreGuests members = All IsGuests (machines_of members)

-- ---- up to a snapshot

-- The guests of a session that fits have taken these steps, or all that they have: each is as alone.
pub record HaveStopped (steps : ℕ) (s : SessionAtStart) (native native_after : NativeState) (host : HostState)
    : Type 0 where
  pub fits : Fits s
  pub shown : shown_by (members_in host) ≡ map shown_alone (all_cut_to steps s.guests)
  pub guests : AreGuests (members_in host)
  pub counted : IsCounted (save_shown steps s).steps native native_after

-- They have stopped there; or there is no host, and nothing is counted.
abbrev pub RunsTo : (steps : ℕ) → SessionAtStart → NativeState → NativeState → Result HostState OpenFault → Type 0
RunsTo steps s native native_after (Ok host) = HaveStopped steps s native native_after host
RunsTo steps s native native_after (Err fault) = IsUnopened s fault × (native_after ≡ native)

-- ---- on from a snapshot

-- what a guest is to become: what was saved of its machine, and its disk
pub record Left : Type 0 where
  pub saved : Saved
  pub disk : Option DiskState

abbrev pub left_of : SnapGuest → Left
left_of g = record { saved = g.saved; disk = g.disk }

abbrev pub left_said : LeftMachine → Left
left_said m = record { saved = m.saved; disk = m.disk }

abbrev pub HasNoDisk : Member → Type 0
HasNoDisk m = m.guest.machine.world.devices.disk ≡ None

-- a guest with this disk, or with none
abbrev pub disked : Option DiskState → Member → Member
disked disk m = record m { guest = record m.guest { machine = with_disk disk m.guest.machine } }

-- One that can become it: it has no disk yet, has taken no step, and its RAM has that size.
pub record CanBecome (left : Left) (m : Member) : Type 0 where
  pub diskless : HasNoDisk m
  pub adopts : CanAdopt left.saved m

-- a guest that has become it: an empty shadow, and nothing counted
abbrev pub become : Left → Member → Member
become left m = record m {
  guest = (beginning (machine_of left.disk left.saved)).guest;
  tally = no_steps;
}

-- guests that have become these, one each
abbrev pub all_become : List Left → List Member → List Member
all_become (left ∷ lefts) (m ∷ members) = become left m ∷ all_become lefts members
all_become _ members = members

abbrev pub CanAllBecome : List Left → List Member → Type 0
CanAllBecome [] [] = Unit {0}
CanAllBecome (left ∷ lefts) (m ∷ members) = CanBecome left m × IsLawful left.saved × CanAllBecome lefts members
CanAllBecome _ _ = ⊥

-- The guests of a snapshot that fits have gone on for so many steps.
pub record HaveGoneOn (more : ℕ) (plan : Plan) (native native_after : NativeState) (host : HostState) : Type 0 where
  pub fits : Fits (session_of more plan)
  pub machines : machines_of (members_in host) ≡ map machine_at_end (resumed_guests more plan)
  pub tallies : tallies_of (members_in host) ≡ map tally_at_end (resumed_guests more plan)
  pub counted : IsCounted (resume_shown more plan).steps native native_after

-- They have gone on; or there is no host, and nothing is counted.
abbrev pub RunsOn : (more : ℕ) → Plan → NativeState → NativeState → Result HostState OpenFault → Type 0
RunsOn more plan native native_after (Ok host) = HaveGoneOn more plan native native_after host
RunsOn more plan native native_after (Err fault) = IsUnopened (session_of more plan) fault × (native_after ≡ native)
