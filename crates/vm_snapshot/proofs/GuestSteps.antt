-- A guest, and the disk behind it.
use Rattle.std.proofs.Common.{◌≡◌, refl, ap, ◌∙◌}
use Rattle.std.specs.Prelude.{Option, Some, option_map}
use Rattle.mb_script.specs.Script.{Entries}
use Rattle.mb_spelling.specs.Spelling.{Reading, Read, Short, Wrong, mapped}
use Rattle.vm_disk.specs.Disk.{DiskState}
use Rattle.vm_snapshot.specs.Guests.{Disk, Guest}
use Rattle.vm_snapshot.specs.Plans.{guest_of, saved_of, state_of}
use Rattle.vm_snapshot.specs.Runs.{entries_of}
use Rattle.vm_snapshot.specs.declared.plan.SnapGuest.{SnapGuest}
use Rattle.vm_snapshot.proofs.Handed.{StopsWith}

abbrev pub with_disk : Guest → Entries → Option DiskState → SnapGuest
with_disk g script disk = record { saved = saved_of g; script = script; disk = disk }

pub guest_joined : (g : Guest) (script : Entries) (r : Reading (Option Disk)) → entries_of g.front.input ≡ script
    → mapped guest_of (mapped (λ d. (g, d)) r) ≡ mapped (with_disk g script) (mapped (option_map state_of) r)
guest_joined g script (Read d rest) same = ap (λ (entries : Entries). Read (with_disk g entries (option_map state_of d)) rest) same
guest_joined g script Short same = refl
guest_joined g script (Wrong rest) same = refl

pub disk_stops : (g : Guest) (r : Reading (Option Disk)) → StopsWith (mapped (option_map state_of) r) (mapped guest_of (mapped (λ d. (g, d)) r))
disk_stops g r = record {
  short = λ e. guest_joined g _ r refl ∙ ap (mapped (with_disk g _)) e;
  wrong = λ rest e. guest_joined g _ r refl ∙ ap (mapped (with_disk g _)) e;
}

-- ---- a disk, where one stands

pub state_there : (r : Reading Disk) → mapped (option_map state_of) (mapped Some r) ≡ mapped Some (mapped state_of r)
state_there (Read d rest) = refl
state_there Short = refl
state_there (Wrong rest) = refl
