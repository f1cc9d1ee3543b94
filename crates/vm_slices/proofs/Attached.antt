-- A guest at its start, with the disk that is attached to it then.
use Rattle.std.proofs.Common.{◌≡◌, ◌∙◌, ℕ, List, [], ap}
use Rattle.std.specs.Prelude.{Option, None}
use Rattle.vm_disk.specs.Disk.{DiskState}
use Rattle.def_machine.specs.Machine.{Entries, diskless, reset_with}
use Rattle.mb_walk.specs.Memory.{Contents}
use Rattle.def_guests.specs.Seats.{Seat, turned_on, IsSeated}
use Rattle.def_guests.specs.Rounds.{Member}
use Rattle.def_guests.specs.Turns.{Turned, prepared}
use Rattle.vm_guest.specs.Session.{GuestAtStart}
use Rattle.vm_guest.proofs.Seated.{begun_seated}
use Rattle.vm_slices.specs.Members.{member_at_start, with_disk}
use Rattle.vm_slices.specs.Places.{member_of}

turned_with : Option DiskState → Turned → Turned
turned_with disk t = record t {
  guest = record t.guest {
    machine = record t.guest.machine {
      world = record t.guest.machine.world { devices = record t.guest.machine.world.devices { disk = disk } };
    };
  };
}

-- none is attached before
pub starts_without : (g : Seat) (ram : List ℕ) (image : Contents) (size : ℕ) → turned_on g ram [] 0 ≡ prepared (diskless image) size
    → g.devices.disk ≡ None
unfolding reset_with
starts_without g ram image size h = ap (λ (t : Turned). t.guest.machine.world.devices.disk) h

pub starts_with : (g : Seat) (ram : List ℕ) (image : Contents) (disk : Option DiskState) (size : ℕ)
    → turned_on g ram [] 0 ≡ prepared (diskless image) size
    → turned_on (with_disk disk g) ram [] 0 ≡ prepared (record { image = image; disk = disk }) size
unfolding reset_with turned_with
starts_with g ram image disk size h = ap (turned_with disk) h

pub disk_seated : (disk : Option DiskState) (g : Seat) (ram : List ℕ) → IsSeated g ram → IsSeated (with_disk disk g) ram
disk_seated disk g ram s = begun_seated g ram (record g.devices { disk = disk }) g.steps s

abbrev member_by : Entries → (bound : ℕ) → Turned → Member
member_by script bound t = record { script = script; bound = bound; guest = t.guest; tally = t.tally }

-- it is what a session says of it
pub opens : (g h : Seat) (ram : List ℕ) (s : GuestAtStart) (image : Contents) (disk : Option DiskState) (size bound : ℕ)
    → turned_on g ram [] 0 ≡ prepared (diskless image) size → h ≡ with_disk disk g → g.script ≡ s.script → image ≡ s.opening.image
    → disk ≡ s.opening.disk → size ≡ s.ram → bound ≡ s.steps → member_of ram (record { guest = h; bound = bound }) ≡ member_at_start s
opens g h ram s image disk size bound starts has script image_is disk_is size_is bound_is =
    ap (λ (x : Seat). member_of ram (record { guest = x; bound = bound })) has
    ∙ ap (λ (e : Entries). member_by e bound (turned_on (with_disk disk g) ram [] 0)) script
    ∙ ap (member_by s.script bound) (starts_with g ram image disk size starts)
    ∙ ap (λ (i : Contents). member_by s.script bound (prepared (record { image = i; disk = disk }) size)) image_is
    ∙ ap (λ (d : Option DiskState). member_by s.script bound (prepared (record { image = s.opening.image; disk = d }) size)) disk_is
    ∙ ap (λ (n : ℕ). member_by s.script bound (prepared s.opening n)) size_is
    ∙ ap (λ (n : ℕ). member_by s.script n (prepared s.opening s.ram)) bound_is
