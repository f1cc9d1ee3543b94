-- Machines with their disks: when two show the same, and how they are found among those of all guests.
use Rattle.std.proofs.Common.{◌≡◌, ◌∙◌, ℕ, List, [], ◌∷◌, zero, suc, map, replicate, refl, ap, sym, Option, Some, None}
use Rattle.std.specs.Bool.{Decides}
use Rattle.std.specs.Prelude.{◌++◌, ◌&&◌, IfSome, slice_get}
use Rattle.std.specs.Option.{option_map_or}
use Rattle.std.proofs.lemmas.Bool.Decides.{Decides-and, Decides-like}
use Rattle.std.proofs.lemmas.Simd.{map-map}
use Rattle.mb_report.proofs.SameLemmas.{seen_decides}
use Rattle.mb_model.specs.Keeping.{rule_a}
use Rattle.mb_model.specs.Seen.{Seen}
use Rattle.mb_walk.specs.Memory.{Contents, with_contents}
use Rattle.mb_devices.specs.Devices.{DeviceState, idle, restarted}
use Rattle.mb_board.specs.State.{BoardState, board_at_reset, machine_in, with_machine}
use Rattle.def_machine.specs.Machine.{Entries, Machine, Opening, Outcome, diskless, outcome_of, reset_with, seen_machine, start, with_ram}
use Rattle.vm_disk.specs.Disk.{DiskState}
use Rattle.vm_disk.proofs.Equal.{same_decides}
use Rattle.vm_guest.specs.Session.{GuestAtStart}
use Rattle.def_guests.specs.Rounds.{Member}
use Rattle.vm_slices.specs.Adopting.{scripts_of}
use Rattle.vm_slices.specs.Members.{devices_of, machines_of, shown_of}
use Rattle.mb_report.specs.Text.{outcome_text}
use Rattle.vm_disk.specs.Text.{disk_text}
use Rattle.mb_program.specs.Headline.{machine_text}
use Rattle.mb_program.specs.Answers.{same_disks, shows_same}
use Rattle.mb_report.specs.Same.{same_seen}
use Rattle.mb_program.specs.Compares.{Ahead, reached, will_show_same}
use Rattle.mb_program.specs.Disks.{with_disk}

disks_decides : (a b : Option DiskState) → Decides (same_disks a b) (a ≡ b)
disks_decides None None = (λ h. refl, λ e. refl)
disks_decides (Some a) (Some b) = Decides-like _ (λ h. ap (λ d. Some d) h) (λ e. cc) (same_decides a b)
disks_decides None (Some b) = (λ h. cc, λ e. cc)
disks_decides (Some a) None = (λ h. cc, λ e. cc)

-- the test of two machines decides whether their outcomes are equal
pub same_decides_outcomes : (a b : Machine) → Decides (shows_same a b) (outcome_of a ≡ outcome_of b)
same_decides_outcomes a b =
    let o = outcome_of a in
    let p = outcome_of b in
    Decides-like _ (λ h. let x : Outcome = record { seen = o.seen; disk = o.disk } in let y : Outcome = record { seen = p.seen; disk = p.disk } in
    let e : x ≡ y = cc in e) (λ e. (ap (λ (q : Outcome). q.seen) e, ap (λ (q : Outcome). q.disk) e))
    (Decides-and _ _ (seen_decides o.seen p.seen) (disks_decides o.disk p.disk))

-- ---- a guest among all

-- the machine at a place shows this, with these devices
pub record MachineAt (members : List Member) (k : ℕ) (seen : Seen) (devices : DeviceState) : Type 0 where
  pub machine : Machine
  pub there : slice_get (machines_of members) k ≡ Some machine
  pub shows : seen_machine machine ≡ seen
  pub devices_are : machine.world.devices ≡ devices

pub machine_at : (members : List Member) (k : ℕ) (seen : Seen) (devices : DeviceState) → slice_get (shown_of members) k ≡ Some seen
    → slice_get (devices_of members) k ≡ Some devices → MachineAt members k seen devices
machine_at [] k seen devices shown is = absurd cc
machine_at (m ∷ members) zero seen devices shown is = record { machine = m.guest.machine; there = refl; shows = cc; devices_are = cc }
machine_at (m ∷ members) (suc k) seen devices shown is =
    let rest = machine_at members k seen devices shown is in
    record { machine = rest.machine; there = rest.there; shows = rest.shows; devices_are = rest.devices_are }

-- its text
pub text_at : (i : ℕ) (m : Machine) (seen : Seen) (devices : DeviceState) (disk : Option DiskState) → seen_machine m ≡ seen → m.world.devices ≡ devices
    → disk ≡ devices.disk → outcome_text i seen ++ option_map_or (disk_text i) disk [] ≡ machine_text i m
text_at i m seen devices disk shows same is =
    ap (λ s. outcome_text i s ++ option_map_or (disk_text i) disk []) (sym shows)
    ∙ ap (λ d. outcome_text i (seen_machine m) ++ option_map_or (disk_text i) d []) (is ∙ ap (λ (d : DeviceState). d.disk) (sym same))

-- and so does the guest, which has this script
pub member_at : (members : List Member) (k : ℕ) (seen : Seen) (devices : DeviceState) (script : Entries) (P : Member → Type 0)
    → slice_get (shown_of members) k ≡ Some seen → slice_get (devices_of members) k ≡ Some devices → slice_get (scripts_of members) k ≡ Some script
    → ((m : Member) → seen_machine m.guest.machine ≡ seen → m.guest.machine.world.devices ≡ devices → m.script ≡ script → P m)
    → IfSome (slice_get members k) P
member_at [] k seen devices script P shown is has each = absurd cc
member_at (m ∷ members) zero seen devices script P shown is has each = each m (cc) (cc) (cc)
member_at (m ∷ members) (suc k) seen devices script P shown is has each = member_at members k seen devices script P shown is has each

-- what is found of it beside a machine by itself
pub will_so : (x : Ahead) (m : Member) (seen : Seen) (devices : DeviceState) (script : Entries) → seen_machine m.guest.machine ≡ seen
    → m.guest.machine.world.devices ≡ devices → m.script ≡ script
    → same_seen (seen_machine (reached script x)) seen && same_disks (reached script x).world.devices.disk devices.disk ≡ will_show_same x m
will_so x m seen devices script shows same has =
    ap (λ s. same_seen (seen_machine (reached script x)) s && same_disks (reached script x).world.devices.disk devices.disk) (sym shows)
    ∙ ap (λ (d : DeviceState). same_seen (seen_machine (reached script x)) (seen_machine m.guest.machine)
    && same_disks (reached script x).world.devices.disk d.disk) (sym same)
    ∙ ap (λ (s : Entries). shows_same (reached s x) m.guest.machine) (sym has)

-- what guests show is what their machines show
pub seen_so : (members : List Member) (guests : List GuestAtStart) (by : GuestAtStart → Machine) → machines_of members ≡ map by guests
    → shown_of members ≡ map (λ guest. seen_machine (by guest)) guests
seen_so members guests by is =
    sym (map-map seen_machine (λ (m : Member). m.guest.machine) members) ∙ ap (λ ms. map seen_machine ms) is ∙ map-map seen_machine by guests

-- ---- a machine at its start, with the disk that is attached to it then

-- none is attached before
pub starts_without : (m : Machine) (image : Contents) (size : ℕ) → m ≡ start rule_a (diskless image) size → m.world.devices.disk ≡ None
unfolding reset_with
starts_without m image size h = ap (λ (n : Machine). n.world.devices.disk) h

pub starts_with : (m k : Machine) (opening : Opening) (disk : Option DiskState) (size : ℕ) → m ≡ start rule_a (diskless opening.image) size
    → k ≡ with_disk disk m → disk ≡ opening.disk → k ≡ start rule_a opening size
unfolding reset_with
starts_with m k opening disk size h is same =
    is ∙ ap (with_disk disk) h ∙ ap (λ d. start rule_a (let o : Opening = record { image = opening.image; disk = d } in o) size) same

-- ---- a board with an image

-- A new board on which an image is loaded is the start of the image's machine once it is reset.
pub board_starts : (size : ℕ) (image contents : Contents) (made loaded after : BoardState) → contents ≡ image
    → made ≡ board_at_reset (reset_with rule_a (idle size) (replicate size 0))
    → loaded ≡ with_machine made (with_ram (machine_in made) (with_contents made.world.ram contents))
    → after ≡ board_at_reset (reset_with rule_a (restarted loaded.world.devices) loaded.world.ram)
    → machine_in after ≡ start rule_a (diskless image) size
unfolding reset_with
board_starts size image contents made loaded after same made_is loaded_is after_is =
    ap machine_in after_is
    ∙ ap (λ (b : BoardState). reset_with rule_a (restarted b.world.devices) b.world.ram) loaded_is
    ∙ ap (λ (b : BoardState). reset_with rule_a (restarted b.world.devices) (with_contents b.world.ram contents)) made_is
    ∙ ap (λ (c : Contents). start rule_a (diskless c) size) same
