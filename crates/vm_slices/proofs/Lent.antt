-- A guest whose devices are others.
use Rattle.std.proofs.Common.{◌≡◌, ℕ, zero, suc, ◌<◌, List, [], ◌∷◌, length, get_or, set, refl, ap, sym, subst, arith}
use Rattle.std.specs.Prelude.{All}
use Rattle.std.proofs.lemmas.List.{length-set, map-set}
use Rattle.mb_devices.specs.Devices.{DeviceState}
use Rattle.def_guests.specs.Seats.{Seat}
use Rattle.def_guests.specs.Stages.{AllSeated}
use Rattle.def_guests.proofs.Independent.{others_stay}
use Rattle.vm_guest.proofs.Seated.{begun_seated}
use Rattle.vm_slices.specs.declared.host_guest.HostGuest.{HostGuest}
use Rattle.vm_slices.specs.Lending.{with_devices, with_devices_at}
use Rattle.vm_slices.specs.Members.{IsBounded}
use Rattle.vm_slices.specs.Places.{member_of, members_of, seats_of, IsHost}
use Rattle.vm_slices.proofs.Places.{all_behind, seat_at, seated_at, with_first}

lent_stand : (gs : List HostGuest) (i : ℕ) (g : HostGuest) (devices : DeviceState) (ram : List ℕ) → AllSeated (seats_of gs) ram
    → i < length gs → g ≡ get_or gs i g → AllSeated (seats_of (set gs i (with_devices devices g))) ram
lent_stand gs i g devices ram all less is =
    let seated = begun_seated g.guest ram devices g.guest.steps (seated_at gs ram i g all less is) in
    let stay = others_stay (seats_of gs) i g.guest (with_devices devices g).guest ram ram all (seat_at gs i g less is)
    (record { script = refl; base = refl; size = refl; area = refl }) seated (record { count = refl; below = refl; above = refl }) in
    subst (λ (seats : List Seat). AllSeated seats ram) (sym (map-set (λ (a : HostGuest). a.guest) gs i (with_devices devices g))) stay.0

-- and takes as many steps
lent_bounds : (gs : List HostGuest) (i : ℕ) (g : HostGuest) (devices : DeviceState) (ram : List ℕ) → All IsBounded (members_of gs ram) → i < length gs
    → g ≡ get_or gs i g → All IsBounded (members_of (set gs i (with_devices devices g)) ram)
lent_bounds [] i g devices ram all less is = absurd (omega arith)
lent_bounds (k ∷ ks) zero g devices ram all less is =
    subst (λ (a : HostGuest). All IsBounded (members_of (with_devices devices a ∷ ks) ram)) (sym is)
    (with_first (member_of ram (with_devices devices k)) (members_of ks ram) (all zero (member_of ram k) (omega arith))
    (all_behind (member_of ram k) (members_of ks ram) all))
lent_bounds (k ∷ ks) (suc i) g devices ram all less is =
    with_first (member_of ram k) (members_of (set ks i (with_devices devices g)) ram) (all zero (member_of ram k) (omega arith))
    (lent_bounds ks i g devices ram (all_behind (member_of ram k) (members_of ks ram) all) (omega arith) is)

pub lent_host : (slice : ℕ) (gs : List HostGuest) (i : ℕ) (g : HostGuest) (devices : DeviceState) (ram : List ℕ) → IsHost slice gs ram
    → i < length gs → g ≡ get_or gs i g → IsHost slice (set gs i (with_devices devices g)) ram
lent_host slice gs i g devices ram h less is = record {
  some = h.some;
  few = let count = length-set gs i (with_devices devices g) in let few = h.few in omega arith;
  stand = lent_stand gs i g devices ram h.stand less is;
  bounds = lent_bounds gs i g devices ram h.bounds less is;
}

pub lent_guests : (gs : List HostGuest) (i : ℕ) (g : HostGuest) (devices : DeviceState) → i < length gs → g ≡ get_or gs i g
    → set gs i (with_devices devices g) ≡ with_devices_at i devices gs
lent_guests [] i g devices less is = absurd (omega arith)
lent_guests (k ∷ ks) zero g devices less is = ap (λ (a : HostGuest). with_devices devices a ∷ ks) is
lent_guests (k ∷ ks) (suc i) g devices less is = ap (λ (gs : List HostGuest). k ∷ gs) (lent_guests ks i g devices (omega arith) is)
