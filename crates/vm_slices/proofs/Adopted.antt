-- A guest that has become a saved one, and one that takes as many steps as it is told.
use Rattle.std.proofs.Common.{◌≡◌, ◌∙◌, ℕ, zero, suc, ◌+◌, ◌<◌, List, [], ◌∷◌, length, get_or, set, refl, ap, sym, subst, arith}
use Rattle.std.specs.Prelude.{slice_get, IfSome}
use Rattle.std.proofs.Math.Seq.{map-set_same}
use Rattle.mb_saved.specs.Saved.{Saved}
use Rattle.def_machine.specs.Machine.{Entries}
use Rattle.def_guests.specs.Rounds.{Member, closed_by}
use Rattle.def_guests.specs.Seats.{Seat, end_of, guested_on, turned_on, IsSame, IsSeated, OnlyWithin}
use Rattle.def_guests.specs.Stages.{AllSeated}
use Rattle.def_guests.specs.Turns.{Turned}
use Rattle.vm_saved.specs.Begins.{beginning}
use Rattle.vm_saved.specs.Saved.{machine_of}
use Rattle.vm_guest.specs.Memory.{OnlyBetween}
use Rattle.vm_guest.proofs.Prepared.{wider}
use Rattle.vm_guest.proofs.Seated.{only_within}
use Rattle.vm_slices.specs.declared.host_guest.HostGuest.{HostGuest}
use Rattle.vm_slices.specs.Adopting.{begun, bounded}
use Rattle.vm_slices.specs.Places.{member_of, members_of, seats_of, with_member}

pub member_begun : (saved : Saved) (g : HostGuest) (h : Seat) (x y : List ℕ)
    → turned_on h y [] 0 ≡ beginning (machine_of g.guest.devices.disk saved) → IsSame g.guest h
    → member_of y (record { guest = h; bound = g.bound }) ≡ begun saved (member_of x g)
member_begun saved g h x y begins same =
    ap (λ (s : Entries). (let k : Member = record { script = s; bound = g.bound; guest = guested_on h y; tally = h.tally } in k)) same.script
    ∙ ap (λ (t : Turned). closed_by t (member_of x g)) begins

-- what changes its RAM alone changes its own part of the board alone
pub within_own : (g : Seat) (x y : List ℕ) → IsSeated g x → OnlyBetween g.base (g.base + g.size) x y → OnlyWithin g x y
within_own g x y s w = only_within g x y s.behind (wider g.base (g.base + g.size) (end_of g) x y (omega arith) w)

-- what holds of the member at a place
pub holds_at : (P : Member → Type 0) (gs : List HostGuest) (ram : List ℕ) (i : ℕ) (g : HostGuest) → i < length gs → g ≡ get_or gs i g
    → IfSome (slice_get (members_of gs ram) i) P → P (member_of ram g)
holds_at P [] ram i g less is some = absurd (omega arith)
holds_at P (k ∷ ks) ram zero g less is some = subst (λ (a : HostGuest). P (member_of ram a)) (sym is) some
holds_at P (k ∷ ks) ram (suc i) g less is some = holds_at P ks ram i g (omega arith) is some

-- and what is shown of it holds there
pub held_at : (P : Member → Type 0) (gs : List HostGuest) (ram : List ℕ) (i : ℕ) (g : HostGuest) → i < length gs → g ≡ get_or gs i g
    → P (member_of ram g) → IfSome (slice_get (members_of gs ram) i) P
held_at P [] ram i g less is holds = absurd (omega arith)
held_at P (k ∷ ks) ram zero g less is holds = subst (λ (a : HostGuest). P (member_of ram a)) is holds
held_at P (k ∷ ks) ram (suc i) g less is holds = held_at P ks ram i g (omega arith) is holds

-- ---- a bound that changes

pub bound_stands : (steps : ℕ) (gs : List HostGuest) (i : ℕ) (r : HostGuest) (x : List ℕ) → AllSeated (seats_of gs) x
    → AllSeated (seats_of (set gs i (record { guest = (get_or gs i r).guest; bound = steps }))) x
bound_stands steps gs i r x =
    subst (λ (seats : List Seat). AllSeated seats x)
    (sym (map-set_same (λ (g : HostGuest). g.guest) gs i (record { guest = (get_or gs i r).guest; bound = steps }) r refl))

pub with_bound : (steps : ℕ) (gs : List HostGuest) (i : ℕ) (r : HostGuest) (x : List ℕ) → i < length gs
    → members_of (set gs i (record { guest = (get_or gs i r).guest; bound = steps })) x ≡ with_member i (bounded steps) (members_of gs x)
with_bound steps [] i r x less = absurd (omega arith)
with_bound steps (k ∷ ks) zero r x less = refl
with_bound steps (k ∷ ks) (suc i) r x less = ap (λ (ms : List Member). member_of x k ∷ ms) (with_bound steps ks i r x (omega arith))
