use Rattle.std.proofs.Common.{◌≡◌, List, get_or, set, ap, sym, subst}
use Rattle.std.specs.Prelude.{All}
use Rattle.def_guests.specs.Seats.{IsSeated}
use Rattle.def_guests.specs.Stages.{AllSeated}
use Rattle.def_guests.specs.Rounds.{Member}
use Rattle.vm_slices.specs.declared.host_guest.HostGuest.{HostGuest}
use Rattle.vm_slices.specs.Adopting.{begun, CanAdopt}
use Rattle.vm_slices.specs.Members.{IsBounded}
use Rattle.vm_slices.specs.Places.{member_of, members_of, with_member, seats_of}
use Rattle.vm_slices.proofs.Adopted.{holds_at}
use Rattle.vm_slices.proofs.Places.{bounded_with, changed_at, member_bounded, seated_at}
use Rattle.vm_slices.proofs.adopting.adopt.Goals as goal

pub adopt-requires-clause-seated : goal.adopt-requires-clause-seated
adopt-requires-clause-seated c =
    let r = c.index-guests-place.result in
    let ram = c.args.board.now.world.ram in
    subst (λ (g : HostGuest). IsSeated g.guest ram) c.index-guests-place.is
    (seated_at c.args.guests.now ram c.args.place r c.requires.stand c.requires.place c.index-guests-place.is)

pub adopt-requires-clause-can : goal.adopt-requires-clause-can
adopt-requires-clause-can c =
    let r = c.index-guests-place.result in
    let ram = c.args.board.now.world.ram in
    subst (λ (g : HostGuest). CanAdopt c.args.saved.now (member_of ram g)) c.index-guests-place.is
    (holds_at (CanAdopt c.args.saved.now) c.args.guests.now ram c.args.place r c.requires.place c.index-guests-place.is c.requires.can)

changed : (c : goal.After-adopt) → AllSeated (seats_of (set c.args.guests.now c.args.place c.adopt.new.self)) c.adopt.new.board.world.ram
    × (members_of (set c.args.guests.now c.args.place c.adopt.new.self) c.adopt.new.board.world.ram
    ≡ with_member c.args.place (begun c.args.saved.now) (members_of c.args.guests.now c.args.board.now.world.ram))
changed c =
    let e = c.adopt.ensures in
    changed_at (begun c.args.saved.now) c.args.guests.now c.args.place c.index-guests-place.result c.adopt.new.self c.args.board.now.world.ram
    c.adopt.new.board.world.ram c.requires.stand c.requires.place c.index-guests-place.is
    (record { member = e.member; same = e.same; seated = e.seated; within = e.within })

pub returns-clause-adopted : goal.returns-clause-adopted
returns-clause-adopted c = (changed c).1

pub returns-clause-stand : goal.returns-clause-stand
returns-clause-stand c = (changed c).0

pub returns-clause-bounds : goal.returns-clause-bounds
returns-clause-bounds c =
    let gs = c.args.guests.now in
    let x = c.args.board.now.world.ram in
    let g = get_or gs c.args.place c.index-guests-place.result in
    let is : g ≡ get_or gs c.args.place g = ap (λ (a : HostGuest). get_or gs c.args.place a) c.index-guests-place.is in
    subst (λ (ks : List Member). All IsBounded ks) (sym (changed c).1)
    (bounded_with (begun c.args.saved.now) gs c.args.place g x c.requires.place is c.requires.bounds
    (member_bounded gs x c.args.place g c.requires.place is c.requires.bounds))
