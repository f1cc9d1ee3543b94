use Rattle.std.proofs.Common.{◌≡◌, ◌∙◌, List, get_or, set, ap, sym, subst}
use Rattle.std.specs.Prelude.{slice_get, All}
use Rattle.def_guests.specs.Seats.{IsSeated}
use Rattle.def_guests.specs.Stages.{AllSeated}
use Rattle.def_guests.specs.Rounds.{Member, left, left_of_all}
use Rattle.vm_slices.specs.declared.host_guest.HostGuest.{HostGuest}
use Rattle.vm_slices.specs.Counting.{AreCounted, HasRoom, RisesBy}
use Rattle.vm_slices.specs.Members.{after_turn, IsBounded}
use Rattle.vm_slices.specs.Places.{member_of, members_of, exceptions_at, marks_at, with_turn, seats_of}
use Rattle.vm_slices.proofs.Places.{Turn, own_by, seated_at, member_room, changed_at, turn_of_one, other_stays}
use Rattle.vm_slices.proofs.rounds.take_turn.Goals as goal

pub take_turn-requires-clause-seated : goal.take_turn-requires-clause-seated
take_turn-requires-clause-seated c =
    let r = c.index-guests-place.result in
    let ram = c.args.board.now.world.ram in
    subst (λ (g : HostGuest). IsSeated g.guest ram) c.index-guests-place.is
    (seated_at c.args.guests.now ram c.args.place r c.requires.stand c.requires.place c.index-guests-place.is)

pub take_turn-requires-clause-room : goal.take_turn-requires-clause-room
take_turn-requires-clause-room c =
    let r = c.index-guests-place.result in
    let ram = c.args.board.now.world.ram in
    subst (λ (g : HostGuest). HasRoom (left (member_of ram g)) c.args.native.now) c.index-guests-place.is
    (member_room c.args.guests.now ram c.args.place r c.args.native.now c.requires.place c.index-guests-place.is c.requires.room)

-- the guests after the turn of that one
turned : (c : goal.After-take_turn)
    → Turn c.args.slice c.args.place (members_of c.args.guests.now c.args.board.now.world.ram) c.args.native.now c.take_turn.new.native
turned c =
    let gs = c.args.guests.now in
    let x = c.args.board.now.world.ram in
    let g = get_or gs c.args.place c.index-guests-place.result in
    let e = c.take_turn.ensures in
    turn_of_one c.args.slice c.args.place gs g x c.args.native.now c.take_turn.new.native c.requires.place
    (ap (λ (a : HostGuest). get_or gs c.args.place a) c.index-guests-place.is) c.requires.bounds
    (own_by c.args.slice (member_of x g) (member_of c.take_turn.new.board.world.ram c.take_turn.new.self) c.args.native.now c.take_turn.new.native
    e.turn e.counts e.rises)

stands : (c : goal.After-take_turn) → AllSeated (seats_of (set c.args.guests.now c.args.place c.take_turn.new.self)) c.take_turn.new.board.world.ram
    × (members_of (set c.args.guests.now c.args.place c.take_turn.new.self) c.take_turn.new.board.world.ram
    ≡ with_turn c.args.slice c.args.place (members_of c.args.guests.now c.args.board.now.world.ram))
stands c =
    let e = c.take_turn.ensures in
    changed_at (after_turn c.args.slice) c.args.guests.now c.args.place c.index-guests-place.result c.take_turn.new.self c.args.board.now.world.ram
    c.take_turn.new.board.world.ram c.requires.stand c.requires.place c.index-guests-place.is
    (record { member = e.turn; same = e.same; seated = e.seated; within = e.within })

pub returns-clause-turn : goal.returns-clause-turn
returns-clause-turn c = (stands c).1

pub returns-clause-others : goal.returns-clause-others
returns-clause-others c other ne =
    ap (λ (ms : List Member). slice_get ms other) (stands c).1
    ∙ other_stays c.args.slice c.args.place other (members_of c.args.guests.now c.args.board.now.world.ram) ne

pub returns-clause-stand : goal.returns-clause-stand
returns-clause-stand c = (stands c).0

pub returns-clause-counts : goal.returns-clause-counts
returns-clause-counts c =
    let ms = members_of c.args.guests.now c.args.board.now.world.ram in
    subst (λ (ks : List Member). AreCounted ms ks (marks_at c.args.slice c.args.place ms)
    (exceptions_at c.args.slice c.args.place ms) c.args.native.now c.take_turn.new.native)
    (sym (stands c).1) (turned c).counts

pub returns-clause-bounds : goal.returns-clause-bounds
returns-clause-bounds c = subst (λ (ks : List Member). All IsBounded ks) (sym (stands c).1) (turned c).bounds

pub returns-clause-rises : goal.returns-clause-rises
returns-clause-rises c =
    let ms = members_of c.args.guests.now c.args.board.now.world.ram in
    subst (λ (ks : List Member). RisesBy (left_of_all ms) (left_of_all ks) c.args.native.now c.take_turn.new.native) (sym (stands c).1) (turned c).rises
