use Rattle.std.proofs.Common.{◌≡◌, ◌+◌, ◌≤◌, min, sym, subst, arith}
use Rattle.def_guests.specs.Rounds.{Member, left}
use Rattle.vm_slices.specs.Places.{member_of}
use Rattle.vm_slices.proofs.Turns.{HasTaken, member_taken, turn_left}
use Rattle.vm_slices.proofs.host_guest.HostGuest.take_turn.Goals as goal

taken : (c : goal.After-turn) → HasTaken c.args.slice (member_of c.args.board.now.world.ram c.args.self.now)
    (member_of c.turn.new.board.world.ram (record { guest = c.turn.new.self; bound = c.args.self.now.bound })) c.args.native.now c.turn.new.native
taken c =
    let g = c.args.self.now in
    let x = c.args.board.now.world.ram in
    let own = c.left.ensures.left in
    let least = c.min-steps.ensures in
    let steps : c.min-steps.result ≡ min c.args.slice (left (member_of x g)) = omega arith in
    member_taken c.args.slice c.min-steps.result g c.turn.new.self x c.turn.new.board.world.ram c.args.native.now c.turn.new.native steps c.turn.ensures.takes
    c.turn.ensures.native

pub returns-clause-turn : goal.returns-clause-turn
returns-clause-turn c = (taken c).turn

pub returns-clause-counts : goal.returns-clause-counts
returns-clause-counts c = (taken c).counts

pub returns-clause-rises : goal.returns-clause-rises
returns-clause-rises c =
    let g = c.args.self.now in
    let m = member_of c.args.board.now.world.ram g in
    let k = member_of c.turn.new.board.world.ram (record { guest = c.turn.new.self; bound = g.bound }) in
    let less : left k + min c.args.slice (left m) ≤ left m =
    subst (λ (a : Member). left a + min c.args.slice (left m) ≤ left m) (sym (taken c).turn) (turn_left c.args.slice m) in
    let own = c.left.ensures.left in
    let least = c.min-steps.ensures in
    let taken = c.turn.ensures.few in
    let retired = c.turn.ensures.native.0 in
    let exceptions = c.turn.ensures.native.1 in
    (omega arith, omega arith)
