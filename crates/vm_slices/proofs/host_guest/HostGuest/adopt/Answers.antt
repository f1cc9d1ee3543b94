use Rattle.std.proofs.Common.{◌∙◌, sym, arith}
use Rattle.mb_walk.proofs.Parts.{length-part}
use Rattle.vm_slices.proofs.Adopted.{member_begun, within_own}
use Rattle.vm_slices.proofs.host_guest.HostGuest.adopt.Goals as goal

pub adopt-requires-clause-size : goal.adopt-requires-clause-size
adopt-requires-clause-size c =
    let g = c.args.self.now.guest in
    let inside = c.requires.seated.inside in
    sym c.requires.can.size ∙ length-part c.args.board.now.world.ram g.base g.size (omega arith)

pub returns-clause-member : goal.returns-clause-member
returns-clause-member c =
    member_begun c.args.saved.now c.args.self.now c.adopt.new.self c.args.board.now.world.ram c.adopt.new.board.world.ram
    c.adopt.ensures.begins c.adopt.ensures.same

pub returns-clause-within : goal.returns-clause-within
returns-clause-within c =
    within_own c.args.self.now.guest c.args.board.now.world.ram c.adopt.new.board.world.ram c.requires.seated c.adopt.ensures.within
