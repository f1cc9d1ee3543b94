use Rattle.std.proofs.Common.{◌≡◌, ◌∙◌, length, ap, sym, arith}
use Rattle.std.proofs.lemmas.List.{length-map}
use Rattle.vm_slices.specs.Places.{HostState, member_of, members_in}
use Rattle.vm_slices.proofs.host.Host.adopt.Goals as goal

-- there are as many guests as members
pub adopt-requires-clause-place : goal.adopt-requires-clause-place
adopt-requires-clause-place c =
    let gs = c.self.inside.guests.items in
    let count : length (members_in c.args.self.now) ≡ length gs =
    ap (λ (h : HostState). length (members_in h)) (sym c.self.view_is) ∙ length-map gs (member_of c.self.inside.board.world.ram) in
    let first = c.requires.number.0 in
    let last = c.requires.number.1 in omega arith
