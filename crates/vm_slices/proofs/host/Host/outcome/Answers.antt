use Rattle.std.proofs.Common.{◌≡◌, ◌∙◌, ◌-◌, ◌<◌, Some, length, ap, sym, arith}
use Rattle.std.proofs.lemmas.List.{length-map}
use Rattle.def_machine.specs.Machine.{seen_machine}
use Rattle.def_guests.specs.Rounds.{Member}
use Rattle.vm_slices.specs.Places.{HostState, members_in}
use Rattle.vm_slices.specs.Members.{shown_of, numbered}
use Rattle.vm_slices.specs.Places.{member_of}
use Rattle.vm_slices.proofs.Places.{seated_at, member_at}
use Rattle.vm_slices.proofs.host.Host.outcome.Goals as goal

pub outcome-requires : goal.outcome-requires
outcome-requires c =
    let gs = c.self.inside.guests.items in
    let ram = c.self.inside.board.world.ram in
    let count : length (members_in c.args.self.now) ≡ length gs =
    ap (λ (h : HostState). length (members_in h)) (sym c.self.view_is) ∙ length-map gs (member_of ram) in
    let first = c.requires.0 in
    let last = c.requires.1 in
    let less : c.args.guest - 1 < length gs = omega arith in
    let seated = seated_at gs ram (c.args.guest - 1) c.index-host_guest.result.now c.self.invariant.stand less c.index-host_guest.ensures in
    let inside = seated.inside in omega arith

pub returns-clause-shown : goal.returns-clause-shown
returns-clause-shown c =
    let gs = c.self.inside.guests.items in
    let ram = c.self.inside.board.world.ram in
    let count : length (members_in c.args.self.now) ≡ length gs =
    ap (λ (h : HostState). length (members_in h)) (sym c.self.view_is) ∙ length-map gs (member_of ram) in
    let first = c.requires.0 in
    let last = c.requires.1 in
    let less : c.args.guest - 1 < length gs = omega arith in
    ap (λ (h : HostState). numbered c.args.guest (shown_of (members_in h))) (sym c.self.view_is)
    ∙ member_at (λ (m : Member). seen_machine m.guest.machine) gs ram (c.args.guest - 1) c.index-host_guest.result.now less c.index-host_guest.ensures
    ∙ ap Some (sym c.outcome.ensures)
