use Rattle.std.proofs.Common.{◌≡◌, ◌∙◌, ◌-◌, ◌<◌, Some, length, ap, sym, arith}
use Rattle.std.proofs.lemmas.List.{length-map}
use Rattle.def_guests.specs.Rounds.{Member}
use Rattle.vm_slices.specs.Places.{HostState, members_in}
use Rattle.vm_slices.specs.Members.{devices_of, numbered}
use Rattle.vm_slices.specs.Places.{member_of}
use Rattle.vm_slices.proofs.Places.{member_at}
use Rattle.vm_slices.proofs.host.Host.devices.Goals as goal

pub returns : goal.returns
returns c =
    let gs = c.self.inside.guests.items in
    let ram = c.self.inside.board.world.ram in
    let count : length (members_in c.args.self.now) ≡ length gs =
    ap (λ (h : HostState). length (members_in h)) (sym c.self.view_is) ∙ length-map gs (member_of ram) in
    let first = c.requires.0 in
    let last = c.requires.1 in
    let less : c.args.guest - 1 < length gs = omega arith in
    ap (λ (h : HostState). numbered c.args.guest (devices_of (members_in h))) (sym c.self.view_is)
    ∙ member_at (λ (m : Member). m.guest.machine.world.devices) gs ram (c.args.guest - 1) c.index-host_guest.result.now less
    c.index-host_guest.ensures
    ∙ ap Some (sym c.devices.ensures)
