use Rattle.std.proofs.Common.{◌≡◌, ◌∙◌, ◌-◌, ◌<◌, List, Some, length, refl, ap, sym, arith}
use Rattle.std.proofs.lemmas.List.{length-map}
use Rattle.def_guests.specs.Rounds.{Member}
use Rattle.vm_slices.specs.declared.host_guest.HostGuest.{HostGuest}
use Rattle.vm_slices.specs.Lending.{with_devices_at}
use Rattle.vm_slices.specs.Members.{devices_of, numbered}
use Rattle.vm_slices.specs.Places.{HostState, member_of, members_in}
use Rattle.vm_slices.proofs.Lent.{lent_host, lent_guests}
use Rattle.vm_slices.proofs.Places.{member_at}
use Rattle.vm_slices.proofs.host.Host.devices_mut.Goals as goal

pub invariant_of-self-lent : goal.invariant_of-self-lent
invariant_of-self-lent c w =
    let gs = c.self.inside.guests.items in
    let ram = c.self.inside.board.world.ram in
    let count : length (members_in c.args.self.now) ≡ length gs =
    ap (λ (h : HostState). length (members_in h)) (sym c.self.view_is) ∙ length-map gs (member_of ram) in
    let first = c.requires.0 in
    let last = c.requires.1 in
    let less : c.args.guest - 1 < length gs = omega arith in
    lent_host c.self.inside.slice gs (c.args.guest - 1) c.index_mut.result.now w ram c.self.invariant less c.index_mut.ensures.value

pub returns : goal.returns
returns c =
    let gs = c.self.inside.guests.items in
    let ram = c.self.inside.board.world.ram in
    let g = c.index_mut.result.now in
    let place = c.args.guest - 1 in
    let count : length (members_in c.args.self.now) ≡ length gs =
    ap (λ (h : HostState). length (members_in h)) (sym c.self.view_is) ∙ length-map gs (member_of ram) in
    let first = c.requires.0 in
    let last = c.requires.1 in
    let less : place < length gs = omega arith in (
      (
        refl,
        λ w.
            ap (λ (all : List HostGuest). (let h : HostState = record { slice = c.self.inside.slice; guests = all; ram = ram } in h))
            (lent_guests gs place g w less c.index_mut.ensures.value)
            ∙ ap (λ (h : HostState). record h { guests = with_devices_at place w h.guests }) c.self.view_is,
      ),
      record {
        lends = tt;
        value = ap (λ (h : HostState). numbered c.args.guest (devices_of (members_in h))) (sym c.self.view_is)
            ∙ member_at (λ (m : Member). m.guest.machine.world.devices) gs ram place g less c.index_mut.ensures.value
            ∙ ap Some (sym c.devices_mut.ensures.value);
      },
    )
