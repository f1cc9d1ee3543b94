use Rattle.std.proofs.Common.{◌≡◌, ◌∙◌, ◌-◌, ◌<◌, Some, length, ap, sym, subst, arith}
use Rattle.std.specs.Prelude.{slice_get, IfSome}
use Rattle.mb_model.specs.Keeping.{list_of}
use Rattle.std.proofs.lemmas.List.{length-map}
use Rattle.def_guests.specs.Rounds.{Member}
use Rattle.vm_slices.specs.Adopting.{kept_at, KeepsLawfully}
use Rattle.vm_slices.specs.Members.{numbered}
use Rattle.vm_slices.specs.Places.{HostState, member_of, members_in}
use Rattle.vm_slices.proofs.Adopted.{held_at}
use Rattle.vm_slices.proofs.Places.{member_at}
use Rattle.vm_slices.proofs.host.Host.kept.Goals as goal

pub returns-clause-entry : goal.returns-clause-entry
returns-clause-entry c =
    let gs = c.self.inside.guests.items in
    let ram = c.self.inside.board.world.ram in
    let count : length (members_in c.args.self.now) ≡ length gs =
    ap (λ (h : HostState). length (members_in h)) (sym c.self.view_is) ∙ length-map gs (member_of ram) in
    let first = c.requires.0 in
    let last = c.requires.1 in
    let less : c.args.guest - 1 < length gs = omega arith in
    ap (λ (h : HostState). numbered c.args.guest (kept_at c.args.place (members_in h))) (sym c.self.view_is)
    ∙ member_at (λ (m : Member). slice_get (list_of 0 m.guest.machine.world.kept) c.args.place) gs ram (c.args.guest - 1) c.index-host_guest.result.now less
    c.index-host_guest.ensures
    ∙ ap Some (sym c.kept.ensures.entry)

pub returns-clause-kept : goal.returns-clause-kept
returns-clause-kept c =
    let gs = c.self.inside.guests.items in
    let ram = c.self.inside.board.world.ram in
    let count : length (members_in c.args.self.now) ≡ length gs =
    ap (λ (h : HostState). length (members_in h)) (sym c.self.view_is) ∙ length-map gs (member_of ram) in
    let first = c.requires.0 in
    let last = c.requires.1 in
    let less : c.args.guest - 1 < length gs = omega arith in
    subst (λ (h : HostState). IfSome (numbered c.args.guest (members_in h)) KeepsLawfully) c.self.view_is
    (held_at KeepsLawfully gs ram (c.args.guest - 1) c.index-host_guest.result.now less c.index-host_guest.ensures c.kept.ensures.kept)
