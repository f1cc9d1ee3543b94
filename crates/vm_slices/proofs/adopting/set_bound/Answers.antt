use Rattle.std.proofs.Common.{get_or, ap, sym, subst, List}
use Rattle.std.specs.Prelude.{All}
use Rattle.def_guests.specs.Rounds.{Member}
use Rattle.vm_slices.specs.declared.host_guest.HostGuest.{HostGuest}
use Rattle.vm_slices.specs.Adopting.{bounded}
use Rattle.vm_slices.specs.Members.{IsBounded}
use Rattle.vm_slices.proofs.Adopted.{bound_stands, with_bound}
use Rattle.vm_slices.proofs.Places.{bounded_with}
use Rattle.vm_slices.proofs.adopting.set_bound.Goals as goal

pub returns-clause-bound : goal.returns-clause-bound
returns-clause-bound c =
    with_bound c.args.steps c.args.guests.now c.args.place c.index-guests-place.result c.args.board.now.world.ram c.requires.place

pub returns-clause-stand : goal.returns-clause-stand
returns-clause-stand c =
    bound_stands c.args.steps c.args.guests.now c.args.place c.index-guests-place.result c.args.board.now.world.ram c.requires.stand

pub returns-clause-bounds : goal.returns-clause-bounds
returns-clause-bounds c =
    let gs = c.args.guests.now in
    let x = c.args.board.now.world.ram in
    let g = get_or gs c.args.place c.index-guests-place.result in
    subst (λ (ks : List Member). All IsBounded ks) (sym (returns-clause-bound c))
    (bounded_with (bounded c.args.steps) gs c.args.place g x c.requires.place
    (ap (λ (a : HostGuest). get_or gs c.args.place a) c.index-guests-place.is) c.requires.bounds c.ranges.steps.fits)
