use Rattle.std.proofs.Common.{◌∙◌, map, ap, arith}
use Rattle.vm_slices.specs.Members.{member_at_start}
use Rattle.vm_slices.proofs.Fits.{as_many}
use Rattle.vm_slices.proofs.host.Host.prepare.Goals as goal

pub invariant_of-result : goal.invariant_of-result
invariant_of-result c =
    let members = c.in_ok-guests.ensures.members ∙ ap (map member_at_start) c.into_guests.ensures in
    record {
      some = let slice = c.slice-slice.ensures in let some = c.requires.slice in omega arith;
      few =
          let count = as_many c.args.session.guests c.in_ok-guests.guests.items c.prepare_guests.new.board.world.ram members in
          let few = c.requires.few in omega arith;
      stand = c.in_ok-guests.ensures.stand;
      bounds = c.in_ok-guests.ensures.bounds;
    }

pub returns-clause-members : goal.returns-clause-members
returns-clause-members c = c.in_ok-guests.ensures.members ∙ ap (map member_at_start) c.into_guests.ensures
