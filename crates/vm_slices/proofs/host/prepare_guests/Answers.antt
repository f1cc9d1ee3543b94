use Rattle.std.proofs.Common.{◌≡◌, ◌∙◌, ℕ, ◌+◌, List, [], ◌∷◌, ◌++◌, length, refl, ap, sym, subst, arith}
use Rattle.std.specs.Vec.Iter.{into_iter_items, into_iter_len}
use Rattle.vm_shadow.specs.declared.area.TheConstants.{AREA_BYTES}
use Rattle.vm_guest.specs.Session.{GuestAtStart}
use Rattle.vm_slices.specs.declared.host_guest.HostGuest.{HostGuest}
use Rattle.vm_slices.proofs.Fits.{Stands, first_stands, next_guest, next_stands, all_stand}
use Rattle.vm_slices.proofs.host.prepare_guests.Goals as goal

pub loop-guest-init : goal.loop-guest-init
loop-guest-init c =
    let gives = c.into_iter-guest-iterator.ensures.into_iter_gives in
    let all = c.args.guests.items in
    let ram = c.args.board.now.world.ram in
    record {
      rest = gives.1 ∙ c.args.guests.ok.0 ∙ ap (λ (gs : List GuestAtStart). length gs) (sym gives.0);
      stands = subst (λ (rest : List GuestAtStart). Stands all rest c.in_ok-prepared.prepared.items 65536 ram) (sym gives.0)
          (subst (λ (hosts : List HostGuest). Stands all all hosts 65536 ram) (sym c.in_ok-prepared.ensures.items)
          (first_stands all ram c.requires.guests c.requires.room));
      count = refl;
    }

pub prepare-requires-clause-guest : goal.prepare-requires-clause-guest
prepare-requires-clause-guest c =
    let all = c.args.guests.items in
    let rest = into_iter_items c.next.new.self in
    let hosts = c.loop-guest.prepared.items in
    let base = c.loop-guest.base in
    let ram = c.loop-guest.board.world.ram in
    (next_guest all rest c.in-Some.guest hosts base ram
    (subst (λ (gs : List GuestAtStart). Stands all gs hosts base ram) c.in-Some.ensures.steps.0 c.loop-guest.invariant.stands)).0

pub loop-guest-preserved : goal.loop-guest-preserved
loop-guest-preserved c =
    let all = c.args.guests.items in
    let g = c.in-Some.guest in
    let rest = into_iter_items c.next.new.self in
    let hosts = c.loop-guest.prepared.items in
    let h = c.in_ok-host_guest.host_guest in
    let base = c.loop-guest.base in
    let ram = c.loop-guest.board.world.ram in
    let after = c.prepare.new.board.world.ram in
    let now = subst (λ (gs : List GuestAtStart). Stands all gs hosts base ram) c.in-Some.ensures.steps.0 c.loop-guest.invariant.stands in
    let next = next_stands all rest g hosts h base ram after now c.in_ok-host_guest.ensures.start c.in_ok-host_guest.ensures.place.0
    c.in_ok-host_guest.ensures.place.1 c.in_ok-host_guest.ensures.seated c.in_ok-host_guest.ensures.bound c.prepare.ensures.within in
    let size = c.ram.ensures in
    let behind : base + g.ram + AREA_BYTES ≡ base + c.ram.result + 65536 = omega arith in
    record {
      rest =
          let count : into_iter_len c.loop-guest.guest-iterator ≡ length (g ∷ rest) =
          c.loop-guest.invariant.rest ∙ ap (λ (gs : List GuestAtStart). length gs) c.in-Some.ensures.steps.0 in
          let one = c.in-Some.ensures.steps.1 in omega arith;
      stands = subst (λ (more : List HostGuest). Stands all rest more (base + c.ram.result + 65536) after) (sym c.in_ok-push.ensures.items)
          (subst (λ (n : ℕ). Stands all rest (hosts ++ h ∷ []) n after) behind next);
      count = c.prepare.ensures.within.count ∙ c.loop-guest.invariant.count;
    }

pub returns-clause-members : goal.returns-clause-members
returns-clause-members c =
    all_stand c.args.guests.items (into_iter_items c.loop-guest.guest-iterator) c.loop-guest.prepared.items c.loop-guest.base
    c.loop-guest.board.world.ram c.loop-guest.invariant.stands (sym c.loop-guest.invariant.rest ∙ c.in-None.ensures.steps.0)
