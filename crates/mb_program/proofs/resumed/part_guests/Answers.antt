use Rattle.std.proofs.Common.{◌≡◌, ◌∙◌, List, ◌∷◌, length, map, refl, ap, sym, arith}
use Rattle.std.specs.Vec.Iter.{into_iter_items, into_iter_len}
use Rattle.std.proofs.lemmas.List.{map-append}
use Rattle.vm_snapshot.specs.declared.plan.SnapGuest.{SnapGuest}
use Rattle.mb_program.specs.Saves.{seat_of}
use Rattle.mb_program.specs.Saved.{left_of, left_said}
use Rattle.mb_program.proofs.ResumeLemmas.{all_parted, one_parted}
use Rattle.mb_program.proofs.resumed.part_guests.Goals as goal

pub loop-guest-init : goal.loop-guest-init
loop-guest-init c =
    let gives = c.into_iter-guest-iterator.ensures.into_iter_gives in
    record {
      rest = gives.1 ∙ c.args.guests.ok.0 ∙ ap (λ (gs : List SnapGuest). length gs) (sym gives.0);
      seats = rw (c.new-seats.ensures.items, gives.0) refl;
      machines = rw (c.new-machines.ensures.items, gives.0) refl;
    }

pub loop-guest-preserved : goal.loop-guest-preserved
loop-guest-preserved c =
    let all = c.args.guests.items in
    let g = c.in-Some.guest in
    let rest = into_iter_items c.next.new.self in
    let more = c.args.more in
    record {
      rest =
          let count : into_iter_len c.loop-guest.guest-iterator ≡ length (g ∷ rest) =
          c.loop-guest.invariant.rest ∙ ap (λ (gs : List SnapGuest). length gs) c.in-Some.ensures.steps.0 in
          let one = c.in-Some.ensures.steps.1 in omega arith;
      seats = rw c.in_ok-push.ensures.items
          (one_parted (seat_of more) c.loop-guest.seats.items g rest all c.seat_of-seat.result.0
          (rw c.in-Some.ensures.steps.0 at c.loop-guest.invariant.seats) c.seat_of-seat.ensures.seat);
      machines = rw (c.in_ok-push-2.ensures.items, map-append left_said c.loop-guest.machines.items)
          (one_parted left_of (map left_said c.loop-guest.machines.items) g rest all (left_said c.seat_of-seat.result.1)
          (rw c.in-Some.ensures.steps.0 at c.loop-guest.invariant.machines) c.seat_of-seat.ensures.machine);
    }

pub returns-clause-seats : goal.returns-clause-seats
returns-clause-seats c =
    all_parted (seat_of c.args.more) c.loop-guest.seats.items (into_iter_items c.loop-guest.guest-iterator) c.args.guests.items
    c.loop-guest.invariant.seats (sym c.loop-guest.invariant.rest ∙ c.in-None.ensures.steps.0)

pub returns-clause-machines : goal.returns-clause-machines
returns-clause-machines c =
    all_parted left_of (map left_said c.loop-guest.machines.items) (into_iter_items c.loop-guest.guest-iterator) c.args.guests.items
    c.loop-guest.invariant.machines (sym c.loop-guest.invariant.rest ∙ c.in-None.ensures.steps.0)
