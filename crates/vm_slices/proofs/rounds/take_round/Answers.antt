use Rattle.std.proofs.Common.{◌≡◌, ◌∙◌, ℕ, suc, ◌+◌, ◌++◌, List, length, ap, sym, arith, rules}
use Rattle.std.proofs.lemmas.List.{length-map}
use Rattle.def_guests.specs.Rounds.{Member, left_of_all}
use Rattle.vm_slices.specs.Places.{member_of, members_of, exceptions_at, marks_at, with_turn}
use Rattle.vm_slices.proofs.Places.{first_turned, first_marks, none_turned, one_more, all_turned, no_marks, more_marks, all_marks, counted_as, counted_on}
use Rattle.vm_slices.proofs.Places.{nothing_counted}
use Rattle.vm_slices.proofs.Places.{first_exceptions, no_exceptions, more_exceptions, all_exceptions}
use Rattle.vm_slices.proofs.RoundLaws.{room_after}
use Rattle.vm_slices.proofs.rounds.take_round.Goals as goal

pub loop-place-init : goal.loop-place-init
loop-place-init c =
    let all = members_of c.args.guests.now c.args.board.now.world.ram in record {
      turned = sym (none_turned c.args.slice all);
      counts = counted_as (sym (no_marks c.args.slice all)) (sym (no_exceptions c.args.slice all)) (nothing_counted all c.args.native.now);
      bounds = search rules;
      rises = (omega arith, omega arith);
      stand = search rules;
    }

pub loop-place-preserved : goal.loop-place-preserved
loop-place-preserved c =
    let all = members_of c.args.guests.now c.args.board.now.world.ram in
    let now = members_of c.loop-place.guests c.loop-place.board.world.ram in
    let next = members_of c.take_turn.new.guests c.take_turn.new.board.world.ram in
    let slice = c.args.slice in
    let place = c.loop-place.place in
    let more : suc place ≡ place + 1 = omega arith in
    let marks : first_marks slice place all ++ marks_at slice place now ≡ first_marks slice (place + 1) all =
    ap (λ (ms : List Member). first_marks slice place all ++ marks_at slice place ms) c.loop-place.invariant.turned
    ∙ more_marks slice place all ∙ ap (λ (n : ℕ). first_marks slice n all) more in
    let exceptions : first_exceptions slice place all + exceptions_at slice place now ≡ first_exceptions slice (place + 1) all =
    ap (λ (ms : List Member). first_exceptions slice place all + exceptions_at slice place ms) c.loop-place.invariant.turned
    ∙ more_exceptions slice place all ∙ ap (λ (n : ℕ). first_exceptions slice n all) more in record {
      turned = c.take_turn.ensures.turn ∙ ap (with_turn slice place) c.loop-place.invariant.turned ∙ one_more slice place all
          ∙ ap (λ (n : ℕ). first_turned slice n all) more;
      counts = counted_as marks exceptions
          (counted_on all now next (first_marks slice place all) (marks_at slice place now) (first_exceptions slice place all)
          (exceptions_at slice place now) c.args.native.now c.loop-place.native c.take_turn.new.native
          c.loop-place.invariant.counts c.take_turn.ensures.counts);
      bounds = search rules;
      rises =
          let a = c.loop-place.invariant.rises.0 in let b = c.take_turn.ensures.rises.0 in
          let d = c.loop-place.invariant.rises.1 in let e = c.take_turn.ensures.rises.1 in (omega arith, omega arith);
      stand = search rules;
    }

-- there is room for what is left
pub take_turn-requires-clause-room : goal.take_turn-requires-clause-room
take_turn-requires-clause-room c =
    room_after (left_of_all (members_of c.args.guests.now c.args.board.now.world.ram)) _ c.args.native.now c.loop-place.native c.requires.room
    c.loop-place.invariant.rises

pub returns-clause-members : goal.returns-clause-members
returns-clause-members c =
    let gs = c.args.guests.now in
    let all = members_of gs c.args.board.now.world.ram in
    let count : length all ≡ length gs = length-map gs (member_of c.args.board.now.world.ram) in
    let end : c.loop-place.place ≡ length all = omega arith in
    c.loop-place.invariant.turned ∙ ap (λ (n : ℕ). first_turned c.args.slice n all) end ∙ all_turned c.args.slice all

pub returns-clause-counts : goal.returns-clause-counts
returns-clause-counts c =
    let gs = c.args.guests.now in
    let all = members_of gs c.args.board.now.world.ram in
    let count : length all ≡ length gs = length-map gs (member_of c.args.board.now.world.ram) in
    let end : c.loop-place.place ≡ length all = omega arith in
    counted_as (ap (λ (n : ℕ). first_marks c.args.slice n all) end ∙ all_marks c.args.slice all)
    (ap (λ (n : ℕ). first_exceptions c.args.slice n all) end ∙ all_exceptions c.args.slice all) c.loop-place.invariant.counts
