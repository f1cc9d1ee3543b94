use Rattle.std.proofs.Common.{◌≡◌, ◌∙◌, [], List, drop, length, map, refl, ap, subst, arith}
use Rattle.std.proofs.lemmas.List.{drop_all}
use Rattle.mb_script.specs.declared.turn.Turn.{Turn}
use Rattle.def_guests.specs.Rounds.{Member, left_of_all}
use Rattle.vm_slices.specs.Members.{machine_at_end, machines_of, tally_at_end}
use Rattle.vm_slices.specs.Orders.{each_given}
use Rattle.vm_slices.specs.Places.{members_in}
use Rattle.vm_slices.proofs.Orders.{SoFar, as_many, machines_end, machines_so, next_turn, none_so_far, order_ends, order_given, tallies_end}
use Rattle.vm_slices.proofs.RoundLaws.{first_room, rises_few, room_after}
use Rattle.vm_slices.proofs.host.Host.run_order.Goals as goal

pub loop-turn-init : goal.loop-turn-init
loop-turn-init c = record {
  far = none_so_far c.args.turns.now (members_in c.args.self.now) c.args.native.now;
  slice = refl;
  count = refl;
}

-- there is room for what is left
pub take_turn-requires-clause-room : goal.take_turn-requires-clause-room
take_turn-requires-clause-room c =
    let ms = members_in c.args.self.now in
    let count = c.guest_count.ensures.count in
    let few = c.guest_count.ensures.few in
    room_after (left_of_all ms) (left_of_all (members_in c.loop-turn.self)) c.args.native.now c.loop-turn.native
    (first_room ms c.args.native.now c.guest_count.ensures.bounds (omega (arith, count, few)) c.requires.native.0 c.requires.native.1)
    c.loop-turn.invariant.far.rises

pub loop-turn-preserved : goal.loop-turn-preserved
loop-turn-preserved c =
    let now = members_in c.loop-turn.self in
    let after = c.take_turn.ensures in
    record {
      far = next_turn c.args.turns.now c.loop-turn.turn-index _ (members_in c.args.self.now) now (members_in c.take_turn.new.self) c.args.native.now
          c.loop-turn.native c.take_turn.new.native c.loop-turn-test.true c.loop-turn.invariant.far after.turn after.counts after.rises;
      slice = after.slice ∙ c.loop-turn.invariant.slice;
      count = ap (λ (ms : List Member). length ms) after.turn ∙ as_many _ _ now ∙ c.loop-turn.invariant.count;
    }

-- no turn is left
far : (c : goal.After-loop-turn) → SoFar c.args.turns.now [] (members_in c.args.self.now) (members_in c.loop-turn.self) c.args.native.now c.loop-turn.native
far c =
    let none : drop c.loop-turn.turn-index c.args.turns.now ≡ [] = drop_all c.loop-turn.turn-index c.args.turns.now (omega arith) in
    subst (λ (ts : List Turn). SoFar c.args.turns.now ts (members_in c.args.self.now) (members_in c.loop-turn.self) c.args.native.now c.loop-turn.native)
    none c.loop-turn.invariant.far

ended : (c : goal.After-loop-turn) → members_in c.loop-turn.self ≡ each_given c.args.turns.now 1 (members_in c.args.self.now)
ended c =
    let first = members_in c.args.self.now in
    (order_ends c.args.turns.now first (members_in c.loop-turn.self) c.args.native.now c.loop-turn.native (far c)).0
    ∙ order_given c.args.turns.now (record { members = first; marks = []; exceptions = 0 }) (λ k d less. (c.requires.turns k d less).0)

pub returns-clause-order : goal.returns-clause-order
returns-clause-order c =
    (order_ends c.args.turns.now (members_in c.args.self.now) (members_in c.loop-turn.self) c.args.native.now c.loop-turn.native (far c)).0

pub returns-clause-counts : goal.returns-clause-counts
returns-clause-counts c =
    (order_ends c.args.turns.now (members_in c.args.self.now) (members_in c.loop-turn.self) c.args.native.now c.loop-turn.native (far c)).1

pub returns-clause-each : goal.returns-clause-each
returns-clause-each c = ended c

pub returns-clause-machines : goal.returns-clause-machines
returns-clause-machines c =
    ap machines_of (ended c) ∙ machines_so c.args.turns.now 1 (members_in c.args.self.now)

pub returns-clause-machine_ends : goal.returns-clause-machine_ends
returns-clause-machine_ends c =
    ap (λ (ms : List Member). map machine_at_end ms) (ended c) ∙ machines_end c.args.turns.now 1 (members_in c.args.self.now)

pub returns-clause-tally_ends : goal.returns-clause-tally_ends
returns-clause-tally_ends c =
    ap (λ (ms : List Member). map tally_at_end ms) (ended c) ∙ tallies_end c.args.turns.now 1 (members_in c.args.self.now)

pub returns-clause-few : goal.returns-clause-few
returns-clause-few c =
    let count = c.guest_count.ensures.count in
    let few = c.guest_count.ensures.few in
    rises_few (members_in c.args.self.now) (left_of_all (members_in c.loop-turn.self)) c.args.native.now c.loop-turn.native
    c.guest_count.ensures.bounds (omega (arith, count, few)) (far c).rises
