use Rattle.std.proofs.Common.{◌≡◌, ◌∙◌, suc, ◌+◌, ◌-◌, List, ◌∷◌, length, map, take, refl, ap, sym, subst, arith}
use Rattle.std.specs.Prelude.{IfSome, slice_get}
use Rattle.std.specs.Vec.Iter.{into_iter_items, into_iter_len}
use Rattle.vm_slices.specs.Places.{members_in, with_member}
use Rattle.mb_program.specs.Saved.{CanBecome, all_become, become, left_said}
use Rattle.mb_program.specs.declared.resumed.LeftMachine.{LeftMachine}
use Rattle.mb_program.proofs.CompareLemmas.{left_behind}
use Rattle.mb_program.proofs.ResumeLemmas.{all_became, next_becomes}
use Rattle.mb_program.proofs.resumed.adopt_all.Goals as goal

pub loop-machine-init : goal.loop-machine-init
loop-machine-init c =
    let gives = c.into_iter-machine-iterator.ensures.into_iter_gives in
    record {
      rest = gives.1 ∙ c.args.machines.ok.0 ∙ ap (λ (ms : List LeftMachine). length ms) (sym gives.0);
      left = sym gives.0;
      members = refl;
      slice = refl;
    }

pub overflow_add-number : goal.overflow_add-number
overflow_add-number c =
    let left = c.loop-machine.invariant.left ∙ c.in-Some.ensures.steps.0 in
    let next = next_becomes c.args.machines.items (members_in c.args.host.now) (members_in c.loop-machine.host) c.loop-machine.number c.in-Some.machine
    (into_iter_items c.next.new.self) c.requires left c.loop-machine.invariant.members in
    let there = next.there in
    let few = next.few in
    let count = c.guest_count.ensures.count in
    let most = c.guest_count.ensures.few in
    omega arith

pub adopt_machine-requires : goal.adopt_machine-requires
adopt_machine-requires c =
    let k = c.loop-machine.number in
    let left = c.loop-machine.invariant.left ∙ c.in-Some.ensures.steps.0 in
    let next = next_becomes c.args.machines.items (members_in c.args.host.now) (members_in c.loop-machine.host) k c.in-Some.machine
    (into_iter_items c.next.new.self) c.requires left c.loop-machine.invariant.members in
    let there = next.there in
    let number : k ≡ k + 1 - 1 = omega arith in
    record {
      number = (omega arith, omega arith);
      can = subst (λ n. IfSome (slice_get (members_in c.loop-machine.host) n) (CanBecome (left_said c.in-Some.machine))) number next.can;
      lawful = next.lawful;
    }

pub loop-machine-preserved : goal.loop-machine-preserved
loop-machine-preserved c =
    let machines = c.args.machines.items in
    let members = members_in c.args.host.now in
    let before = members_in c.loop-machine.host in
    let k = c.loop-machine.number in
    let m = c.in-Some.machine in
    let rest = into_iter_items c.next.new.self in
    let left = c.loop-machine.invariant.left ∙ c.in-Some.ensures.steps.0 in
    let next = next_becomes machines members before k m rest c.requires left c.loop-machine.invariant.members in
    let number : k + 1 - 1 ≡ k = omega arith in
    let place : suc k ≡ k + 1 = omega arith in
    record {
      rest =
          let count : into_iter_len c.loop-machine.machine-iterator ≡ length (m ∷ rest) =
          c.loop-machine.invariant.rest ∙ ap (λ (ms : List LeftMachine). length ms) c.in-Some.ensures.steps.0 in
          let one = c.in-Some.ensures.steps.1 in omega arith;
      left = left_behind machines k m rest left;
      members = c.adopt_machine.ensures.members
          ∙ ap (λ n. with_member n (become (left_said m)) before) number
          ∙ next.next
          ∙ ap (λ n. all_become (take n (map left_said machines)) members) place;
      slice = c.adopt_machine.ensures.slice ∙ c.loop-machine.invariant.slice;
    }

pub returns-clause-members : goal.returns-clause-members
returns-clause-members c =
    c.loop-machine.invariant.members
    ∙ all_became c.args.machines.items (members_in c.args.host.now) c.loop-machine.number (into_iter_items c.loop-machine.machine-iterator)
    c.loop-machine.invariant.left (sym c.loop-machine.invariant.rest ∙ c.in-None.ensures.steps.0)
