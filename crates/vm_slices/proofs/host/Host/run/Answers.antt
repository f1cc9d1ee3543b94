use Rattle.std.proofs.Common.{◌≡◌, ◌∙◌, ◌⊎◌, ℕ, ◌<◌, ◌≤◌, List, true, false, refl, ap, sym, subst, arith}
use Rattle.def_guests.specs.Rounds.{Member, all_done, left_of_all}
use Rattle.vm_slices.specs.Places.{HostState, members_in}
use Rattle.vm_slices.specs.Members.{going, machines_of, tallies_of}
use Rattle.vm_slices.proofs.LastOne.{goes_on}
use Rattle.vm_slices.proofs.RoundLaws.{first_room, machines_end, none_so_far, one_round, rises_few, room_after, round_left, run_ends, tallies_end}
use Rattle.vm_slices.proofs.host.Host.run.Goals as goal

pub loop-self-smaller : goal.loop-self-smaller
loop-self-smaller c =
    let s = c.loop-self.self in
    let more : all_done (members_in s) ≡ false = sym c.is_done.ensures.done ∙ c.loop-self-test.true in
    subst (λ (ms : List Member). left_of_all ms < left_of_all (members_in s)) (sym c.take_round.ensures.members)
    (round_left c.next_slice-slice.result (members_in s) (c.next_slice-slice.ensures.some c.is_done.ensures.slice) more)

pub loop-self-init : goal.loop-self-init
loop-self-init c = record {
  far = none_so_far c.args.self.now.slice (members_in c.args.self.now) c.args.native.now;
  slice = refl;
  again = λ done. (refl, refl);
}

-- there is room for what is left
pub take_round-requires : goal.take_round-requires
take_round-requires c =
    let ms = members_in c.args.self.now in
    let count = c.guest_count.ensures.count in
    let few = c.guest_count.ensures.few in
    record {
      room = room_after (left_of_all ms) (left_of_all (members_in c.loop-self.self)) c.args.native.now c.loop-self.native
          (first_room ms c.args.native.now c.guest_count.ensures.bounds (omega (arith, count, few)) c.requires.native.0 c.requires.native.1)
          c.loop-self.invariant.far.rises;
    }

pub loop-self-preserved : goal.loop-self-preserved
loop-self-preserved c =
    let s = c.loop-self.self in
    let first = c.args.self.now in
    let more : all_done (members_in s) ≡ false = sym c.is_done.ensures.done ∙ c.loop-self-test.true in
    let slice = c.loop-self.invariant.slice in
    let some = c.is_done.ensures.slice in
    let after = c.take_round.ensures in
    let next = c.next_slice-slice.result in
    record {
      far = one_round first.slice next (members_in first) (members_in s) (members_in c.take_round.new.self) c.args.native.now c.loop-self.native
          c.take_round.new.native (goes_on first.slice next (members_in s) (omega (arith, slice, some)) more
          (subst (λ (n : ℕ). (next ≡ n) ⊎ (going (members_in s) ≤ 1)) slice c.next_slice-slice.ensures.slice))
          after.members c.loop-self.invariant.far after.counts after.rises;
      slice = after.slice ∙ slice;
      again = λ done. absurd (
          let same = ap (λ (h : HostState). all_done (members_in h)) (c.loop-self.invariant.again done).0 in
          let e : false ≡ true = sym more ∙ same ∙ done in cc e
          );
    }

pub returns-clause-rounds : goal.returns-clause-rounds
returns-clause-rounds c =
    let done : all_done (members_in c.loop-self.self) ≡ true = sym c.is_done.ensures.done ∙ c.loop-self-test.false in
    (run_ends c.args.self.now.slice (members_in c.args.self.now) (members_in c.loop-self.self) c.args.native.now c.loop-self.native done
    c.loop-self.invariant.far).0

pub returns-clause-counts : goal.returns-clause-counts
returns-clause-counts c =
    let done : all_done (members_in c.loop-self.self) ≡ true = sym c.is_done.ensures.done ∙ c.loop-self-test.false in
    (run_ends c.args.self.now.slice (members_in c.args.self.now) (members_in c.loop-self.self) c.args.native.now c.loop-self.native done
    c.loop-self.invariant.far).1

pub returns-clause-machines : goal.returns-clause-machines
returns-clause-machines c =
    let first = c.args.self.now in
    let slice = c.is_done.ensures.slice in
    let same = c.loop-self.invariant.slice in
    ap machines_of (returns-clause-rounds c) ∙ machines_end first.slice (members_in first) (omega (arith, slice, same))

pub returns-clause-tallies : goal.returns-clause-tallies
returns-clause-tallies c =
    let first = c.args.self.now in
    let slice = c.is_done.ensures.slice in
    let same = c.loop-self.invariant.slice in
    ap tallies_of (returns-clause-rounds c) ∙ tallies_end first.slice (members_in first) (omega (arith, slice, same))

pub returns-clause-few : goal.returns-clause-few
returns-clause-few c =
    let count = c.guest_count.ensures.count in
    let few = c.guest_count.ensures.few in
    rises_few (members_in c.args.self.now) (left_of_all (members_in c.loop-self.self)) c.args.native.now c.loop-self.native
    c.guest_count.ensures.bounds (omega (arith, count, few)) c.loop-self.invariant.far.rises
