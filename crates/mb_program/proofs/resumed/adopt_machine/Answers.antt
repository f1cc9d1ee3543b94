use Rattle.std.proofs.Common.{◌≡◌, ◌∙◌, ◌-◌, List, length, ap, sym, subst, arith}
use Rattle.std.specs.Prelude.{IfSome, slice_get}
use Rattle.def_guests.specs.Rounds.{Member}
use Rattle.vm_slices.specs.Adopting.{CanAdopt, begun}
use Rattle.vm_slices.specs.Places.{members_in, with_member}
use Rattle.mb_program.specs.Saved.{disked, left_said}
use Rattle.mb_program.proofs.ResumeLemmas.{adopts, becomes, count_with, has_none}
use Rattle.mb_program.proofs.resumed.adopt_machine.Goals as goal

pub attach_disk-requires-clause-diskless : goal.attach_disk-requires-clause-diskless
attach_disk-requires-clause-diskless c =
    has_none (left_said c.args.machine) (c.args.number - 1) (members_in c.args.host.now) c.requires.can

pub adopt-requires-clause-number : goal.adopt-requires-clause-number
adopt-requires-clause-number c =
    let same : length (members_in c.attach_disk.new.host) ≡ length (members_in c.args.host.now) =
    ap (λ (ms : List Member). length ms) c.attach_disk.ensures.members
    ∙ count_with (c.args.number - 1) (disked c.args.machine.disk) (members_in c.args.host.now) in
    let some = c.requires.number.0 in
    let there = c.requires.number.1 in
    (omega arith, omega arith)

pub adopt-requires-clause-can : goal.adopt-requires-clause-can
adopt-requires-clause-can c =
    let left = left_said c.args.machine in
    let k = c.args.number - 1 in
    subst (λ (ms : List Member). IfSome (slice_get ms k) (CanAdopt left.saved)) (sym c.attach_disk.ensures.members)
    (adopts left k (members_in c.args.host.now) c.requires.can)

pub returns-clause-members : goal.returns-clause-members
returns-clause-members c =
    let left = left_said c.args.machine in
    let k = c.args.number - 1 in
    c.adopt.ensures.adopted
    ∙ ap (λ (ms : List Member). with_member k (begun left.saved) ms) c.attach_disk.ensures.members
    ∙ becomes left k (members_in c.args.host.now)
