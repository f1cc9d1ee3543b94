use Rattle.std.proofs.Common.{◌∙◌, ◌+◌, Bool, true, false, drop, ap, sym, inl, inr, arith}
use Rattle.std.specs.Prelude.{if◌then◌else◌}
use Rattle.vm_slices.specs.Members.{going}
use Rattle.vm_slices.specs.Places.{members_of}
use Rattle.vm_slices.proofs.Places.{seated_at, at_most_one, going_from, none_going, one_found}
use Rattle.vm_slices.proofs.rounds.is_one_left.Goals as goal
use Rattle.vm_slices.proofs.rounds.is_one_left.Goals.{then-not-is_done+else-some, else-not-is_done}

pub is_done-requires : goal.is_done-requires
is_done-requires c =
    seated_at c.args.guests.now c.args.board.now.world.ram c.loop-guest.guest-index c.guest-item.result c.requires
    c.loop-guest-test.true c.guest-item.is

pub loop-guest-init : goal.loop-guest-init
loop-guest-init c = omega arith

pub loop-guest-preserved : goal.loop-guest-preserved
loop-guest-preserved c =
    let gs = c.args.guests.now in
    let ram = c.args.board.now.world.ram in
    let i = c.loop-guest.guest-index in
    let rest = going (members_of (drop (i + 1) gs) ram) in
    one_found c.loop-guest.some c.is_done.result c.if-not-is_done.some rest (going (members_of (drop i gs) ram)) (going (members_of gs ram))
    (elim c.if-not-is_done.branch [
      | then-not-is_done+else-some w ↦ inl (w.if-not-is_done.true, w.if-some.false, w.some-is)
      | else-not-is_done w ↦ inr (w.if-not-is_done.false, w.some-is)
    ])
    (going_from gs ram i c.guest-item.result c.loop-guest-test.true c.guest-item.is
    ∙ ap (λ (b : Bool). (if b then 0 else 1) + rest) (sym c.is_done.ensures))
    c.loop-guest.invariant

pub returns : goal.returns
returns c = λ yes.
    let none = none_going c.args.guests.now c.args.board.now.world.ram c.loop-guest.guest-index (omega arith) in
    at_most_one c.loop-guest.some (going (members_of (drop c.loop-guest.guest-index c.args.guests.now) c.args.board.now.world.ram))
    (going (members_of c.args.guests.now c.args.board.now.world.ram)) none c.loop-guest.invariant
