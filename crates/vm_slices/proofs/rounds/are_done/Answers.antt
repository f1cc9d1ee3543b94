use Rattle.std.proofs.Common.{◌≡◌, ◌∙◌, ◌+◌, Bool, true, false, drop, ap, sym, arith}
use Rattle.std.specs.Prelude.{◌&&◌}
use Rattle.def_guests.specs.Rounds.{is_done, all_done}
use Rattle.vm_slices.specs.Places.{member_of, members_of}
use Rattle.vm_slices.proofs.Places.{seated_at, done_from, none_behind}
use Rattle.vm_slices.proofs.rounds.are_done.Goals as goal

pub is_done-requires : goal.is_done-requires
is_done-requires c =
    seated_at c.args.guests.now c.args.board.now.world.ram c.loop-guest.guest-index c.guest-item.result c.requires
    c.loop-guest-test.true c.guest-item.is

pub loop-guest-preserved : goal.loop-guest-preserved
loop-guest-preserved c =
    let gs = c.args.guests.now in
    let ram = c.args.board.now.world.ram in
    let i = c.loop-guest.guest-index in
    let own : is_done (member_of ram c.guest-item.result) ≡ true = sym c.is_done.ensures ∙ c.if-not-is_done.false in
    sym (done_from gs ram i c.guest-item.result c.loop-guest-test.true c.guest-item.is
    ∙ ap (λ (b : Bool). b && all_done (members_of (drop (i + 1) gs) ram)) own)
    ∙ c.loop-guest.invariant

pub returns-then-not-is_done : goal.returns-then-not-is_done
returns-then-not-is_done c =
    let gs = c.args.guests.now in
    let ram = c.args.board.now.world.ram in
    let i = c.loop-guest.guest-index in
    let own : is_done (member_of ram c.guest-item.result) ≡ false = sym c.is_done.ensures ∙ c.if-not-is_done.true in
    sym (done_from gs ram i c.guest-item.result c.loop-guest-test.true c.guest-item.is
    ∙ ap (λ (b : Bool). b && all_done (members_of (drop (i + 1) gs) ram)) own)
    ∙ c.loop-guest.invariant

pub returns : goal.returns
returns c =
    sym (none_behind c.args.guests.now c.args.board.now.world.ram c.loop-guest.guest-index (omega arith)) ∙ c.loop-guest.invariant
