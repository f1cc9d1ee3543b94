use Rattle.std.proofs.Common.{arith}
use Rattle.vm_slices.proofs.Fits.{shares_from, no_shares}
use Rattle.vm_slices.proofs.fit.bytes_needed.Goals as goal

pub overflow_add-bytes : goal.overflow_add-bytes
overflow_add-bytes c =
    let sum = shares_from c.args.guests.now c.loop-guest.guest-index c.guest-item.result c.loop-guest-test.true c.guest-item.is in
    let so_far = c.loop-guest.invariant in let all = c.requires in omega arith

pub loop-guest-preserved : goal.loop-guest-preserved
loop-guest-preserved c =
    let sum = shares_from c.args.guests.now c.loop-guest.guest-index c.guest-item.result c.loop-guest-test.true c.guest-item.is in
    let so_far = c.loop-guest.invariant in omega arith

pub returns : goal.returns
returns c =
    let none = no_shares c.args.guests.now c.loop-guest.guest-index (omega arith) in
    let so_far = c.loop-guest.invariant in omega arith
