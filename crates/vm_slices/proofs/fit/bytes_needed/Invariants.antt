use Rattle.std.proofs.Common.{◌≡◌, ◌+◌, drop}
use Rattle.std.specs.Prelude.{sum_by}
use Rattle.vm_slices.specs.Fit.{share_of, need_of}
use Rattle.vm_slices.proofs.fit.bytes_needed.Given as goal

abbrev pub invariant-loop-guest : goal.invariant-loop-guest
invariant-loop-guest l = l.bytes + sum_by share_of (drop l.guest-index l.guests) ≡ need_of l.guests
