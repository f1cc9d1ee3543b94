use Rattle.std.proofs.Common.{◌-◌, ◌≤◌, length}
use Rattle.vm_debug.proofs.printing.kept_count.Given as goal

abbrev pub invariant-loop-count : goal.invariant-loop-count
invariant-loop-count l = l.count ≤ length l.guest.kept

abbrev pub decreases-loop-count : goal.decreases-loop-count
decreases-loop-count l = length l.guest.kept - l.count
