use Rattle.std.proofs.Common.{◌≡◌, ◌≤◌, ◌-◌, ◌+◌, length}
use Rattle.mb_writes.specs.Transfers.{set_bits, count_of}
use Rattle.mb_writes.proofs.transfers.count.Given as goal

abbrev pub invariant-loop-bit : goal.invariant-loop-bit
invariant-loop-bit l = record {
  told : l.named + length (set_bits l.mask l.bit (16 - l.bit)) ≡ count_of l.mask;
  few : l.named ≤ l.bit;
}
