use Rattle.std.proofs.Common.{◌≡◌, ◌≤◌, ◌-◌, ◌++◌, length}
use Rattle.std.specs.Prelude.{map}
use Rattle.mb_instr.specs.Sizes.{bytes_of}
use Rattle.mb_writes.specs.Transfers.{placed, transfer_step, number_of, set_bits, transfers_of, AreTransfers}
use Rattle.mb_writes.proofs.transfers.Movem.transfers.Given as goal

-- those that are there, and those of the bits that are left, are all
abbrev pub invariant-loop-bit : goal.invariant-loop-bit
invariant-loop-bit l = record {
  told : l.transfers.items
      ++ placed (transfer_step l.self.mode (bytes_of l.self.size)) l.at (map (number_of l.self.mode) (set_bits l.self.mask l.bit (16 - l.bit)))
      ≡ transfers_of l.self l.ea;
  registers : AreTransfers l.transfers.items;
  few : length l.transfers.items ≤ l.bit;
}
