-- The digits that are left go on from those that were read.
use Rattle.std.proofs.Common.{◌≡◌, ◌<◌, ◌≤◌, ◌^◌, drop, length}
use Rattle.vm_debug.specs.Commands.{hex_after}
use Rattle.vm_debug.proofs.command_line.address_of.Given as goal

abbrev pub invariant-loop-digit : goal.invariant-loop-digit
invariant-loop-digit l = record {
  reads : hex_after l.address (drop l.digit-index l.word) ≡ hex_after 0 l.word;
  some : 1 ≤ length l.word;
  short : length l.word ≤ 8;
  bound : l.address < 16 ^ l.digit-index;
}
