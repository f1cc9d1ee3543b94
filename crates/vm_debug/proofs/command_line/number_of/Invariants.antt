-- The digits that are left go on from those that were read.
use Rattle.std.proofs.Common.{◌≡◌, ◌<◌, ◌^◌, drop, length}
use Rattle.mb_script.specs.Words.{digits_after}
use Rattle.vm_debug.proofs.command_line.number_of.Given as goal

abbrev pub invariant-loop-digit : goal.invariant-loop-digit
invariant-loop-digit l = record {
  reads : digits_after l.number (drop l.digit-index l.word) ≡ digits_after 0 l.word;
  some : 0 < length l.word;
  bound : l.number < 2 ^ 32;
}
