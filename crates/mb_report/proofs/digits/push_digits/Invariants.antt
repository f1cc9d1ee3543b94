use Rattle.std.proofs.Common.{◌≡◌, ◌++◌, ◌+◌, ◌*◌, take, length}
use Rattle.mb_report.specs.Digits.{digits}
use Rattle.mb_report.proofs.digits.push_digits.Given as goal

abbrev pub invariant-loop-byte : goal.invariant-loop-byte
invariant-loop-byte g l = record {
  filled : l.line.items ≡ l.initial.line.items ++ digits (take l.byte-index l.bytes);
  room : length l.line.items ≡ length l.initial.line.items + 2 * l.byte-index;
}
