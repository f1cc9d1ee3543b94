-- The number so far, with the digits that are left, is the number of all.
use Rattle.std.proofs.Common.{◌≡◌, ◌≤◌, drop}
use Rattle.mb_syntax.specs.Words.{digits_behind}
use Rattle.mb_syntax.proofs.wording.number.Given as goal

abbrev pub invariant-loop-digit : goal.invariant-loop-digit
invariant-loop-digit l = record {
  value : digits_behind l.base l.number (drop l.digit-index l.digits) ≡ digits_behind l.base 0 l.digits;
  small : l.number ≤ 4294967295;
}
