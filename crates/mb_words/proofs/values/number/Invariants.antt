use Rattle.std.proofs.Common.{◌≡◌, ◌<◌, ◌^◌, ◌≤◌, drop, length}
use Rattle.mb_script.specs.Words.{digits_after}
use Rattle.mb_words.proofs.values.number.Given as goal

abbrev pub invariant-loop-digit : goal.invariant-loop-digit
invariant-loop-digit l = record {
  reads : digits_after l.value (drop l.digit-index l.digits) ≡ digits_after 0 l.digits;
  small : l.value < 10 ^ l.digit-index;
  short : length l.digits ≤ 10;
}
