use Rattle.std.proofs.Common.{arith}
use Rattle.mb_words.proofs.WordLemmas.{is_long, is_short}
use Rattle.mb_words.proofs.values.hex.Goals as goal

pub overflow_mul-value : goal.overflow_mul-value
overflow_mul-value c =
    let short = is_short c.loop-byte.value c.loop-byte.byte-index c.loop-byte.invariant.small (omega arith) in
    omega arith

pub overflow_add-value : goal.overflow_add-value
overflow_add-value c =
    let digit = c.in_ok-digit.ensures.small in
    let same = c.from.ensures in
    let short = is_short c.loop-byte.value c.loop-byte.byte-index c.loop-byte.invariant.small (omega arith) in
    omega arith

pub overflow_cast-result : goal.overflow_cast-result
overflow_cast-result c =
    let long = is_long c.loop-byte.value c.loop-byte.byte-index c.loop-byte.invariant.small (omega arith) in
    omega arith
