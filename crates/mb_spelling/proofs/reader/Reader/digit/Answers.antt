use Rattle.std.proofs.Common.{◌<◌, arith}
use Rattle.mb_spelling.proofs.NumberSteps.{digit_fits, digit_small}
use Rattle.mb_spelling.proofs.reader.Reader.digit.Goals as goal

pub overflow_mul-value : goal.overflow_mul-value
overflow_mul-value g c = let h = digit_small c.args.more c.args.value 0 c.requires.more c.requires.fits (omega arith) in omega (arith, h)

pub overflow_add-value : goal.overflow_add-value
overflow_add-value g c =
    let d = c.from-digit.result in
    let small : d < 16 = omega (arith, c.from-digit.ensures, c.hex_value.ensures.small) in
    let h = digit_small c.args.more c.args.value d c.requires.more c.requires.fits small in omega (arith, h)

pub may-requires-clause-fits : goal.may-requires-clause-fits
may-requires-clause-fits g c =
    let d = c.from-digit.result in
    let small : d < 16 = omega (arith, c.from-digit.ensures, c.hex_value.ensures.small) in
    digit_fits c.args.more c.args.value d c.requires.more c.requires.fits small
