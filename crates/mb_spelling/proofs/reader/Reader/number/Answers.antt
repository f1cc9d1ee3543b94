use Rattle.std.proofs.Common.{◌≡◌, ◌-◌, suc, arith}
use Rattle.mb_spelling.proofs.NumberSteps.{number_on, number_handed, number_fits, number_room, number_done}
use Rattle.mb_spelling.proofs.reader.Reader.number.Goals as goal

pub digit-requires-clause-fits : goal.digit-requires-clause-fits
digit-requires-clause-fits g c =
    let one : c.loop-more.more ≡ suc (c.loop-more.more - 1) = omega (arith, c.loop-more-test.true) in
    number_fits _ _ _ _ _ _ _ c.loop-more.invariant one c.requires

pub returns-in_err-digit-clause-reads : goal.returns-in_err-digit-clause-reads
returns-in_err-digit-clause-reads g c =
    let one : c.loop-more.more ≡ suc (c.loop-more.more - 1) = omega (arith, c.loop-more-test.true) in
    number_handed c.from_residual.result c.in_err-digit.field-0.0 (g.N.Admits.numbers c.args.numbers.now) c.args.self.now c.loop-more.self c.digit.new.self.left
    c.args.digits c.loop-more.more (c.loop-more.more - 1) c.loop-more.value c.from_residual.ensures.0 c.from_residual.ensures.1
    c.loop-more.invariant one c.in_err-digit.ensures.reads

pub overflow_mul-value : goal.overflow_mul-value
overflow_mul-value g c = let h = number_room _ _ _ _ _ _ c.loop-more.invariant c.loop-more-test.true c.requires in omega (arith, h)

pub overflow_add-value : goal.overflow_add-value
overflow_add-value g c =
    let h = number_room _ _ _ _ _ _ c.loop-more.invariant c.loop-more-test.true c.requires in omega (arith, h, c.in_ok-digit.ensures.small)

pub loop-more-preserved : goal.loop-more-preserved
loop-more-preserved g c =
    let one : c.loop-more.more ≡ suc (c.loop-more.more - 1) = omega (arith, c.loop-more-test.true) in
    number_on _ _ _ _ _ _ _ _ _ c.loop-more.invariant one c.in_ok-digit.ensures.reads c.in_ok-digit.ensures.small c.in_ok-digit.ensures.admitted
    c.digit.ensures.lines

pub returns-clause-reads : goal.returns-clause-reads
returns-clause-reads g c =
    number_done (g.N.Admits.numbers c.args.numbers.now) c.args.self.now c.loop-more.self c.args.digits c.loop-more.more c.loop-more.value c.loop-more.invariant
    (omega (arith, c.loop-more-test.false))
