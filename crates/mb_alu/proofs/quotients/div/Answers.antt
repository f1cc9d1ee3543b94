use Rattle.std.proofs.Common.{◌≡◌, true, false, ◌%◌, ◌==◌, arith, sym, ◌∙◌}
use Rattle.std.proofs.lemmas.Bool.Decides.{nat_tests}
use Rattle.mb_alu.specs.Products.{short_values, quotient_of, remainder_of}
use Rattle.mb_alu.specs.Signs.{fits}
use Rattle.mb_alu.specs.Wholes.{whole_of}
use Rattle.mb_alu.proofs.quotients.div.Goals as goal

pub returns-clause-means : goal.returns-clause-means
returns-clause-means c =
    let there : (c.args.divisor % short_values c.args.width == 0) ≡ false = grind (arith, nat_tests) in
    let q : whole_of c.quotient-quotient.result ≡ quotient_of c.args.signed c.args.width c.args.divisor c.args.dividend = cc in
    let r : whole_of c.remainder.result ≡ remainder_of c.args.signed c.args.width c.args.divisor c.args.dividend = cc in
    let quotient = quotient_of c.args.signed c.args.width c.args.divisor c.args.dividend in
    let room : fits c.args.signed (short_values c.args.width) quotient ≡ true = rw (← q) (sym c.fits.ensures ∙ c.if-not-fits.false) in
    rw (there, room) (rw (← q, ← r) c.done.ensures.means)
