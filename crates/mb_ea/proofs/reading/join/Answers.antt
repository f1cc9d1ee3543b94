use Rattle.std.proofs.Common.{ℕ, ◌*◌, ◌+◌, ◌^◌, ◌<◌, subst, sym, ap, ◌∙◌, arith}
use Rattle.mb_ea.proofs.Joined.{shifted, shifted_range, shifted_fits}
use Rattle.mb_ea.proofs.reading.join.Goals as goal

pub overflow_mul-result-2 : goal.overflow_mul-result-2
overflow_mul-result-2 c =
    let fits = shifted_fits c.args.value c.args.part c.args.len c.args.more c.requires.few c.requires.fits c.requires.value c.requires.part in
    omega arith

pub overflow_add-result : goal.overflow_add-result
overflow_add-result c =
    let same = c.from.ensures in
    let fits = shifted_fits c.args.value c.args.part c.args.len c.args.more c.requires.few c.requires.fits c.requires.value c.requires.part in
    omega arith

pub returns-clause-value : goal.returns-clause-value
returns-clause-value c =
    shifted c.args.value c.from.result c.args.more c.requires.few ∙ ap (λ (n : ℕ). c.args.value * 256 ^ c.args.more + n) c.from.ensures

pub returns-clause-range : goal.returns-clause-range
returns-clause-range c =
    let part = subst (λ (n : ℕ). n < 256 ^ c.args.more) (sym c.from.ensures) c.requires.part in
    shifted_range c.args.value c.from.result c.args.len c.args.more c.requires.few c.requires.value part
