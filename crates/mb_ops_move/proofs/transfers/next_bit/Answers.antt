use Rattle.std.proofs.Common.{ℕ, ◌/◌, ◌^◌, ◌∙◌, ap, sym}
use Rattle.mb_ops_move.proofs.Named.{none_left, lowest}
use Rattle.mb_ops_move.proofs.transfers.next_bit.Goals as goal

pub returns-then-left-eq0-clause-none : goal.returns-then-left-eq0-clause-none
returns-then-left-eq0-clause-none c =
    none_left c.args.mask c.args.from (ap (λ (n : ℕ). n / 2 ^ c.args.from) (sym c.from.ensures) ∙ c.if-left-eq0.true)

pub returns-else-left-eq0-clause-next : goal.returns-else-left-eq0-clause-next
returns-else-left-eq0-clause-next c =
    let next = lowest c.args.mask c.args.from (c.from.result / 2 ^ c.args.from) c.ranges.mask.fits
    (ap (λ (n : ℕ). n / 2 ^ c.args.from) c.from.ensures) c.if-left-eq0.false in
    next.is

pub returns-else-left-eq0-clause-range : goal.returns-else-left-eq0-clause-range
returns-else-left-eq0-clause-range c =
    let next = lowest c.args.mask c.args.from (c.from.result / 2 ^ c.args.from) c.ranges.mask.fits
    (ap (λ (n : ℕ). n / 2 ^ c.args.from) c.from.ensures) c.if-left-eq0.false in
    next.within
