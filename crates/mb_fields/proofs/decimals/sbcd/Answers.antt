use Rattle.std.proofs.Common.{◌≡◌, ◌%◌, ◌∙◌, sym, ap, bit_and, arith}
use Rattle.std.proofs.lemmas.Nat.{and_mask}
use Rattle.std.specs.Int.{from_bool}
use Rattle.mb_alu.specs.declared.conditions.Conditions.{Conditions}
use Rattle.mb_fields.specs.Decimals.{extend_bit}
use Rattle.mb_fields.proofs.Borrows.{difference_is, borrows_is, flagged_same}
use Rattle.mb_fields.proofs.Digits.{difference_law}
use Rattle.mb_fields.proofs.decimals.sbcd.Goals as goal

pub returns-clause-means : goal.returns-clause-means
returns-clause-means c =
    let x : bit_and c.args.x 15 ≡ c.args.x % 16 = and_mask c.args.x 4 in
    let y : bit_and c.args.y 15 ≡ c.args.y % 16 = and_mask c.args.y 4 in
    let extend : c.from-extend.result ≡ extend_bit c.args.ccr = c.from-extend.ensures ∙ ap (λ (codes : Conditions). from_bool codes.x) c.of.ensures in
    c.with_conditions.ensures.means
    ∙ flagged_same _ _ _ _ c.args.ccr
    (rw (c.from.ensures, c.from-2.ensures, c.from-x.ensures, c.from-y.ensures, extend, x, y)
    (and_mask _ 8 ∙ sym (difference_is c.args.x c.args.y c.args.ccr (omega arith) (omega arith))))
    (rw (c.from-x.ensures, c.from-y.ensures, extend) (sym (borrows_is c.args.x c.args.y c.args.ccr)))

pub returns-clause-decimal : goal.returns-clause-decimal
returns-clause-decimal c = λ x y.
    rw (returns-clause-means c) (difference_law c.args.x c.args.y c.args.ccr (omega arith) (omega arith) x y)
