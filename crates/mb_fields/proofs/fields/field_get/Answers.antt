use Rattle.std.proofs.Common.{◌≡◌, ◌+◌, ◌-◌, ◌/◌, ◌^◌, arith}
use Rattle.std.proofs.lemmas.Nat.{and_mask}
use Rattle.mb_fields.proofs.fields.field_get.Goals as goal

pub returns-clause-means : goal.returns-clause-means
returns-clause-means c =
    let rest : c.args.bits - c.args.offset - c.args.width ≡ c.args.bits - (c.args.offset + c.args.width) = omega arith in
    rw (c.ones.ensures, rest) (and_mask (c.args.word / 2 ^ (c.args.bits - (c.args.offset + c.args.width))) c.args.width)
