use Rattle.std.proofs.Common.{◌≡◌, ◌+◌, ◌-◌, arith}
use Rattle.mb_fields.proofs.Parts.{put_together, put_together-below}
use Rattle.mb_fields.proofs.fields.field_put.Goals as goal

pub returns-clause-means : goal.returns-clause-means
returns-clause-means c =
    let rest : c.args.bits - c.args.offset - c.args.width ≡ c.args.bits - (c.args.offset + c.args.width) = omega arith in
    let whole : (c.args.offset + c.args.width) + (c.args.bits - (c.args.offset + c.args.width)) ≡ c.args.bits = omega arith in
    rw (c.from.ensures, c.ones.ensures, c.ones-2.ensures, rest)
    (put_together c.args.word c.args.offset c.args.width (c.args.bits - (c.args.offset + c.args.width)) c.args.value
    (omega arith) (rw whole c.requires.word))

pub returns-clause-bound : goal.returns-clause-bound
returns-clause-bound c =
    let whole : (c.args.offset + c.args.width) + (c.args.bits - (c.args.offset + c.args.width)) ≡ c.args.bits = omega arith in
    rw (returns-clause-means c)
    (rw whole at (put_together-below c.args.word c.args.offset c.args.width (c.args.bits - (c.args.offset + c.args.width)) c.args.value
    (omega arith) (rw whole c.requires.word)))
