use Rattle.std.proofs.Common.{ℕ, Bool, ◌+◌, ◌&&◌}
use Rattle.std.specs.Int.{from_bool}
use Rattle.mb_instr.specs.Sizes.{low_of}
use Rattle.mb_alu.specs.Conditions.{conditions_of}
use Rattle.mb_alu.proofs.Carries.{carries, sum_overflows, is_negative-cut}
use Rattle.mb_alu.proofs.sums.add.Goals as goal

pub returns-clause-means : goal.returns-clause-means
returns-clause-means c =
    let e : Bool = c.args.extended && (conditions_of c.args.ccr).x in
    let sum : ℕ = low_of c.args.size c.args.y + low_of c.args.size c.args.x + from_bool e in
    cc (carries c.args.size sum, is_negative-cut c.args.size sum, sum_overflows c.args.size c.args.x c.args.y e)
