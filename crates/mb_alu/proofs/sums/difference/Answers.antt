use Rattle.std.proofs.Common.{ℕ, Bool, ◌+◌, ◌-◌, ◌&&◌}
use Rattle.std.specs.Int.{from_bool}
use Rattle.mb_instr.specs.Sizes.{low_of, values_of}
use Rattle.mb_alu.specs.Conditions.{conditions_of}
use Rattle.mb_alu.proofs.Carries.{low_of-wrap, low_of-cut, low_of-add_bit, is_negative-cut, difference_overflows}
use Rattle.mb_alu.proofs.sums.difference.Goals as goal

pub returns-clause-value : goal.returns-clause-value
returns-clause-value c =
    let e : Bool = c.args.extended && (conditions_of c.args.ccr).x in
    let t : ℕ = low_of c.args.size c.args.x + from_bool e in
    cc (low_of-wrap c.args.size (low_of c.args.size c.args.y) t (low_of-add_bit c.args.size c.args.x e))

pub returns-clause-codes : goal.returns-clause-codes
returns-clause-codes c =
    let e : Bool = c.args.extended && (conditions_of c.args.ccr).x in
    let t : ℕ = low_of c.args.size c.args.x + from_bool e in
    let d : ℕ = low_of c.args.size c.args.y + values_of c.args.size - t in
    cc (
      low_of-wrap c.args.size (low_of c.args.size c.args.y) t (low_of-add_bit c.args.size c.args.x e),
      low_of-cut c.args.size d,
      is_negative-cut c.args.size d,
      difference_overflows c.args.size c.args.x c.args.y e,
    )
