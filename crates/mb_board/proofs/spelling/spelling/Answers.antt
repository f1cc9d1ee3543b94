use Rattle.std.proofs.Common.{rules}
use Rattle.mb_board.proofs.Spellings.{sum-is_spelled}
use Rattle.mb_board.proofs.spelling.spelling.Goals as goal

pub returns : goal.returns
returns c =
    let pc = c.from.ensures in
    let ccr = c.from-2.ensures in
    sum-is_spelled c.args.registers.now _ c.with_eight.result c.with_eight-2.result c.with_eight.ensures.eight c.with_eight-2.ensures.eight
    c.with_eight.ensures.longs c.with_eight-2.ensures.longs (search rules) c.with_eight.ensures.means c.with_eight-2.ensures.means (cc)
