use Rattle.std.proofs.Common.{refl, arith}
use Rattle.mb_board.proofs.Followed.{flow_uncounted}
use Rattle.mb_board.proofs.following.Digits.of.Goals as goal

pub returns : goal.returns
returns c =
    flow_uncounted c.args.registers.now c.args.spelled c.flow_of.result _ c.requires (let few = c.flow_of.ensures.few in omega arith)
    c.flow_of.ensures.means refl
