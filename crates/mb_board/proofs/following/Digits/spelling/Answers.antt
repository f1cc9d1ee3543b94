use Rattle.std.proofs.Common.{refl}
use Rattle.mb_board.proofs.Followed.{flow_counted}
use Rattle.mb_board.proofs.following.Digits.spelling.Goals as goal

pub returns : goal.returns
returns c =
    flow_counted c.args.registers.now c.args.self.now.sum c.flow_of.result _ c.fits.ensures.numbers c.fits.ensures.fit c.requires c.flow_of.ensures.means refl
