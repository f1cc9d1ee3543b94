use Rattle.mb_board.proofs.Spellings.{begun_back}
use Rattle.mb_board.proofs.native.Native.retire_all.Goals as goal

pub returns-clause-trail : goal.returns-clause-trail
returns-clause-trail c = λ p after begins spells. begun_back p after c.args.beginning c.args.begun begins spells
