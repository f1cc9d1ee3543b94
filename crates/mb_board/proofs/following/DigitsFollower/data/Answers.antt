use Rattle.std.proofs.Common.{◌∙◌, sym}
use Rattle.mb_board.proofs.Followed.{data_spelled}
use Rattle.mb_board.proofs.following.DigitsFollower.data.Goals as goal

pub returns : goal.returns
returns c = λ d a one is.
    data_spelled c.args.register d c.args.now.now.d _ _ _ one (sym one.as_many ∙ assumption c.type_inv) c.place_of.ensures
    (rw (sym is) at c.with_digit-self.ensures) (assumption c.with_digit-self) a 0
