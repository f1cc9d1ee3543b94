use Rattle.std.proofs.Common.{◌∙◌, sym}
use Rattle.mb_board.proofs.Followed.{address_spelled}
use Rattle.mb_board.proofs.following.DigitsFollower.address.Goals as goal

pub returns : goal.returns
returns c = λ d a one is.
    address_spelled c.args.register a c.args.now.now.a _ _ _ one (sym one.as_many ∙ assumption c.type_inv) c.place_of.ensures
    (rw (sym is) at c.with_digit-self.ensures) (assumption c.with_digit-self) d 0
