use Rattle.mb_gen.proofs.session.guest.Goals as goal

pub returns-clause-guest : goal.returns-clause-guest
returns-clause-guest c = cc (c.new-2.ensures, c.in_ok-image.ensures.image, c.new-script.ensures, c.new.ensures.items)
