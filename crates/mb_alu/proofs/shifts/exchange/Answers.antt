use Rattle.mb_alu.proofs.Words.{exchanged_is, exchanged-bound}
use Rattle.mb_alu.proofs.shifts.exchange.Goals as goal

pub returns-clause-value : goal.returns-clause-value
returns-clause-value c = exchanged_is c.args.word c.args.bits c.args.lower c.requires.bits c.requires.lower c.requires.word

pub returns-clause-bound : goal.returns-clause-bound
returns-clause-bound c =
    rw (exchanged_is c.args.word c.args.bits c.args.lower c.requires.bits c.requires.lower c.requires.word)
    (exchanged-bound c.args.word c.args.bits c.args.lower c.requires.bits c.requires.lower c.requires.word)
