use Rattle.mb_statement.proofs.operands.+one_among.Given as goal

abbrev pub decreases-one_among : goal.decreases-one_among
decreases-one_among l = l.n
