use Rattle.mb_statement.proofs.text.+push_listed_below.Given as goal

abbrev pub decreases-push_listed_below : goal.decreases-push_listed_below
decreases-push_listed_below l = l.n
