use Rattle.law_returns.proofs.Movems.{words_say, words_are}
use Rattle.law_returns.proofs.words_are_movems.Goals as goal

pub returns-clause-say : goal.returns-clause-say
returns-clause-say c = words_say

pub returns-clause-are : goal.returns-clause-are
returns-clause-are c = words_are
