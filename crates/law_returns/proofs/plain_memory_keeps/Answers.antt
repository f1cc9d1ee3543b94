use Rattle.law_returns.proofs.Plain as plain
use Rattle.law_returns.proofs.plain_memory_keeps.Goals as goal

pub returns : goal.returns
returns c = plain.plain_memory_keeps
