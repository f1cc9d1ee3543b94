use Rattle.mb_saved.proofs.Lines.{memory_is_given_back, lines_lie_in_memory, lines_ascend}
use Rattle.mb_saved.proofs.lines_tell_memory.Goals as goal

pub returns-clause-back : goal.returns-clause-back
returns-clause-back c = memory_is_given_back

pub returns-clause-inside : goal.returns-clause-inside
returns-clause-inside c = lines_lie_in_memory

pub returns-clause-in_order : goal.returns-clause-in_order
returns-clause-in_order c = lines_ascend
