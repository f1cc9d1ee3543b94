use Rattle.law_leave.proofs.Exits as exits
use Rattle.law_leave.proofs.board_leaves.Goals as goal

pub returns-clause-enters : goal.returns-clause-enters
returns-clause-enters c = exits.board_leaves

pub returns-clause-ready : goal.returns-clause-ready
returns-clause-ready c = exits.frames_leave_ready
