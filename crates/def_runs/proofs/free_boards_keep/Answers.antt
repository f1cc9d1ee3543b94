use Rattle.def_runs.proofs.Accesses.{accesses-use_or_search}
use Rattle.def_runs.proofs.Upkeep.{free-boards_keep}
use Rattle.def_runs.proofs.Fills.{free-boards_fill}
use Rattle.def_runs.proofs.free_boards_keep.Goals as goal

pub returns-clause-access : goal.returns-clause-access
returns-clause-access c = accesses-use_or_search

pub returns-clause-kept : goal.returns-clause-kept
returns-clause-kept c = free-boards_keep

pub returns-clause-found : goal.returns-clause-found
returns-clause-found c = free-boards_fill
