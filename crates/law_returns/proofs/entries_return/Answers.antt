use Rattle.law_returns.proofs.Entries.{entry_is_seen}
use Rattle.law_returns.proofs.Taken.{frames_are_taken}
use Rattle.law_returns.proofs.Returned.{entry_is_returned}
use Rattle.law_returns.proofs.entries_return.Goals as goal

pub returns-clause-seen : goal.returns-clause-seen
returns-clause-seen g c = λ bus place view cause cpu s keeps lawful apart done.
    entry_is_seen _ bus place view cause cpu s keeps lawful apart done

pub returns-clause-taken : goal.returns-clause-taken
returns-clause-taken g c = λ bus place view cause cpu back s keeps lawful seen handlers can.
    frames_are_taken _ bus place view cause cpu back s keeps lawful seen handlers can

pub returns-clause-returned : goal.returns-clause-returned
returns-clause-returned g c = λ bus place view cause cpu back s t keeps lawful apart done stay handlers plain.
    entry_is_returned _ bus place view cause cpu back s t keeps lawful apart done stay handlers plain
