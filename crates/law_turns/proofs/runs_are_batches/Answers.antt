use Rattle.law_turns.proofs.Batch as batch_laws
use Rattle.law_turns.proofs.runs_are_batches.Goals as goal

pub returns : goal.returns
returns c = batch_laws.runs_are_batches
