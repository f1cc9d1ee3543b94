use Rattle.mb_files.proofs.SnapshotLemmas.{answer_faults, answer_known}
use Rattle.mb_files.proofs.files.plan_in.Goals as goal

pub returns-clause-plan : goal.returns-clause-plan
returns-clause-plan c = answer_known c.args.text.now c.read_snapshot.result c.read_snapshot.ensures.answer

pub returns-clause-fault : goal.returns-clause-fault
returns-clause-fault c = answer_faults c.args.text.now c.read_snapshot.result c.read_snapshot.ensures.answer
