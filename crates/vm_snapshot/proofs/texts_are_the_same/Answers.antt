use Rattle.vm_snapshot.proofs.Dumps.{dumps_are_rows}
use Rattle.vm_snapshot.proofs.Fronts.{disks_are_written, fronts_are_written}
use Rattle.vm_snapshot.proofs.Memories.{lines_are_memory}
use Rattle.vm_snapshot.proofs.Outcomes.{outcomes_are_written}
use Rattle.vm_snapshot.proofs.texts_are_the_same.Goals as goal

pub returns : goal.returns
returns c = record {
  dumps = dumps_are_rows;
  memory = lines_are_memory;
  outcomes = outcomes_are_written;
  fronts = fronts_are_written;
  disks = disks_are_written;
}
