use Rattle.mb_srec.proofs.ReadBack.{reads_back}
use Rattle.mb_srec.proofs.writing.written_reads_back.Goals as goal

pub returns : goal.returns
returns c = reads_back
