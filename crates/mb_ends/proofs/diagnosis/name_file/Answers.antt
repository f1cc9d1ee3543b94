use Rattle.std.specs.Prelude.{codes}
use Rattle.mb_outside.proofs.PrintLemmas.{prints_more}
use Rattle.mb_ends.proofs.diagnosis.name_file.Goals as goal

pub returns : goal.returns
returns g c =
    prints_more c.put_all-begun.result c.put_more.result _ _ _ _ _ _ (codes "mbx: ") c.args.name.now
    c.put_all-begun.ensures (rw c.as_bytes.ensures.value at c.put_more.ensures)
