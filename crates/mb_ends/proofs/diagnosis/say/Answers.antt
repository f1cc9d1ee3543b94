use Rattle.mb_outside.proofs.PrintLemmas.{prints_more}
use Rattle.mb_ends.specs.Lines.{named_file}
use Rattle.mb_ends.proofs.diagnosis.say.Goals as goal

pub returns : goal.returns
returns g c =
    prints_more c.name_file-begun.result c.put_more.result _ _ _ _ _ _ (named_file c.args.name.now) c.args.rest.now c.name_file-begun.ensures c.put_more.ensures
