use Rattle.mb_outside.proofs.PrintLemmas.{prints_more}
use Rattle.mb_ends.specs.Lines.{named_file, why_text}
use Rattle.mb_ends.proofs.diagnosis.say_refused.Goals as goal

pub returns : goal.returns
returns g c =
    prints_more c.name_file-begun.result c.say_why.result _ _ _ _ _ _ (named_file c.args.name.now) (why_text c.args.why)
    c.name_file-begun.ensures c.say_why.ensures
