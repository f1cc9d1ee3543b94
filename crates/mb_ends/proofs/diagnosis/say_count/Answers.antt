use Rattle.std.proofs.Common.{◌∙◌}
use Rattle.std.specs.Prelude.{decimal}
use Rattle.mb_outside.proofs.PrintLemmas.{more_more}
use Rattle.mb_ends.proofs.diagnosis.say_count.Goals as goal

pub returns : goal.returns
returns g c =
    let digits = c.as_bytes.ensures.value ∙ c.format.ensures.text in
    more_more c.args.so_far c.put_more-named.result c.put_more.result _ _ _ _ _ _ c.args.name.now (decimal c.args.count)
    c.put_more-named.ensures (rw digits at c.put_more.ensures)
