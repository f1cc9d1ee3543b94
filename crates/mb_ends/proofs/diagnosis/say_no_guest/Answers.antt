use Rattle.std.proofs.Common.{◌∙◌}
use Rattle.std.specs.Prelude.{codes, decimal}
use Rattle.mb_outside.proofs.PrintLemmas.{more_more}
use Rattle.mb_ends.proofs.diagnosis.say_no_guest.Goals as goal

pub returns : goal.returns
returns g c =
    let number = c.as_bytes.ensures.value ∙ c.format.ensures.text in
    let numbered = more_more c.args.so_far c.put_more-begun.result c.put_more-numbered.result _ _ _ _ _ _ (codes " no guest ") (decimal c.args.guest)
    c.put_more-begun.ensures (rw number at c.put_more-numbered.ensures) in
    more_more c.args.so_far c.put_more-numbered.result c.put_more.result _ _ _ _ _ _ _ (codes "\n") numbered c.put_more.ensures
