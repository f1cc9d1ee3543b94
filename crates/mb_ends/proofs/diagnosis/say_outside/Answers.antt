use Rattle.std.specs.Prelude.{codes}
use Rattle.mb_outside.proofs.PrintLemmas.{more_more}
use Rattle.mb_report.specs.Digits.{hex8}
use Rattle.mb_ends.proofs.diagnosis.say_outside.Goals as goal

pub returns : goal.returns
returns g c =
    let told = more_more c.args.so_far c.put_more-begun.result c.put_more-told.result _ _ _ _ _ _ (codes " outside ") (hex8 c.args.at)
    c.put_more-begun.ensures (rw c.hex8.ensures at c.put_more-told.ensures) in
    more_more c.args.so_far c.put_more-told.result c.put_more.result _ _ _ _ _ _ _ (codes "\n") told c.put_more.ensures
