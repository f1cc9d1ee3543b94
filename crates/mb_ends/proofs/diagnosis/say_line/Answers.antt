use Rattle.std.proofs.Common.{◌∙◌}
use Rattle.std.specs.Prelude.{codes, decimal}
use Rattle.mb_outside.proofs.PrintLemmas.{more_more}
use Rattle.mb_ends.specs.Lines.{reason_of}
use Rattle.mb_ends.proofs.diagnosis.say_line.Goals as goal

pub returns : goal.returns
returns g c =
    let before = c.args.so_far in
    let digits = c.as_bytes.ensures.value ∙ c.format.ensures.text in
    let numbered = more_more before c.put_more-begun.result c.put_more-numbered.result _ _ _ _ _ _ (codes " line ") (decimal c.args.number)
    c.put_more-begun.ensures (rw digits at c.put_more-numbered.ensures) in
    let parted = more_more before c.put_more-numbered.result c.put_more-parted.result _ _ _ _ _ _ _ (codes ": ") numbered c.put_more-parted.ensures in
    let told = more_more before c.put_more-parted.result c.put_more-told.result _ _ _ _ _ _ _ (reason_of c.args.why)
    parted (rw c.reason.ensures at c.put_more-told.ensures) in
    more_more before c.put_more-told.result c.put_more.result _ _ _ _ _ _ _ (codes "\n") told c.put_more.ensures
