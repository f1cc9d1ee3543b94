use Rattle.std.proofs.Common.{◌∙◌}
use Rattle.std.specs.Prelude.{codes, decimal}
use Rattle.mb_outside.proofs.PrintLemmas.{prints_more}
use Rattle.mb_ends.proofs.diagnosis.say_oversize.Goals as goal

pub returns : goal.returns
returns g c =
    let needed = c.as_bytes.ensures.value ∙ c.format.ensures.text in
    let had = c.as_bytes-2.ensures.value ∙ c.format-2.ensures.text in
    let numbered = prints_more c.put_all-begun.result c.put_more-numbered.result _ _ _ _ _ _ (codes "mbx: oversize need ") (decimal c.args.need)
    c.put_all-begun.ensures (rw needed at c.put_more-numbered.ensures) in
    let parted = prints_more c.put_more-numbered.result c.put_more-parted.result _ _ _ _ _ _ _ (codes " have ") numbered c.put_more-parted.ensures in
    let told = prints_more c.put_more-parted.result c.put_more-told.result _ _ _ _ _ _ _ (decimal c.args.have)
    parted (rw had at c.put_more-told.ensures) in
    prints_more c.put_more-told.result c.put_more.result _ _ _ _ _ _ _ (codes "\n") told c.put_more.ensures
