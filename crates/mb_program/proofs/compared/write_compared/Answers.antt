use Rattle.std.proofs.Common.{◌∙◌, cond}
use Rattle.std.specs.Prelude.{codes, decimal}
use Rattle.mb_outside.proofs.PrintLemmas.{prints_more}
use Rattle.mb_program.proofs.compared.write_compared.Goals as goal

pub returns : goal.returns
returns g c =
    let digits = c.as_bytes.ensures.value ∙ c.format.ensures.text in
    let numbered = prints_more c.put_all-begun.result c.put_more-numbered.result _ _ _ _ _ _ (codes "guest ") (decimal c.args.number)
    c.put_all-begun.ensures (rw digits at c.put_more-numbered.ensures) in
    prints_more c.put_more-numbered.result c.put_more.result _ _ _ _ _ _ _ (cond c.args.is_same (codes " same\n") (codes " differs\n"))
    numbered (rw c.finding.ensures at c.put_more.ensures)
