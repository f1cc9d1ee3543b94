use Rattle.std.proofs.Common.{◌∙◌, length}
use Rattle.std.specs.Prelude.{codes, decimal, slice_index}
use Rattle.mb_outside.proofs.PrintLemmas.{prints_more}
use Rattle.mb_report.specs.Digits.{hex8}
use Rattle.mb_report.specs.Text.{state_word}
use Rattle.mb_program.proofs.generated.write_line.Goals as goal

pub returns : goal.returns
returns g c =
    let o = c.args.o.now in
    let number = c.as_bytes.ensures.value ∙ c.format.ensures.text in
    let steps = c.as_bytes-2.ensures.value ∙ c.format-2.ensures.text in
    let sent = c.as_bytes-3.ensures.value ∙ c.format-3.ensures.text in
    let numbered = prints_more c.put_all-begun.result c.put_more-numbered.result _ _ _ _ _ _ (codes "guest ") (decimal c.args.guest)
    c.put_all-begun.ensures (rw number at c.put_more-numbered.ensures) in
    let parted = prints_more c.put_more-numbered.result c.put_more-parted.result _ _ _ _ _ _ _ (codes " ") numbered c.put_more-parted.ensures in
    let standing = prints_more c.put_more-parted.result c.put_more-standing.result _ _ _ _ _ _ _ (state_word o.state)
    parted (rw c.state_word.ensures at c.put_more-standing.ensures) in
    let stepping = prints_more c.put_more-standing.result c.put_more-stepping.result _ _ _ _ _ _ _ (codes " steps ") standing c.put_more-stepping.ensures in
    let stepped = prints_more c.put_more-stepping.result c.put_more-stepped.result _ _ _ _ _ _ _ (decimal o.steps)
    stepping (rw steps at c.put_more-stepped.ensures) in
    let sending = prints_more c.put_more-stepped.result c.put_more-sending.result _ _ _ _ _ _ _ (codes " console ") stepped c.put_more-sending.ensures in
    let sized = prints_more c.put_more-sending.result c.put_more-sized.result _ _ _ _ _ _ _ (decimal (length o.console.now))
    sending (rw sent at c.put_more-sized.ensures) in
    let named = prints_more c.put_more-sized.result c.put_more-named.result _ _ _ _ _ _ _ (codes " D0 ") sized c.put_more-named.ensures in
    let held = prints_more c.put_more-named.result c.put_more-held.result _ _ _ _ _ _ _ (hex8 (slice_index o.cpu.now.regs.d 0))
    named (rw c.hex8.ensures at c.put_more-held.ensures) in
    prints_more c.put_more-held.result c.put_more.result _ _ _ _ _ _ _ (codes "\n") held c.put_more.ensures
