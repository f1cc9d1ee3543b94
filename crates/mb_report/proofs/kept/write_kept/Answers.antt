use Rattle.mb_report.proofs.BufferLemmas.{buffers_then}
use Rattle.mb_report.proofs.kept.write_kept.Goals as goal

pub returns : goal.returns
returns g c =
    let letter = rw c.space_letter.ensures at c.add.ensures in
    let page = rw c.hex5.ensures at c.add-2.ensures in
    let frame = rw c.hex5-2.ensures at c.add-4.ensures in
    let digit = rw (c.hex_digit.ensures, c.flags.ensures.flags) at c.add-5.ensures in
    buffers_then (buffers_then (buffers_then (buffers_then letter page) c.add-3.ensures) frame) digit
