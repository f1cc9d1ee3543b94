use Rattle.std.proofs.Common.{[]}
use Rattle.mb_saved.proofs.Ascending.{one_further}
use Rattle.mb_saved.proofs.lawful.ascend.Goals as goal

pub loop-place-preserved : goal.loop-place-preserved
loop-place-preserved c =
    one_further c.args.lines.now c.loop-place.place (record { at = 0; bytes = [] }) c.loop-place.auto.place c.loop-place-test.true
    c.if-lines-place.false c.loop-place.invariant
