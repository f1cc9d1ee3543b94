use Rattle.std.proofs.Common.{◌++◌, take}
use Rattle.mb_outside.proofs.PrintLemmas.{printed_then, regrouped}
use Rattle.mb_outside.proofs.print.put_all.Goals as goal

pub loop-rest-preserved : goal.loop-rest-preserved
loop-rest-preserved g c =
    let i = c.loop-rest.invariant in
    let n = c.in_ok-count.count in (
      i.0 ++ take n c.loop-rest.rest.now,
      regrouped i.0 c.loop-rest.rest.now n c.args.bytes.now c.split_at.result.1.now i.1 c.split_at.ensures.back,
      printed_then i.2 (record { same = c.in_ok-count.ensures.cause; grows = c.in_ok-count.ensures.taken }),
    )
