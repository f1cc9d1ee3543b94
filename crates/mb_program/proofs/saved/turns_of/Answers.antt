use Rattle.std.proofs.Common.{◌<◌, length, arith}
use Rattle.mb_program.proofs.SaveLemmas.{turn_more}
use Rattle.mb_program.proofs.saved.turns_of.Goals as goal

pub loop-index-preserved : goal.loop-index-preserved
loop-index-preserved c =
    let less : c.loop-index.index < length c.args.guests.now = omega arith in
    let more = turn_more c.args.steps c.loop-index.index c.args.guests.now less in
    cc c.in_ok-push.ensures.items
