use Rattle.std.proofs.Common.{arith, length-append, ◌∷◌, [], length}
use Rattle.mb_script.proofs.InRuns.{start_pushed}
use Rattle.mb_script.proofs.runs.serve.Goals as goal

pub loop-starts-preserved : goal.loop-starts-preserved
loop-starts-preserved c =
    let before = c.loop-starts.invariant in
    rw c.in_ok-push.ensures.items (record {
      started = start_pushed c.args.runs.now c.loop-starts.starts.items before.started before.ended;
      ended = λ k d lt. omega (arith, before.ended k d lt, length-append c.loop-starts.starts.items (length c.args.runs.now ∷ []));
    })

pub returns-clause-started : goal.returns-clause-started
returns-clause-started c = c.loop-starts.invariant.started
