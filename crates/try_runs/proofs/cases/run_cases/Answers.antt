use Rattle.std.proofs.Common.{arith}
use Rattle.try_runs.proofs.PassedLemmas.{one_more, no_more, one_more_among, no_more_among, all_counted}
use Rattle.try_runs.proofs.cases.run_cases.Goals.{in-None, in-Some+in_ok-tell-in-Some}
use Rattle.try_runs.proofs.cases.run_cases.Goals as goal

pub loop-case-preserved : goal.loop-case-preserved
loop-case-preserved g c =
    let among = c.loop-case.invariant.among in
    elim c.match-try_case.branch [
      | in-None w ↦ (let counted = w.passed-is in record {
        passed = one_more c.args.cases.now c.loop-case.case-index c.loop-case.passed c.match-try_case.passed c.case-item.result
            c.try_case.result c.loop-case-test.true c.case-item.is c.try_case.ensures w.in-None.is counted
            c.loop-case.invariant.passed;
        among = one_more_among c.loop-case.case-index c.loop-case.passed c.match-try_case.passed counted among;
      })
      | in-Some+in_ok-tell-in-Some w ↦ (let counted = w.passed-is in record {
        passed = no_more c.args.cases.now c.loop-case.case-index c.loop-case.passed c.match-try_case.passed c.case-item.result
            c.try_case.result _ c.loop-case-test.true c.case-item.is c.try_case.ensures w.in-Some.is counted
            c.loop-case.invariant.passed;
        among = no_more_among c.loop-case.case-index c.loop-case.passed c.match-try_case.passed counted among;
      })
    ]

pub returns-clause-passed : goal.returns-clause-passed
returns-clause-passed g c =
    let ended = c.loop-case-test.false in
    all_counted c.args.cases.now c.loop-case.case-index c.loop-case.passed (omega arith) c.loop-case.invariant.passed
