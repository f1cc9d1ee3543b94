use Rattle.law_tidy.proofs.NoChoices.{one_way_calls-have_no_choice}
use Rattle.law_tidy.proofs.OneWays.{one_way-is_least, tidy_calls-are_one_way, tidy_runs-are_one_way}
use Rattle.law_tidy.proofs.TidyRuns.{one_way_runs-search}
use Rattle.law_tidy.proofs.one_way_is_least.Goals as goal

pub returns-clause-least : goal.returns-clause-least
returns-clause-least c = one_way-is_least

pub returns-clause-calls : goal.returns-clause-calls
returns-clause-calls c = one_way_calls-have_no_choice

pub returns-clause-runs : goal.returns-clause-runs
returns-clause-runs c = one_way_runs-search

pub returns-clause-tidy_calls : goal.returns-clause-tidy_calls
returns-clause-tidy_calls c = tidy_calls-are_one_way

pub returns-clause-tidy_runs : goal.returns-clause-tidy_runs
returns-clause-tidy_runs c = tidy_runs-are_one_way
