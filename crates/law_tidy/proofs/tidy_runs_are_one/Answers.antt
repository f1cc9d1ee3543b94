use Rattle.law_tidy.proofs.OneWays.{tidy_calls-have_no_choice}
use Rattle.law_tidy.proofs.TidyRuns.{searching-is_free, tidy_runs-search, tidy_runs-are_one, rules-show_the_same, tidy-is_told_same}
use Rattle.law_tidy.proofs.tidy_runs_are_one.Goals as goal

pub returns-clause-calls : goal.returns-clause-calls
returns-clause-calls c = tidy_calls-have_no_choice

pub returns-clause-runs : goal.returns-clause-runs
returns-clause-runs c = tidy_runs-search

pub returns-clause-free : goal.returns-clause-free
returns-clause-free c = searching-is_free

pub returns-clause-one : goal.returns-clause-one
returns-clause-one c = tidy_runs-are_one

pub returns-clause-rules : goal.returns-clause-rules
returns-clause-rules c = rules-show_the_same

pub returns-clause-compared : goal.returns-clause-compared
returns-clause-compared c = tidy-is_told_same
