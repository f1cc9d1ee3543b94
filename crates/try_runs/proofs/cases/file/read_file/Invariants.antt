-- Each line that has a case was put to one list or the other, or is still to come.
use Rattle.std.proofs.Common.{◌≡◌, ◌+◌, length, vec_len}
use Rattle.mb_lines.specs.Lines.{left}
use Rattle.try_runs.specs.Files.{cases_among, count_of}
use Rattle.try_runs.proofs.cases.file.read_file.Given as goal

abbrev pub invariant-loop-line : goal.invariant-loop-line
invariant-loop-line l = record {
  counted : vec_len l.file.cases + vec_len l.file.bad + cases_among (left l.lines) ≡ count_of l.text;
}

abbrev pub decreases-loop-line : goal.decreases-loop-line
decreases-loop-line l = length (left l.lines)
