-- Each turn adds one line; where memory ends, nothing is left.
use Rattle.std.proofs.Common.{◌≡◌, ◌≤◌, arith}
use Rattle.mb_report.proofs.BufferLemmas.{buffers_nothing, buffers_then}
use Rattle.mb_listing.specs.Answers.{line_said}
use Rattle.mb_listing.proofs.Lines.{begins, goes_on, is_next, no_lines, no_more, one_more}
use Rattle.mb_listing.proofs.listing.write_lines.Goals as goal

pub loop-line-init : goal.loop-line-init
loop-line-init g c = record {
  made = rw (no_lines c.args.ram.now c.args.at) (buffers_nothing _ _ _);
  goes_on = begins c.args.ram.now c.args.at;
}

pub loop-line-preserved : goal.loop-line-preserved
loop-line-preserved g c =
    let next = is_next c.args.ram.now c.args.at c.loop-line._line c.loop-line.place c.as_slice.result.now
    c.words_at-words.result.items (line_said c.line_at-line.result) c.is_empty.result c.loop-line.invariant.goes_on
    c.as_slice.ensures.value c.words_at-words.ensures.words c.is_empty.ensures c.if-is_empty.false
    c.line_at-line.ensures.line in
    let added = rw (c.as_slice-in-loop-line.ensures.value, c.line_text.ensures) at c.add.ensures in
    record {
      made = rw (one_more next) (buffers_then c.loop-line.invariant.made added);
      goes_on = goes_on next;
    }

pub returns-after-loop-line : goal.returns-after-loop-line
returns-after-loop-line g c =
    let all : c.loop-line._line ≡ c.args.count = omega (arith, c.loop-line-test.false) in
    rw (← all) c.loop-line.invariant.made

pub returns-then-is_empty : goal.returns-then-is_empty
returns-then-is_empty g c =
    let within : c.loop-line._line ≤ c.args.count = omega (arith, c.loop-line-test.true) in
    rw (no_more c.args.ram.now c.args.at c.loop-line._line c.loop-line.place c.args.count
    c.words_at-words.result.items c.is_empty.result c.loop-line.invariant.goes_on within
    c.words_at-words.ensures.words c.is_empty.ensures c.if-is_empty.true) c.loop-line.invariant.made
