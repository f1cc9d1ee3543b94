use Rattle.std.proofs.Common.{List, ℕ, []}
use Rattle.mb_report.proofs.BufferLemmas.{buffers_nothing, buffers_then}
use Rattle.mb_report.proofs.FlatMapLemmas.{flat_map-take}
use Rattle.mb_report.specs.declared.outcome.Line.{Line}
use Rattle.mb_report.specs.declared.outcome.Shown.TheVariants.{Number}
use Rattle.mb_report.specs.Text.{line_text}
use Rattle.mb_report.specs.Lines.{line_of}
use Rattle.mb_report.proofs.outcome.write_lines.Goals as goal

pub loop-line-init : goal.loop-line-init
loop-line-init g c = buffers_nothing _ _ _

pub loop-line-preserved : goal.loop-line-preserved
loop-line-preserved g c =
    let text : Line → List ℕ = λ line. line_text (line_of line) in
    let i = c.loop-line.line-index in
    let missing : Line = record { name = record { ref_ptr = (0, 0); now = [] }; shown = Number 0 } in
    rw (flat_map-take text c.args.lines.now i missing c.loop-line-test.true)
    (buffers_then c.loop-line.invariant c.write_line.ensures)
