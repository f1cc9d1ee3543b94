use Rattle.std.proofs.lemmas.Result.{err_from_is_err_and}
use Rattle.mb_model.specs.Seen.{seen_of}
use Rattle.vm_slices.specs.Members.{shown_of}
use Rattle.vm_slices.specs.Places.{members_in}
use Rattle.mb_program.specs.Answers.{summary_line}
use Rattle.mb_ends.proofs.TextLemmas.{cut_more, printed_more}
use Rattle.mb_program.proofs.generated.write_lines.Goals as goal

pub loop-index-preserved : goal.loop-index-preserved
loop-index-preserved g c =
    printed_more summary_line c.loop-index.index (shown_of (members_in c.args.host.now)) (seen_of c.outcome.result) c.outcome.ensures.shown
    c.loop-index.invariant c.in_ok-write_line.ensures

pub returns-in_err-write_line : goal.returns-in_err-write_line
returns-in_err-write_line g c =
    let p = err_from_is_err_and c.from_residual.result c.from_residual.ensures.1 in
    rw p.1 (cut_more summary_line c.loop-index.index (shown_of (members_in c.args.host.now)) (seen_of c.outcome.result) c.outcome.ensures.shown
    c.loop-index.invariant c.in_err-write_line.ensures)
