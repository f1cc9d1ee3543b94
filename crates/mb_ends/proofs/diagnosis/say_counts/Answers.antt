use Rattle.std.proofs.lemmas.Result.{err_from_is_err_and}
use Rattle.vm_guest.specs.Counting.{tally_in}
use Rattle.vm_slices.specs.Members.{tallies_of}
use Rattle.vm_slices.specs.Places.{members_in}
use Rattle.mb_ends.specs.Lines.{counts_line}
use Rattle.mb_ends.proofs.TextLemmas.{cut_more, printed_more}
use Rattle.mb_ends.proofs.diagnosis.say_counts.Goals as goal

pub loop-index-preserved : goal.loop-index-preserved
loop-index-preserved g c =
    printed_more counts_line c.loop-index.index (tallies_of (members_in c.args.host.now)) (tally_in c.counts.result) c.counts.ensures
    c.loop-index.invariant c.in_ok-say_guest.ensures

pub returns-in_err-say_guest : goal.returns-in_err-say_guest
returns-in_err-say_guest g c =
    let p = err_from_is_err_and c.from_residual.result c.from_residual.ensures.1 in
    rw p.1 (cut_more counts_line c.loop-index.index (tallies_of (members_in c.args.host.now)) (tally_in c.counts.result) c.counts.ensures
    c.loop-index.invariant c.in_err-say_guest.ensures)
