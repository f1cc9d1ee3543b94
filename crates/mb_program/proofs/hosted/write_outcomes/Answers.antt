use Rattle.std.specs.Prelude.{◌-◌, ◌+◌}
use Rattle.std.proofs.lemmas.Result.{err_from_is_err_and}
use Rattle.mb_model.specs.Seen.{seen_of}
use Rattle.vm_slices.specs.Members.{machines_of}
use Rattle.vm_slices.specs.Places.{members_in}
use Rattle.mb_program.specs.Headline.{machine_text}
use Rattle.mb_program.proofs.MachineLemmas.{machine_at, text_at}
use Rattle.mb_ends.proofs.TextLemmas.{cut_as, cut_more, printed_as, printed_more}
use Rattle.mb_program.proofs.hosted.write_outcomes.Goals as goal

pub loop-index-preserved : goal.loop-index-preserved
loop-index-preserved g c =
    let k = c.loop-index.index in
    let members = members_in c.args.host.now in
    let at = machine_at members (k + 1 - 1) (seen_of c.outcome.result) c.devices.result.now c.outcome.ensures.shown c.devices.ensures in
    printed_more machine_text k (machines_of members) at.machine at.there c.loop-index.invariant
    (printed_as (text_at (k + 1) at.machine (seen_of c.outcome.result) c.devices.result.now _ at.shows at.devices_are c.disk.ensures)
    c.in_ok-write_machine.ensures)

pub returns-in_err-write_machine : goal.returns-in_err-write_machine
returns-in_err-write_machine g c =
    let k = c.loop-index.index in
    let members = members_in c.args.host.now in
    let at = machine_at members (k + 1 - 1) (seen_of c.outcome.result) c.devices.result.now c.outcome.ensures.shown c.devices.ensures in
    let p = err_from_is_err_and c.from_residual.result c.from_residual.ensures.1 in
    rw p.1 (cut_more machine_text k (machines_of members) at.machine at.there c.loop-index.invariant
    (cut_as (text_at (k + 1) at.machine (seen_of c.outcome.result) c.devices.result.now _ at.shows at.devices_are c.disk.ensures)
    c.in_err-write_machine.ensures))
