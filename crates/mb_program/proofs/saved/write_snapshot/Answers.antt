use Rattle.std.proofs.lemmas.Result.{err_from_is_err_and}
use Rattle.mb_outside.proofs.PrintLemmas.{part_more}
use Rattle.vm_slices.specs.Places.{members_in}
use Rattle.vm_snapshot.specs.Shown.{head_text}
use Rattle.mb_ends.specs.Texts.{texts_from}
use Rattle.mb_program.specs.Saved.{shown_by, shown_text}
use Rattle.mb_program.proofs.SaveLemmas.{snapshot_is}
use Rattle.mb_ends.proofs.TextLemmas.{printed_before}
use Rattle.mb_program.proofs.saved.write_snapshot.Goals as goal

pub returns-in_err-write_head-clause-prints : goal.returns-in_err-write_head-clause-prints
returns-in_err-write_head-clause-prints g c =
    let members = members_in c.args.host.now in
    let p = err_from_is_err_and c.from_residual.result c.from_residual.ensures.1 in
    rw (p.1, snapshot_is c.args.board c.args.slice c.guest_count.result members c.guest_count.ensures.count)
    (part_more (texts_from shown_text 1 (shown_by members)) c.in_err-write_head.ensures)

pub returns-clause-prints : goal.returns-clause-prints
returns-clause-prints g c =
    let members = members_in c.args.host.now in
    rw (snapshot_is c.args.board c.args.slice c.guest_count.result members c.guest_count.ensures.count)
    (printed_before c.write_guests.result _ _ _ _ _ _ (head_text c.args.board c.args.slice c.guest_count.result)
    (texts_from shown_text 1 (shown_by members)) c.in_ok-write_head.ensures c.write_guests.ensures.prints)
