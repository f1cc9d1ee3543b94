use Rattle.std.proofs.Common.{◌≡◌, List, refl, ap, ◌∙◌}
use Rattle.std.specs.Prelude.{map}
use Rattle.mb_spelling.specs.Spelling.{mapped}
use Rattle.vm_snapshot.specs.Guests.{snapshot, snapshot_said}
use Rattle.vm_snapshot.specs.Parts.{all_guests}
use Rattle.vm_snapshot.specs.Plans.{guest_of, plan_of}
use Rattle.vm_snapshot.specs.declared.plan.SnapGuest.{SnapGuest}
use Rattle.vm_snapshot.proofs.Counted.{plan_stops, plan_then, planned}
use Rattle.vm_snapshot.proofs.Handed.{passed_on, stops_as}
use Rattle.vm_snapshot.proofs.reading.plan.Goals as goal

pub returns-in_err-guests-clause-reads : goal.returns-in_err-guests-clause-reads
returns-in_err-guests-clause-reads c =
    let r = all_guests.read c.between.new.reader.left in
    let whole : mapped plan_of (snapshot.read c.args.reader.now.left)
    ≡ mapped plan_of (mapped snapshot_said (mapped (λ v. (c.in_ok-board.board, v)) (mapped (λ v. (c.in_ok-slice.slice, v)) r))) =
    rw (c.in_ok-board.ensures.reads, c.in_ok-slice.ensures.reads) refl in
    passed_on _ (λ (list : List SnapGuest). list) c.from_residual-in_err-guests.result c.in_err-guests.field-0.0 _ (mapped (λ v. map guest_of (v.1)) r) _
    c.from_residual-in_err-guests.ensures.0 c.from_residual-in_err-guests.ensures.1 c.in_err-guests.ensures.reads
    (stops_as whole (plan_stops c.in_ok-board.board c.in_ok-slice.slice r))

pub returns-clause-reads : goal.returns-clause-reads
returns-clause-reads c =
    let r = all_guests.read c.between.new.reader.left in
    let whole : mapped plan_of (snapshot.read c.args.reader.now.left)
    ≡ mapped plan_of (mapped snapshot_said (mapped (λ v. (c.in_ok-board.board, v)) (mapped (λ v. (c.in_ok-slice.slice, v)) r))) =
    rw (c.in_ok-board.ensures.reads, c.in_ok-slice.ensures.reads) refl in
    whole
    ∙ (plan_then c.in_ok-board.board c.in_ok-slice.slice r
    ∙ ap (mapped (planned c.in_ok-board.board c.in_ok-slice.slice)) c.in_ok-guests.ensures.reads)
