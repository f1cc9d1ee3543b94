use Rattle.std.proofs.Common.{ℕ, List, ◌∙◌}
use Rattle.std.specs.Prelude.{codes}
use Rattle.mb_spelling.specs.Spelling.{behind}
use Rattle.mb_spelling.specs.Decimals.{from_to, ranged}
use Rattle.mb_spelling.specs.Ends.{read_finish}
use Rattle.mb_spelling.specs.Lists.{read_times}
use Rattle.vm_snapshot.specs.Parts.{guest_after, guest_at}
use Rattle.vm_snapshot.specs.declared.plan.SnapGuest.{SnapGuest}
use Rattle.vm_snapshot.proofs.Counted.{counted_stops, counted_then, ended_stops, finish_stops, finish_then}
use Rattle.vm_snapshot.proofs.Handed.{handed_on, passed_on, stops_as}
use Rattle.vm_snapshot.proofs.reading.all_guests.Goals as goal

pub returns-in_err-count-clause-reads : goal.returns-in_err-count-clause-reads
returns-in_err-count-clause-reads c =
    handed_on _ (λ (n : ℕ). n) c.from_residual.result c.in_err-count.field-0.0 _
    ((behind (codes "guests ") (ranged (from_to 1 16) 10)).read c.args.reader.now.left) _
    c.from_residual.ensures.0 c.from_residual.ensures.1 c.in_err-count.ensures.reads (counted_stops c.args.reader.now.left)

pub returns-in_err-guests-clause-reads : goal.returns-in_err-guests-clause-reads
returns-in_err-guests-clause-reads c =
    let left = c.between.new.reader.left in
    let n = c.in_ok-count.count in
    let r = read_times guest_at guest_after n 1 left in
    passed_on _ (λ (list : List SnapGuest). list) c.from_residual-in_err-guests.result c.in_err-guests.field-0.0 _ r _
    c.from_residual-in_err-guests.ensures.0 c.from_residual-in_err-guests.ensures.1 c.in_err-guests.ensures.reads
    (stops_as (counted_then c.args.reader.now.left left n c.in_ok-count.ensures.least c.in_ok-count.ensures.reads) (ended_stops r))

pub returns-in_err-finish-clause-reads : goal.returns-in_err-finish-clause-reads
returns-in_err-finish-clause-reads c =
    let left = c.between.new.reader.left in
    let n = c.in_ok-count.count in
    let r = read_times guest_at guest_after n 1 left in
    handed_on _ (λ (v : Unit {0}). tt) c.from_residual-in_err-finish.result c.in_err-finish.field-0.0 _ (read_finish c.guests.new.reader.left) _
    c.from_residual-in_err-finish.ensures.0 c.from_residual-in_err-finish.ensures.1 c.in_err-finish.ensures
    (stops_as (counted_then c.args.reader.now.left left n c.in_ok-count.ensures.least c.in_ok-count.ensures.reads)
    (finish_stops r _ c.guests.new.reader.left c.in_ok-guests.ensures.reads))

pub returns-clause-reads : goal.returns-clause-reads
returns-clause-reads c =
    let left = c.between.new.reader.left in
    let n = c.in_ok-count.count in
    let r = read_times guest_at guest_after n 1 left in
    counted_then c.args.reader.now.left left n c.in_ok-count.ensures.least c.in_ok-count.ensures.reads
    ∙ finish_then r _ c.guests.new.reader.left c.in_ok-guests.ensures.reads c.in_ok-finish.ensures
