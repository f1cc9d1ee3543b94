use Rattle.std.proofs.Common.{◌-◌, refl, arith}
use Rattle.mb_spelling.proofs.Loops.{times_begun, times_done, times_on}
use Rattle.vm_snapshot.specs.Parts.{guest_after, guest_at}
use Rattle.vm_snapshot.specs.declared.plan.SnapGuest.{SnapGuest}
use Rattle.vm_snapshot.proofs.Handed.{passed_on}
use Rattle.vm_snapshot.proofs.Loops.{one_less, times_stops}
use Rattle.vm_snapshot.proofs.reading.guests.Goals as goal

pub loop-left-init : goal.loop-left-init
loop-left-init c = record { going = times_begun guest_at guest_after _ _ _ _ _ refl c.new-guests.ensures.items; all = omega arith }

pub loop-left-preserved : goal.loop-left-preserved
loop-left-preserved c =
    let l = c.loop-left in
    record {
      going =
          times_on guest_at guest_after _ _ _ _ _ _ _ _ _ _ _ l.invariant.going (one_less l.left c.loop-left-test.true) c.in_ok-next.ensures.reads
          c.guest.ensures.lines c.in_ok-push.ensures.items;
      all = omega (arith, l.invariant.all, c.loop-left-test.true);
    }

pub returns-in_err-next-clause-reads : goal.returns-in_err-next-clause-reads
returns-in_err-next-clause-reads c =
    let l = c.loop-left in
    passed_on _ (λ (g : SnapGuest). g) c.from_residual.result c.in_err-next.field-0.0 _ ((guest_at (l.left - 1) l.number).read l.reader.left) _
    c.from_residual.ensures.0 c.from_residual.ensures.1 c.in_err-next.ensures.reads
    (times_stops guest_at guest_after _ _ _ _ _ _ _ _ l.invariant.going (one_less l.left c.loop-left-test.true))

pub returns-clause-reads : goal.returns-clause-reads
returns-clause-reads c =
    let l = c.loop-left in
    times_done guest_at guest_after _ _ _ _ _ _ _ l.invariant.going (omega (arith, c.loop-left-test.false))
