use Rattle.std.proofs.Common.{refl, arith}
use Rattle.mb_model.specs.declared.kept.Kept.{Kept}
use Rattle.mb_spelling.proofs.Loops.{times_done}
use Rattle.vm_snapshot.specs.Pages.{kept_line, with_kept}
use Rattle.vm_snapshot.proofs.Handed.{handed_on}
use Rattle.vm_snapshot.proofs.KeptSteps.{kept_begun, kept_on}
use Rattle.vm_snapshot.proofs.Loops.{one_less, times_stops}
use Rattle.vm_snapshot.proofs.kept_reading.entries.Goals as goal

pub loop-left-init : goal.loop-left-init
loop-left-init c = kept_begun _ _ _ _ refl c.new-kept.ensures.items

pub loop-left-preserved : goal.loop-left-preserved
loop-left-preserved c =
    let l = c.loop-left in
    kept_on _ _ _ _ _ _ _ _ _ l.invariant (one_less l.left c.loop-left-test.true) (rw c.deref.ensures.value at c.in_ok-next.ensures.reads)
    c.entry.ensures.lines c.in_ok-push.ensures.items

pub returns-in_err-next-clause-reads : goal.returns-in_err-next-clause-reads
returns-in_err-next-clause-reads c =
    let l = c.loop-left in
    handed_on _ (λ (k : Kept). k) c.from_residual.result c.in_err-next.field-0.0 _ ((kept_line l.kept.items).read l.reader.left) _
    c.from_residual.ensures.0 c.from_residual.ensures.1 (rw c.deref.ensures.value at c.in_err-next.ensures.reads)
    (times_stops (λ left kept. kept_line kept) with_kept _ _ _ _ _ _ _ _ l.invariant (one_less l.left c.loop-left-test.true))

pub returns-clause-reads : goal.returns-clause-reads
returns-clause-reads c =
    let l = c.loop-left in
    times_done (λ left kept. kept_line kept) with_kept _ _ _ _ _ _ _ l.invariant (omega (arith, c.loop-left-test.false))
