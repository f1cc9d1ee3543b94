use Rattle.std.proofs.Common.{◌-◌, refl, arith}
use Rattle.vm_snapshot.specs.Inputs.{input_line, room_of}
use Rattle.vm_snapshot.specs.Views.{line_seen, so_far_seen}
use Rattle.vm_snapshot.proofs.Handed.{passed_on}
use Rattle.vm_snapshot.proofs.InputLoop.{entering_on, input_begun, input_done, input_stops}
use Rattle.vm_snapshot.proofs.input_reading.entries.Goals as goal

pub loop-left-init : goal.loop-left-init
loop-left-init c =
    record { going = input_begun _ _ _ _ _ refl refl c.new-entries.ensures.items; passed = refl; room = omega (arith, c.requires) }

pub loop-left-preserved : goal.loop-left-preserved
loop-left-preserved c =
    entering_on _ _ _ _ c.loop-left.invariant c.loop-left-test.true c.in_ok-line.ensures.reads c.in_ok-line.ensures.few c.input_line.ensures.lines
    c.behind-so_far.ensures c.in_ok-push_entries.ensures.added

pub loop-left-preserved-in_ok-push_entries : goal.loop-left-preserved-in_ok-push_entries
loop-left-preserved-in_ok-push_entries c =
    entering_on _ _ _ _ c.loop-left.invariant c.loop-left-test.true c.in_ok-line.ensures.reads c.in_ok-line.ensures.few c.input_line.ensures.lines
    c.behind-so_far.ensures c.in_ok-push_entries.ensures.added

pub returns-in_err-line-clause-reads : goal.returns-in_err-line-clause-reads
returns-in_err-line-clause-reads c =
    let l = c.loop-left in
    passed_on _ line_seen c.from_residual.result c.in_err-line.field-0.0 _
    ((input_line (room_of (l.left - 1) (so_far_seen l.so_far)) (so_far_seen l.so_far)).read l.reader.left) _ c.from_residual.ensures.0
    c.from_residual.ensures.1 c.in_err-line.ensures.reads (input_stops l.invariant.going c.loop-left-test.true)

pub returns-clause-reads : goal.returns-clause-reads
returns-clause-reads c = input_done c.loop-left.invariant.going (omega (arith, c.loop-left-test.false))
