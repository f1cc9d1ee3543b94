use Rattle.std.proofs.Common.{◌≡◌, ℕ, suc, ◌-◌, refl, arith}
use Rattle.mb_spelling.proofs.Loops.{times_begun, times_on, times_done}
use Rattle.vm_snapshot.specs.Memory.{dump_byte, next_column}
use Rattle.vm_snapshot.proofs.Handed.{handed_on}
use Rattle.vm_snapshot.proofs.Loops.{one_less, pushed_count, times_stops}
use Rattle.vm_snapshot.proofs.dump_reading.dump.Goals as goal

pub loop-left-init : goal.loop-left-init
loop-left-init c =
    record {
      going = times_begun dump_byte next_column _ _ _ _ _ refl c.new-bytes.ensures.items;
      small = omega arith;
      all = rw c.new-bytes.ensures.items
          (omega arith);
    }

pub loop-left-preserved : goal.loop-left-preserved
loop-left-preserved c =
    let l = c.loop-left in
    let one : l.left ≡ suc (l.left - 1) = omega (arith, c.loop-left-test.true) in
    record {
      going =
          times_on dump_byte next_column _ _ _ _ _ _ _ _ _ _ _ l.invariant.going one (rw c.ends_row.ensures at c.in_ok-next.ensures.reads)
          c.byte_in.ensures.lines c.in_ok-push.ensures.items;
      small = omega arith;
      all = pushed_count _ _ _ _ _ l.invariant.all c.loop-left-test.true c.in_ok-push.ensures.items;
    }

pub returns-in_err-next-clause-reads : goal.returns-in_err-next-clause-reads
returns-in_err-next-clause-reads c =
    let l = c.loop-left in
    handed_on _ (λ (b : ℕ). b) c.from_residual.result c.in_err-next.field-0.0 _ ((dump_byte (l.left - 1) l.column).read l.reader.left) _
    c.from_residual.ensures.0 c.from_residual.ensures.1 (rw c.ends_row.ensures at c.in_err-next.ensures.reads)
    (times_stops dump_byte next_column _ _ _ _ _ _ _ _ l.invariant.going (one_less l.left c.loop-left-test.true))

pub returns-clause-reads : goal.returns-clause-reads
returns-clause-reads c =
    let l = c.loop-left in
    times_done dump_byte next_column _ _ _ _ _ _ _ l.invariant.going (omega (arith, c.loop-left-test.false))
