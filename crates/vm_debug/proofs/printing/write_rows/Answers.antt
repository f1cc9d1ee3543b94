use Rattle.std.proofs.Common.{◌≡◌, ◌+◌, ◌-◌, rules, arith}
use Rattle.vm_debug.proofs.Rows.{rows_first, rows_next, rows_out, rows_done}
use Rattle.vm_debug.proofs.printing.write_rows.Goals as goal

pub loop-row-init : goal.loop-row-init
loop-row-init g c = record { rows = rows_first _ _ _ _ _ _; place = search rules }

pub loop-row-preserved : goal.loop-row-preserved
loop-row-preserved g c =
    let place = c.loop-row.place in
    let width : place + 16 - place ≡ 16 = omega arith in record {
      rows = rows_next c.loop-row-test.true c.if-place-ram.false c.loop-row.invariant.rows (rw width at c.write_row.ensures);
      place = omega arith;
    }

pub returns-then-place-ram : goal.returns-then-place-ram
returns-then-place-ram g c =
    rows_out c.loop-row-test.true c.if-place-ram.true c.loop-row.invariant.rows (rw c.hex8.ensures at c.write_word.ensures)

pub returns : goal.returns
returns g c = rows_done c.loop-row-test.false c.loop-row.invariant.rows
