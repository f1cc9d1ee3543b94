use Rattle.std.proofs.Common.{◌-◌, [], refl, sym, ap, ◌∙◌, arith}
use Rattle.std.specs.Prelude.{codes}
use Rattle.std.proofs.lemmas.Bool.{lt-ltb, le-ltb}
use Rattle.mb_saved.specs.declared.line.RamLine.{RamLine}
use Rattle.mb_spelling.specs.Spelling.{mapped, read_word}
use Rattle.mb_spelling.proofs.Loops.{AtMark, until_begun, until_on, until_done, marked_read}
use Rattle.mb_spelling.proofs.Loops.AtMark.{full, shut, there}
use Rattle.vm_snapshot.specs.Memory.{row, row_lines}
use Rattle.vm_snapshot.proofs.Handed.{handed_on}
use Rattle.vm_snapshot.proofs.Loops.{one_less, mark_stops, until_stops}
use Rattle.vm_snapshot.proofs.Marks.{row_marked}
use Rattle.vm_snapshot.proofs.memory_reading.memory.Goals.{then-loop-most-test+then-from-rows+else-not-is_at, then-loop-most-test+else-from-rows, else-loop-most-test}
use Rattle.vm_snapshot.proofs.memory_reading.memory.Goals as goal

pub loop-most-init : goal.loop-most-init
loop-most-init c = until_begun (row_lines c.args.rows) _ _ _ _ _ refl c.new-lines.ensures.items

pub loop-most-preserved : goal.loop-most-preserved
loop-most-preserved c =
    let one = one_less c.loop-most.most c.loop-most-test.true in
    until_on (row_lines c.args.rows) 101 _ _ _ _ _ _ _ _ _ _ _ (row_marked c.args.rows) c.loop-most.invariant one (lt-ltb _ _ c.if-from-rows.true)
    (sym c.is_at.ensures ∙ c.if-not-is_at.true) c.in_ok-next.ensures.reads c.row.ensures.lines c.in_ok-push.ensures.items

pub returns-in_err-next-clause-reads : goal.returns-in_err-next-clause-reads
returns-in_err-next-clause-reads c =
    let rows = c.args.rows in
    let l = c.loop-most in
    handed_on _ (λ (line : RamLine). line) c.from_residual.result c.in_err-next.field-0.0 _ ((row rows l.from).read l.reader.left) _ c.from_residual.ensures.0
    c.from_residual.ensures.1 c.in_err-next.ensures.reads
    (until_stops (row_lines rows) 101 _ _ _ _ _ _ _ _ (row_marked rows) l.invariant (one_less l.most c.loop-most-test.true) (lt-ltb _ _ c.if-from-rows.true)
    (sym c.is_at.ensures ∙ c.if-not-is_at.true))

pub returns-in_err-word-clause-reads : goal.returns-in_err-word-clause-reads
returns-in_err-word-clause-reads c =
    let rows = c.args.rows in
    let l = c.loop-most in
    let mark : AtMark (row_lines rows) 101 l.most l.from l.reader.left =
    elim c.loop-most-test.branch [
      | then-loop-most-test+then-from-rows+else-not-is_at w ↦
          there (l.most - 1) (one_less l.most w.loop-most-test.true) (lt-ltb _ _ w.if-from-rows.true) (sym w.is_at.ensures ∙ w.if-not-is_at.false)
      | then-loop-most-test+else-from-rows w ↦ shut (l.most - 1) (one_less l.most w.loop-most-test.true) (le-ltb _ _ w.if-from-rows.false)
      | else-loop-most-test w ↦ full (omega (arith, w.loop-most-test.false))
    ] in
    handed_on _ (λ (v : Unit {0}). tt) c.from_residual-in_err-word.result c.in_err-word.field-0.0 _ (read_word (codes "end\n") l.reader.left) _
    c.from_residual-in_err-word.ensures.0 c.from_residual-in_err-word.ensures.1 c.in_err-word.ensures.reads
    (mark_stops (row_lines rows) _ _ _ _ _ _ _ l.invariant (marked_read (row_lines rows) 101 l.most l.from l.reader.left (row_marked rows) mark))

pub returns-clause-reads : goal.returns-clause-reads
returns-clause-reads c =
    let rows = c.args.rows in
    let l = c.loop-most in
    let mark : AtMark (row_lines rows) 101 l.most l.from l.reader.left =
    elim c.loop-most-test.branch [
      | then-loop-most-test+then-from-rows+else-not-is_at w ↦
          there (l.most - 1) (one_less l.most w.loop-most-test.true) (lt-ltb _ _ w.if-from-rows.true) (sym w.is_at.ensures ∙ w.if-not-is_at.false)
      | then-loop-most-test+else-from-rows w ↦ shut (l.most - 1) (one_less l.most w.loop-most-test.true) (le-ltb _ _ w.if-from-rows.false)
      | else-loop-most-test w ↦ full (omega (arith, w.loop-most-test.false))
    ] in
    until_done (row_lines rows) _ _ c.word.new.self _ _ _ _ _ l.invariant (marked_read (row_lines rows) 101 l.most l.from l.reader.left (row_marked rows) mark)
    (ap (mapped (λ v. [])) c.in_ok-word.ensures.reads)
