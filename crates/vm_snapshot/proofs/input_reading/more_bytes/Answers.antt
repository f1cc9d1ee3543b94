use Rattle.std.proofs.Common.{◌-◌, ℕ, [], ◌∷◌, refl, sym, ◌∙◌, arith}
use Rattle.mb_spelling.specs.Spelling.{read_word}
use Rattle.mb_spelling.proofs.Loops.{AtMark}
use Rattle.mb_spelling.proofs.Loops.AtMark.{full, there}
use Rattle.vm_snapshot.specs.Inputs.{byte, pairs}
use Rattle.vm_snapshot.proofs.Handed.{handed_on}
use Rattle.vm_snapshot.proofs.Loops.{one_less, pushed_few}
use Rattle.vm_snapshot.proofs.Pairs.{end_stops, more_begun, more_done, more_on, more_stops}
use Rattle.vm_snapshot.proofs.input_reading.more_bytes.Goals.{then-loop-more-test+else-not-is_at, else-loop-more-test}
use Rattle.vm_snapshot.proofs.input_reading.more_bytes.Goals as goal

pub loop-more-init : goal.loop-more-init
loop-more-init c = record { going = more_begun _ _ _ _ _ refl refl; passed = refl; few = omega arith }

pub loop-more-preserved : goal.loop-more-preserved
loop-more-preserved c =
    let l = c.loop-more in
    record {
      going =
          more_on _ _ _ l.invariant.going c.loop-more-test.true (sym c.is_at.ensures ∙ c.if-not-is_at.true) c.in_ok-next.ensures.reads c.byte.ensures.lines
          c.in_ok-push.ensures.items;
      passed = c.byte.ensures.lines ∙ l.invariant.passed;
      few = pushed_few _ _ _ _ _ l.invariant.few c.loop-more-test.true c.in_ok-push.ensures.items;
    }

pub returns-in_err-next-clause-reads : goal.returns-in_err-next-clause-reads
returns-in_err-next-clause-reads c =
    let l = c.loop-more in
    handed_on _ (λ (b : ℕ). b) c.from_residual.result c.in_err-next.field-0.0 _ (byte.read l.reader.left) _ c.from_residual.ensures.0 c.from_residual.ensures.1
    c.in_err-next.ensures.reads (more_stops l.invariant.going c.loop-more-test.true (sym c.is_at.ensures ∙ c.if-not-is_at.true))

pub returns-in_err-word-clause-reads : goal.returns-in_err-word-clause-reads
returns-in_err-word-clause-reads c =
    let l = c.loop-more in
    let mark : AtMark pairs 10 l.more tt l.reader.left =
    elim c.loop-more-test.branch [
      | then-loop-more-test+else-not-is_at w ↦
          there (l.more - 1) (one_less l.more w.loop-more-test.true) refl (sym w.is_at.ensures ∙ w.if-not-is_at.false)
      | else-loop-more-test w ↦ full (omega (arith, w.loop-more-test.false))
    ] in
    handed_on _ (λ (v : Unit {0}). tt) c.from_residual-in_err-word.result c.in_err-word.field-0.0 _ (read_word (10 ∷ []) l.reader.left) _
    c.from_residual-in_err-word.ensures.0 c.from_residual-in_err-word.ensures.1 c.in_err-word.ensures.reads (end_stops l.invariant.going mark)

pub returns-clause-reads : goal.returns-clause-reads
returns-clause-reads c =
    let l = c.loop-more in
    let mark : AtMark pairs 10 l.more tt l.reader.left =
    elim c.loop-more-test.branch [
      | then-loop-more-test+else-not-is_at w ↦
          there (l.more - 1) (one_less l.more w.loop-more-test.true) refl (sym w.is_at.ensures ∙ w.if-not-is_at.false)
      | else-loop-more-test w ↦ full (omega (arith, w.loop-more-test.false))
    ] in
    more_done c.word.new.self l.invariant.going mark c.in_ok-word.ensures.reads
