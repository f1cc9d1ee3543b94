use Rattle.std.proofs.Common.{◌∙◌}
use Rattle.std.specs.Prelude.{codes, decimal}
use Rattle.mb_outside.proofs.PrintLemmas.{prints_more}
use Rattle.mb_ends.specs.Lines.{class_count}
use Rattle.mb_ends.proofs.diagnosis.say_guest.Goals as goal

pub returns : goal.returns
returns g c =
    let t = c.args.counts.now in
    let number = c.as_bytes.ensures.value ∙ c.format.ensures.text in
    let numbered = prints_more c.put_all-begun.result c.put_more-numbered.result _ _ _ _ _ _ (codes "guest ") (decimal c.args.guest)
    c.put_all-begun.ensures (rw number at c.put_more-numbered.ensures) in
    let retired = prints_more c.put_more-numbered.result c.say_count-retired.result _ _ _ _ _ _ _ (class_count (codes " retired ") t.retired)
    numbered c.say_count-retired.ensures in
    let privileged = prints_more c.say_count-retired.result c.say_count-privileged.result _ _ _ _ _ _ _ (class_count (codes " privileged ") t.privileged)
    retired c.say_count-privileged.ensures in
    let trapped = prints_more c.say_count-privileged.result c.say_count-trapped.result _ _ _ _ _ _ _ (class_count (codes " trapped ") t.trapped)
    privileged c.say_count-trapped.ensures in
    let denied = prints_more c.say_count-trapped.result c.say_count-denied.result _ _ _ _ _ _ _ (class_count (codes " denied ") t.denied)
    trapped c.say_count-denied.ensures in
    let traced = prints_more c.say_count-denied.result c.say_count-traced.result _ _ _ _ _ _ _ (class_count (codes " traced ") t.traced)
    denied c.say_count-traced.ensures in
    let entered = prints_more c.say_count-traced.result c.say_count-entered.result _ _ _ _ _ _ _ (class_count (codes " entered ") t.entered)
    traced c.say_count-entered.ensures in
    let idle = prints_more c.say_count-entered.result c.say_count-idle.result _ _ _ _ _ _ _ (class_count (codes " idle ") t.idle)
    entered c.say_count-idle.ensures in
    let refilled = prints_more c.say_count-idle.result c.say_count-refilled.result _ _ _ _ _ _ _ (class_count (codes " refilled ") t.refilled)
    idle c.say_count-refilled.ensures in
    prints_more c.say_count-refilled.result c.put_more.result _ _ _ _ _ _ _ (codes "\n") refilled c.put_more.ensures
