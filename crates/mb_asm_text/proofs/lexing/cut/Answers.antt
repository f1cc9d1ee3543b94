use Rattle.mb_asm_text.proofs.Cuts.{cut_pushed}
use Rattle.mb_asm_text.proofs.lexing.cut.Goals as goal

pub loop-place-preserved : goal.loop-place-preserved
loop-place-preserved c =
    let pushed = cut_pushed c.args.line.now 0 c.loop-place.tokens.items c.loop-place.place c.in-Some.token c.loop-place.invariant.cut
    c.in-Some.ensures.start c.in-Some.ensures.found in
    record { cut = rw c.in_ok-push.ensures.items pushed; inside = c.in-Some.ensures.found.here.inside }
