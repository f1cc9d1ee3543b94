use Rattle.std.proofs.Common.{◌≡◌, ◌∙◌, ap, refl, sym}
use Rattle.mb_model.specs.Status.{space_of}
use Rattle.mb_step.proofs.InShort.{codes_after, even_apart, followed_apart, untraced_went, valid, valid_long, valid_with}
use Rattle.mb_step.proofs.Registers.{same_mode, same_space}
use Rattle.mb_step.proofs.fetching.execute_untraced.Goals as goal

pub perform_short-flow-requires-clause-even : goal.perform_short-flow-requires-clause-even
perform_short-flow-requires-clause-even g c =
    even_apart c.processor.inside.plain c.processor.inside.cpu c.args.processor.now c.processor.view_is c.requires.even

pub perform_short-flow-requires-clause-valid : goal.perform_short-flow-requires-clause-valid
perform_short-flow-requires-clause-valid g c = valid c.args.first c.args.short.now c.requires.short

pub perform_short-flow-requires-clause-valid_with : goal.perform_short-flow-requires-clause-valid_with
perform_short-flow-requires-clause-valid_with g c = valid_with c.args.first c.args.short.now c.requires.short

pub perform_short-flow-requires-clause-valid_long : goal.perform_short-flow-requires-clause-valid_long
perform_short-flow-requires-clause-valid_long g c = valid_long c.args.first c.args.short.now c.requires.short

pub invariant_of-processor : goal.invariant_of-processor
invariant_of-processor g c =
    codes_after g.P.Port.bus c.args.short.now c.args.space c.processor.inside.plain c.perform_short-flow.new.plain _ _ c.perform_short-flow.result
    c.processor.invariant c.perform_short-flow.ensures.done c.perform_short-flow.ensures.undone

pub returns-clause-done : goal.returns-clause-done
returns-clause-done g c = λ is.
    let space : c.args.space ≡ space_of c.processor.inside.cpu =
    c.requires.space ∙ sym (ap space_of c.processor.view_is) ∙ sym (same_space c.processor.inside.plain c.processor.inside.cpu) in
    untraced_went g.P.Port.bus c.processor.inside.cpu c.args.processor.now c.processor.inside.plain _ c.args.first c.args.short.now
    c.perform_short-flow.result _ _ c.processor.view_is (assumption c.processor.ranges) c.processor.invariant c.requires.short
    (sym c.is_some.ensures ∙ is) (rw space at c.perform_short-flow.ensures.done) c.requires.untraced

pub returns-clause-follows : goal.returns-clause-follows
returns-clause-follows g c =
    let five =
    codes_after g.P.Port.bus c.args.short.now c.args.space c.processor.inside.plain c.perform_short-flow.new.plain _ _ c.perform_short-flow.result
    c.processor.invariant c.perform_short-flow.ensures.done c.perform_short-flow.ensures.undone in
    followed_apart g.F.Follower.follows _ _ c.processor.inside.cpu c.args.processor.now _ c.processor.inside.plain c.perform_short-flow.new.plain
    c.processor.view_is refl (assumption c.processor.ranges) c.processor.invariant c.in_whole-whole.ensures.eight five c.perform_short-flow.ensures.follows

pub returns-clause-mode : goal.returns-clause-mode
returns-clause-mode g c = same_mode c.processor.inside.plain _ c.processor.inside.cpu c.args.processor.now _ c.processor.view_is refl
