use Rattle.std.proofs.Common.{◌∙◌, ◌+◌, ◌-◌, refl, sym, ap, arith}
use Rattle.def_machine.specs.Machine.{takes_steps}
use Rattle.def_processor.specs.declared.Finish.TheVariants.{Went}
use Rattle.mb_board.proofs.UserRuns.{led_nowhere, led_on, went_on}
use Rattle.mb_board.proofs.board.Core.run_at_once_for.Goals as goal

pub loop-left-init : goal.loop-left-init
loop-left-init c = record {
  calm = c.requires.calm;
  space = c.requires.space;
  digits = c.requires.digits;
  within = (omega arith);
  leads = led_nowhere c.args.limit c.args.self.now c.args.ends.now;
  ram = refl;
}

pub loop-left-preserved : goal.loop-left-preserved
loop-left-preserved c =
    let after = c.run_on_at_once.new.self in
    let went = c.if-not-run_on_at_once.false in
    let step = c.run_on_at_once.ensures in
    let held = c.loop-left.invariant in
    record {
      calm = step.calm;
      space = held.space ∙ sym step.space;
      digits = step.digits;
      within = (omega arith);
      leads = λ native begun steps begins. let taken = steps + (c.args.limit - c.loop-left.left) in
          led_on c.args.limit c.loop-left.left taken (steps + (c.args.limit - (c.loop-left.left - 1))) c.args.self.now c.loop-left.self after Went native
          begun c.loop-left.ends_here c.run_on_at_once.new.ends (omega arith) held.within (omega arith) (step.means went)
          (went_on after (ap takes_steps step.calm.running)) (λ counted. step.ends went counted begun taken) (held.leads native begun steps begins);
      ram = step.ram ∙ held.ram;
    }

-- a step that is not carried out at once has changed nothing
pub returns-then-not-run_on_at_once-clause-means : goal.returns-then-not-run_on_at_once-clause-means
returns-then-not-run_on_at_once-clause-means c =
    let same = c.run_on_at_once.ensures in
    let failed = c.if-not-run_on_at_once.true in
    rw (same.undone failed, same.same failed) c.loop-left.invariant.leads
