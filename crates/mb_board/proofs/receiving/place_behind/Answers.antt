use Rattle.std.proofs.Common.{◌∙◌, ◌+◌, ◌-◌, ◌/◌, sym, arith}
use Rattle.mb_board.proofs.Due.{past-through, later-from, none-outside}
use Rattle.mb_board.proofs.receiving.place_behind.Goals as goal

pub loop-low-preserved-then-entry-step : goal.loop-low-preserved-then-entry-step
loop-low-preserved-then-entry-step c =
    let before = c.loop-low.invariant in
    let within = before.within in
    record {
      apart = omega arith;
      within = within;
      past = past-through c.args.script.now (c.loop-low.low + (c.loop-low.high - c.loop-low.low) / 2) c.args.step c.in-Some.entry
          c.count-high.ensures.lawful (sym c.entry.ensures ∙ c.in-Some.is) c.if-entry-step.true;
      later = before.later;
    }

pub loop-low-preserved-in_default : goal.loop-low-preserved-in_default
loop-low-preserved-in_default c =
    let before = c.loop-low.invariant in
    let within = before.within in
    record {
      apart = omega arith;
      within = omega (arith, within);
      past = before.past;
      later = later-from c.args.script.now (c.loop-low.low + (c.loop-low.high - c.loop-low.low) / 2) c.args.step c.in-Some.entry
          c.count-high.ensures.lawful (sym c.entry.ensures ∙ c.in-Some.is) c.if-entry-step.false;
    }

pub loop-low-preserved : goal.loop-low-preserved
loop-low-preserved c =
    let within = c.loop-low.invariant.within in
    let none = sym c.entry.ensures ∙ c.in_default.is in
    absurd (none-outside c.args.script.now (c.loop-low.low + (c.loop-low.high - c.loop-low.low) / 2) none (omega (arith, within)))
