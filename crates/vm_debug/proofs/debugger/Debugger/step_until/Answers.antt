use Rattle.std.proofs.Common.{◌∙◌, sym, arith}
use Rattle.vm_guest.specs.Turns.{scene}
use Rattle.vm_debug.proofs.OnBoards.{goes_first, goes_further, goes_to_end, goes_all, no_rise, rises_on}
use Rattle.vm_debug.proofs.debugger.Debugger.step_until.Goals as goal

pub turn-end-requires-clause-seated : goal.turn-end-requires-clause-seated
turn-end-requires-clause-seated c = c.loop-step.invariant.goes.come.seated

pub loop-step-init : goal.loop-step-init
loop-step-init c = record {
  goes = goes_first c.args.self.now c.args.limit (scene c.args.guest.now c.args.board.now.world.ram c.args.native.now) c.requires.seated;
  few = omega arith;
  native = no_rise c.args.guest.now.steps c.args.native.now;
}

pub loop-step-preserved : goal.loop-step-preserved
loop-step-preserved c =
    let s = scene c.args.guest.now c.args.board.now.world.ram c.args.native.now in
    let now = scene c.loop-step.guest c.loop-step.board.world.ram c.loop-step.native in
    let after = scene c.turn-end.new.self c.turn-end.new.board.world.ram c.turn-end.new.native in
    let more = c.loop-step-test.true in
    let before = c.loop-step.invariant in record {
      goes = goes_further c.args.self.now c.args.limit c.loop-step._step s now after (omega (arith, more)) before.goes c.turn-end.ensures.takes
          (sym c.ends_at.ensures ∙ c.if-ends_at.false);
      few = omega (arith, before.few, c.turn-end.ensures.few);
      native = rises_on s.guest.steps now.guest.steps after.guest.steps s.native now.native after.native before.native c.turn-end.ensures.native;
    }

pub returns-then-ends_at-clause-takes : goal.returns-then-ends_at-clause-takes
returns-then-ends_at-clause-takes c =
    let s = scene c.args.guest.now c.args.board.now.world.ram c.args.native.now in
    let now = scene c.loop-step.guest c.loop-step.board.world.ram c.loop-step.native in
    let after = scene c.turn-end.new.self c.turn-end.new.board.world.ram c.turn-end.new.native in
    let more = c.loop-step-test.true in
    goes_to_end c.args.self.now c.args.limit c.loop-step._step s now after (omega (arith, more)) c.loop-step.invariant.goes
    c.turn-end.ensures.takes (sym c.ends_at.ensures ∙ c.if-ends_at.true)

pub returns-then-ends_at-clause-native : goal.returns-then-ends_at-clause-native
returns-then-ends_at-clause-native c =
    rises_on c.args.guest.now.steps c.loop-step.guest.steps c.turn-end.new.self.steps c.args.native.now c.loop-step.native c.turn-end.new.native
    c.loop-step.invariant.native c.turn-end.ensures.native

pub returns-clause-takes : goal.returns-clause-takes
returns-clause-takes c =
    goes_all c.args.self.now c.args.limit c.loop-step._step (scene c.args.guest.now c.args.board.now.world.ram c.args.native.now)
    (scene c.loop-step.guest c.loop-step.board.world.ram c.loop-step.native) c.loop-step-test.false c.loop-step.invariant.goes
