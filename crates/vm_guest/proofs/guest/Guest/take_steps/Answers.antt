use Rattle.std.proofs.Common.{◌≡◌, ◌∙◌, ◌-◌, ℕ, false, ap, sym, subst, inl, inr, arith}
use Rattle.def_machine.specs.Machine.{takes_steps}
use Rattle.def_guests.specs.Seats.{Seat, Takes}
use Rattle.def_guests.proofs.Seated.{nothing_is_taken}
use Rattle.vm_guest.specs.Turns.{scene}
use Rattle.vm_guest.proofs.Turning.{more_taken, taken_all}
use Rattle.vm_guest.proofs.guest.Guest.take_steps.Goals as goal

pub loop-left-init : goal.loop-left-init
loop-left-init c =
    let s = scene c.args.self.now c.args.board.now.world.ram c.args.native.now in
    let none : 0 ≡ c.args.limit - c.args.limit = omega arith in
    record {
      few = omega arith;
      takes = subst (λ (k : ℕ). Takes k s s) none (nothing_is_taken s c.requires.seated);
      steps = omega arith;
      retired = omega arith;
      ready = λ so. absurd (let z : ⊥ = cc in z);
      exceptions = omega arith;
    }

pub returns-then-not-takes_steps-clause-takes : goal.returns-then-not-takes_steps-clause-takes
returns-then-not-takes_steps-clause-takes c =
    let still : takes_steps c.loop-left.self.state ≡ false =
    ap (λ (g : Seat). takes_steps g.state) (sym c.self.view_is) ∙ sym c.takes_steps.ensures ∙ c.if-not-takes_steps.true in
    taken_all c.args.limit c.loop-left.left (scene c.args.self.now c.args.board.now.world.ram c.args.native.now)
    (scene c.loop-left.self c.loop-left.board.world.ram c.loop-left.native) c.loop-left.invariant.few (inr still) c.loop-left.invariant.takes

pub loop-left-preserved : goal.loop-left-preserved
loop-left-preserved c =
    let now = c.loop-left.invariant in
    let few = now.few in
    let steps = now.steps in
    let retired = now.retired in
    let exceptions = now.exceptions in
    let after = c.advance-advance.ensures in
    let more = after.some.1 in
    let some = after.steps in
    let counted = after.native.0 in
    let left = after.native.1 in
    record {
      few = omega arith;
      takes = more_taken c.args.limit c.loop-left.left c.advance-advance.result.steps (scene c.args.self.now c.args.board.now.world.ram c.args.native.now)
          (scene c.loop-left.self c.loop-left.board.world.ram c.loop-left.native)
          (scene c.advance-advance.new.self c.advance-advance.new.board.world.ram c.advance-advance.new.native) few more now.takes after.takes;
      steps = omega arith;
      retired = omega arith;
      ready = after.ready;
      exceptions = omega arith;
    }

pub returns-clause-takes : goal.returns-clause-takes
returns-clause-takes c =
    let none : c.loop-left.left ≡ 0 = omega arith in
    taken_all c.args.limit c.loop-left.left (scene c.args.self.now c.args.board.now.world.ram c.args.native.now)
    (scene c.loop-left.self c.loop-left.board.world.ram c.loop-left.native) c.loop-left.invariant.few (inl none) c.loop-left.invariant.takes

pub returns-clause-native : goal.returns-clause-native
returns-clause-native c =
    let now = c.loop-left.invariant in
    let few = now.few in
    let steps = now.steps in
    let retired = now.retired in
    let exceptions = now.exceptions in
    (omega arith, omega arith)

pub returns-then-not-takes_steps-clause-native : goal.returns-then-not-takes_steps-clause-native
returns-then-not-takes_steps-clause-native c =
    let now = c.loop-left.invariant in
    let few = now.few in
    let steps = now.steps in
    let retired = now.retired in
    let exceptions = now.exceptions in
    (omega arith, omega arith)
