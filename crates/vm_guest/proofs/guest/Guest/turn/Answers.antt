use Rattle.std.proofs.Common.{◌≡◌, ◌∙◌, List, ℕ, true, false, ap, sym, subst, arith}
use Rattle.mb_devices.specs.Devices.{restarted}
use Rattle.def_machine.specs.Machine.{reset_with, takes_steps}
use Rattle.mb_board.specs.State.{board_at_reset}
use Rattle.def_guests.specs.Seats.{Seat, Takes}
use Rattle.vm_guest.specs.Turns.{scene}
use Rattle.mb_model.specs.Keeping.{rule_a, rule_k}
use Rattle.def_guests.specs.Seats.{machine_on}
use Rattle.def_runs.proofs.Runs.{ended-is_free}
use Rattle.vm_guest.proofs.Free.{goes_on_freely}
use Rattle.vm_guest.proofs.Turning.{stays_taken, takes_machine}
use Rattle.vm_guest.proofs.guest.Guest.turn.Goals as goal

pub reset-requires : goal.reset-requires
reset-requires c =
    let seated = c.take_steps.ensures.takes.seated in
    let behind = seated.behind in
    let inside = seated.inside in
    omega (arith, behind, inside)

pub returns-clause-takes : goal.returns-clause-takes
returns-clause-takes c =
    subst (λ (ram : List ℕ). Takes c.args.limit (scene c.args.self.now c.args.board.now.world.ram c.args.native.now)
    (scene c.take_steps.new.self ram c.take_steps.new.native))
    (sym c.reset.ensures.ram) c.take_steps.ensures.takes

pub returns-clause-machine : goal.returns-clause-machine
returns-clause-machine c =
    takes_machine c.args.limit (scene c.args.self.now c.args.board.now.world.ram c.args.native.now)
    (scene c.take_steps.new.self c.reset.new.self.world.ram c.take_steps.new.native) (returns-clause-takes c)

pub returns-clause-free : goal.returns-clause-free
returns-clause-free c = goes_on_freely _ _ _ _ (returns-clause-machine c)

pub returns-clause-free_on : goal.returns-clause-free_on
returns-clause-free_on c =
    ended-is_free rule_k c.args.self.now.script c.args.limit (machine_on c.args.self.now c.args.board.now.world.ram)
    (machine_on c.take_steps.new.self c.reset.new.self.world.ram) (returns-clause-machine c)

pub returns-clause-board : goal.returns-clause-board
returns-clause-board c = λ goes. (
  c.take_steps.new.board.world.devices,
  c.reset.ensures.after
      ∙ ap (λ (ram : List ℕ). board_at_reset (reset_with rule_a (restarted c.take_steps.new.board.world.devices) ram)) (sym c.reset.ensures.ram),
)

pub returns-clause-stays : goal.returns-clause-stays
returns-clause-stays c = λ still. absurd (
    let goes : takes_steps c.args.self.now.state ≡ true =
    ap (λ (g : Seat). takes_steps g.state) (sym c.self.view_is) ∙ sym c.takes_steps.ensures ∙ c.if-not-takes_steps.false in
    let e : false ≡ true = sym still ∙ goes in cc e
    )

-- ---- a guest that takes no steps

pub returns-then-not-takes_steps-clause-takes : goal.returns-then-not-takes_steps-clause-takes
returns-then-not-takes_steps-clause-takes c =
    let still : takes_steps c.args.self.now.state ≡ false =
    ap (λ (g : Seat). takes_steps g.state) (sym c.self.view_is) ∙ sym c.takes_steps.ensures ∙ c.if-not-takes_steps.true in
    stays_taken c.args.limit (scene c.args.self.now c.args.board.now.world.ram c.args.native.now) still c.requires.seated

pub returns-then-not-takes_steps-clause-machine : goal.returns-then-not-takes_steps-clause-machine
returns-then-not-takes_steps-clause-machine c =
    let s = scene c.args.self.now c.args.board.now.world.ram c.args.native.now in
    takes_machine c.args.limit s s (returns-then-not-takes_steps-clause-takes c)

pub returns-then-not-takes_steps-clause-free : goal.returns-then-not-takes_steps-clause-free
returns-then-not-takes_steps-clause-free c = goes_on_freely _ _ _ _ (returns-then-not-takes_steps-clause-machine c)

pub returns-then-not-takes_steps-clause-free_on : goal.returns-then-not-takes_steps-clause-free_on
returns-then-not-takes_steps-clause-free_on c =
    let m = machine_on c.args.self.now c.args.board.now.world.ram in
    ended-is_free rule_k c.args.self.now.script c.args.limit m m (returns-then-not-takes_steps-clause-machine c)

pub returns-then-not-takes_steps-clause-board : goal.returns-then-not-takes_steps-clause-board
returns-then-not-takes_steps-clause-board c = λ goes. absurd (
    let still : takes_steps c.args.self.now.state ≡ false =
    ap (λ (g : Seat). takes_steps g.state) (sym c.self.view_is) ∙ sym c.takes_steps.ensures ∙ c.if-not-takes_steps.true in
    let e : false ≡ true = sym still ∙ goes in cc e
    )
