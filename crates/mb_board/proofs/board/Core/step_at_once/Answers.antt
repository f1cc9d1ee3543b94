use Rattle.std.proofs.Common.{◌≡◌, ◌∙◌, Bool, false, ap, refl, subst, sym}
use Rattle.mb_model.specs.Status.{space_of}
use Rattle.def_processor.specs.Raise.{is_due}
use Rattle.def_machine.specs.Machine.{Machine}
use Rattle.def_runs.specs.Native.{user_step}
use Rattle.mb_board.specs.contracts.board.Core.{the_view}
use Rattle.mb_board.specs.Calm.{IsCalm}
use Rattle.mb_board.proofs.Calm.{LeavesCalm, calm_on, calm_step}
use Rattle.mb_board.proofs.board.Core.step_at_once.Goals as goal

pub step_at_once-requires-clause-space : goal.step_at_once-requires-clause-space
step_at_once-requires-clause-space g c = subst (λ (m : Machine). c.args.space ≡ space_of m.cpu) (sym c.self.view_is) c.requires.space

pub step_at_once-requires-clause-awake : goal.step_at_once-requires-clause-awake
step_at_once-requires-clause-awake g c = subst (λ (m : Machine). m.cpu.stopped ≡ false) (sym c.self.view_is) c.requires.calm.awake

pub step_at_once-requires-clause-untraced : goal.step_at_once-requires-clause-untraced
step_at_once-requires-clause-untraced g c =
    subst (λ (m : Machine). (flow : Bool) → is_due m.cpu.regs.sr flow ≡ false) (sym c.self.view_is) c.requires.calm.untraced

pub returns-clause-means : goal.returns-clause-means
returns-clause-means g c =
    let m = the_view c.self.inside in
    let after : Machine = record { cpu = c.step_at_once.new.processor; world = c.step_at_once.new.port.bus.now; steps = m.steps; state = m.state } in
    let leaves : LeavesCalm m after = record { devices = c.step_at_once.ensures.still; mode = c.step_at_once.ensures.mode; state = refl } in
    λ is.
    calm_step m after (subst IsCalm (sym c.self.view_is) c.requires.calm) leaves refl (c.step_at_once.ensures.means is) ∙ ap user_step c.self.view_is

pub returns-clause-calm : goal.returns-clause-calm
returns-clause-calm g c =
    let m = the_view c.self.inside in
    let after : Machine = record { cpu = c.step_at_once.new.processor; world = c.step_at_once.new.port.bus.now; steps = m.steps; state = m.state } in
    calm_on m after (subst IsCalm (sym c.self.view_is) c.requires.calm)
    (record { devices = c.step_at_once.ensures.still; mode = c.step_at_once.ensures.mode; state = refl })

pub returns-clause-space : goal.returns-clause-space
returns-clause-space g c = c.step_at_once.ensures.mode.space ∙ ap (λ (m : Machine). space_of m.cpu) c.self.view_is
