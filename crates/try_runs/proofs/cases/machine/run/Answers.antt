use Rattle.std.proofs.Common.{◌≡◌, ◌∙◌, false, ap}
use Rattle.mb_model.specs.Keeping.{rule_a}
use Rattle.mb_devices.specs.Devices.{built}
use Rattle.mb_devices.proofs.Sizes.{restarted-diskless}
use Rattle.def_machine.specs.Machine.{Machine, reset_with}
use Rattle.def_machine.proofs.Builds.{built-run}
use Rattle.mb_board.specs.State.{BoardState}
use Rattle.try_runs.specs.declared.cases.chunk.TheConstants.{RAM_SIZE}
use Rattle.try_runs.proofs.cases.machine.run.Goals as goal

pub returns-clause-board_size : goal.returns-clause-board_size
unfolding reset_with
returns-clause-board_size c =
    let before : built c.write_phys.new.self.world.devices ≡ (RAM_SIZE, false) =
    ap (λ (b : BoardState). built b.world.devices) c.write_phys.ensures.after ∙ c.requires.board_size in
    ap (λ (m : Machine). built m.world.devices) c.run_bare.ensures.means
    ∙ built-run rule_a _ _ _
    ∙ ap (λ (b : BoardState). built b.world.devices) c.reset.ensures.after
    ∙ ap built (restarted-diskless RAM_SIZE c.write_phys.new.self.world.devices before)
