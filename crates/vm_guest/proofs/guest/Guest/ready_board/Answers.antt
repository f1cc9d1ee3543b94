use Rattle.std.proofs.Common.{◌∙◌, ap}
use Rattle.def_machine.specs.Machine.{takes_steps}
use Rattle.mb_model.specs.Status.{space_of}
use Rattle.vm_shadow.specs.Mapped.{root_of}
use Rattle.def_guests.specs.Seats.{Seat}
use Rattle.vm_guest.proofs.Runs.{reset_is_set}
use Rattle.vm_guest.proofs.guest.Guest.ready_board.Goals as goal

pub returns-then-not-is_ready-clause-ready : goal.returns-then-not-is_ready-clause-ready
returns-then-not-is_ready-clause-ready c =
    let s = c.args.self.now in
    record {
      set = reset_is_set s c.root.result c.args.board.now.world.ram c.args.board.now.world.devices c.make_ready.new.board.world
          (c.root.ensures ∙ ap (root_of c.self.inside.shadow.area) c.space.ensures
          ∙ ap (λ (x : Seat). root_of x.slots.area (space_of x.cpu)) c.self.view_is) c.make_ready.ensures.world;
      goes = ap takes_steps c.make_ready.ensures.state;
    }
