use Rattle.std.proofs.Common.{◌≡◌, ◌∙◌, ℕ, ap, sym}
use Rattle.mb_port.specs.Routine.{run}
use Rattle.def_processor.specs.Raise.{Stepped}
use Rattle.def_guests.specs.Guests.{Guest}
use Rattle.def_guests.specs.Bus.{guest_bus}
use Rattle.def_guests.specs.Turns.{bus_side}
use Rattle.def_guests.specs.Seats.{Seat, guested_on, shadow_on}
use Rattle.vm_guest.specs.Rests.{rest_in}
use Rattle.vm_guest.specs.Turns.{ended_at}
use Rattle.vm_guest.specs.contracts.guest.Guest.{the_view}
use Rattle.vm_guest.proofs.Ended.{ended}
use Rattle.mb_model.specs.Status.{space_of}
use Rattle.vm_guest.proofs.Watching.{both, same_spaces}
use Rattle.vm_guest.proofs.guest.Guest.assist.Goals as goal

pub returns-clause-means : goal.returns-clause-means
returns-clause-means c =
    let after = c.process-processed.new.ram.world.ram in
    let n = c.args.self.now in
    let h = the_view c.self-2.inside in
    let same : c.process-processed.new.self ≡ h = sym c.self-2.view_is in
    let r : Stepped × Guest = run guest_bus (rest_in c.args.rest.now c.args.level n.cpu) (bus_side (guested_on n c.args.board.now.world.ram)) in
    let steps : h.steps ≡ n.steps = sym (ap (λ (x : Seat). x.steps) same) ∙ ap (λ (x : Seat). x.steps) c.process-processed.ensures.guest in
    ended h.steps r c.process-processed.result.end h.cpu (bus_side (guested_on h after)) c.state_after-self-inside.result
    (c.process-processed.ensures.means ∙ ap (λ (x : Seat). ((c.process-processed.result.end, x.cpu), bus_side (guested_on x after))) same)
    c.state_after-self-inside.ensures
    ∙ ap (λ (k : ℕ). ended_at k r) steps

pub returns-clause-stays : goal.returns-clause-stays
returns-clause-stays c = λ so.
    let view = c.self-2.view_is in
    let (stays, space) = both c.process-processed.result.stays c.eq.result so in
    record {
      shadow = ap (λ (s : Seat). shadow_on s c.process-processed.new.ram.world.ram) view ∙ c.process-processed.ensures.stays stays;
      space = sym c.space.ensures ∙ same_spaces c.space.result c.space-space.result (sym c.eq.ensures ∙ space) ∙ c.space-space.ensures
          ∙ ap (λ (s : Seat). space_of s.cpu) c.self.view_is;
    }
