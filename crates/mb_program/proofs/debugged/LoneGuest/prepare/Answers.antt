use Rattle.std.proofs.Common.{◌∙◌, ap, subst, sym}
use Rattle.mb_srec.specs.Image.{contents_of}
use Rattle.def_guests.specs.Seats.{Seat, IsSeated}
use Rattle.vm_slices.proofs.Attached.{disk_seated, starts_without}
use Rattle.mb_program.proofs.DebugLemmas.{begins}
use Rattle.mb_program.proofs.debugged.LoneGuest.prepare.Goals as goal

pub attach_disk-requires : goal.attach_disk-requires
attach_disk-requires c = starts_without c.in_ok-guest.guest c.prepare.new.board.world.ram
    (contents_of c.into_parts-image.result.0) c.ram-ram.result c.in_ok-guest.ensures.start

pub returns : goal.returns
returns c = record {
  turned = begins c.in_ok-guest.guest c.attach_disk.new.guest c.prepare.new.board.world.ram c.args.guest
      (contents_of c.into_parts-image.result.0) c.into_parts-image.result.2 c.ram-ram.result
      c.in_ok-guest.ensures.start c.in_ok-attach_disk.ensures c.into_parts-image.ensures.image c.into_parts-image.ensures.disk c.ram-ram.ensures;
  script = ap (λ (g : Seat). g.script) c.in_ok-attach_disk.ensures ∙ c.in_ok-guest.ensures.script ∙ c.into_parts-image.ensures.script;
  seated = subst (λ (g : Seat). IsSeated g c.prepare.new.board.world.ram) (sym c.in_ok-attach_disk.ensures)
      (disk_seated c.into_parts-image.result.2 c.in_ok-guest.guest c.prepare.new.board.world.ram c.in_ok-guest.ensures.seated);
  bound = c.steps-bound.ensures;
}
