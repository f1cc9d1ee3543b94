use Rattle.std.proofs.Common.{◌∙◌, subst, sym}
use Rattle.mb_srec.specs.Image.{contents_of}
use Rattle.def_guests.specs.Seats.{Seat, IsSeated}
use Rattle.vm_slices.proofs.Attached.{disk_seated, opens, starts_without}
use Rattle.vm_slices.proofs.host_guest.HostGuest.prepare.Goals as goal

pub attach_disk-requires : goal.attach_disk-requires
attach_disk-requires c = starts_without c.in_ok-guest.guest c.prepare.new.board.world.ram
    (contents_of c.into_parts-image.result.0) c.ram-ram.result c.in_ok-guest.ensures.start

pub returns-clause-start : goal.returns-clause-start
returns-clause-start c = opens c.in_ok-guest.guest c.attach_disk.new.guest c.prepare.new.board.world.ram c.args.guest
    (contents_of c.into_parts-image.result.0) c.into_parts-image.result.2 c.ram-ram.result c.steps-bound.result
    c.in_ok-guest.ensures.start c.in_ok-attach_disk.ensures
    (c.in_ok-guest.ensures.script ∙ c.into_parts-image.ensures.script)
    c.into_parts-image.ensures.image c.into_parts-image.ensures.disk c.ram-ram.ensures c.steps-bound.ensures

pub returns-clause-seated : goal.returns-clause-seated
returns-clause-seated c = subst (λ (g : Seat). IsSeated g c.prepare.new.board.world.ram) (sym c.in_ok-attach_disk.ensures)
    (disk_seated c.into_parts-image.result.2 c.in_ok-guest.guest c.prepare.new.board.world.ram c.in_ok-guest.ensures.seated)
