use Rattle.std.proofs.Common.{◌^◌, ◌<◌, List, sym, subst}
use Rattle.vm_guest.specs.Session.{GuestAtStart}
use Rattle.vm_slices.specs.Fit.{need_of}
use Rattle.vm_slices.proofs.Fits.{need_fits}
use Rattle.vm_slices.proofs.fit.judge_fit.Goals as goal

pub bytes_needed-need-requires : goal.bytes_needed-need-requires
bytes_needed-need-requires c =
    subst (λ (gs : List GuestAtStart). need_of gs < 2 ^ 32) (sym c.guests.ensures)
    (need_fits c.args.session.now.guests c.requires.guests c.requires.few)
