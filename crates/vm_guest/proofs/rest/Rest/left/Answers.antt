use Rattle.std.proofs.Common.{subst}
use Rattle.mb_frames.specs.declared.frame.Frame.{Frame}
use Rattle.def_guests.specs.Exits.{frame_access}
use Rattle.law_turns.specs.Lawful.{LeavesLawful}
use Rattle.vm_guest.proofs.Lefts.{few_done}
use Rattle.vm_guest.proofs.rest.Rest.left.Goals as goal

pub left_in-requires : goal.left_in-requires
left_in-requires c = λ goes.
    few_done c.in-Access.access goes (subst (λ (f : Frame). LeavesLawful (frame_access f)) c.in-Access.is c.requires.lawful)
