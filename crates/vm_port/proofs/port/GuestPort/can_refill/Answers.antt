use Rattle.std.proofs.Common.{◌∙◌, ap, sym}
use Rattle.vm_port.specs.Parts.{guest_of}
use Rattle.vm_port.specs.Quiet.{refills_seen}
use Rattle.vm_port.proofs.SeenReads.{seen_is, writes_not}
use Rattle.vm_port.proofs.port.GuestPort.can_refill.Goals as goal

pub returns-then-r : goal.returns-then-r
returns-then-r g c = sym (writes_not (guest_of c.args.self.now) c.args.r c.if-r.true)

pub returns-in-Some : goal.returns-in-Some
returns-in-Some g c =
    let guest = guest_of c.args.self.now in
    c.refills.ensures ∙ ap (refills_seen guest c.args.r) (sym c.in-Some.is ∙ c.seen.ensures)
    ∙ sym (seen_is guest c.args.r c.if-r.false c.size.ensures.bytes c.entry.ensures.few)

pub returns-in-None : goal.returns-in-None
returns-in-None g c =
    let guest = guest_of c.args.self.now in
    ap (refills_seen guest c.args.r) (sym c.in-None.is ∙ c.seen.ensures)
    ∙ sym (seen_is guest c.args.r c.if-r.false c.size.ensures.bytes c.entry.ensures.few)
