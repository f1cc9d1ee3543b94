use Rattle.std.proofs.Common.{rules}
use Rattle.vm_guest.proofs.Seated.{seated_refilled}
use Rattle.vm_guest.proofs.guest.Guest.refill.Goals as goal

pub returns-clause-seated : goal.returns-clause-seated
returns-clause-seated g c =
    let n = c.args.self.now in
    seated_refilled n (g.R.Ram.bytes c.args.ram.now) c.in-Some.read c.refill.result c.requires.seated c.size.ensures.bytes (search rules)
    (record { base = search rules; size = search rules; inside = search rules; area = search rules; maps = search rules; tables = search rules })
    (search rules)
