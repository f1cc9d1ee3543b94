use Rattle.std.proofs.Common.{◌∙◌, ap, sym, rules}
use Rattle.def_guests.specs.Seats.{Seat}
use Rattle.vm_port.specs.Parts.{watched_of}
use Rattle.vm_guest.specs.Rests.{rest_in}
use Rattle.vm_guest.proofs.Seated.{seated_behind}
use Rattle.vm_guest.proofs.Watching.{ends_alike, not_false, shadow_stays}
use Rattle.vm_guest.proofs.guest.Guest.process.Goals as goal

pub returns-clause-means : goal.returns-clause-means
returns-clause-means g c =
    ends_alike (rest_in c.args.rest.now c.args.level) c.self.inside.cpu (watched_of c.new-port.result) (watched_of c.carry_out-end.new.port)
    c.carry_out-end.result c.carry_out-end.new.cpu c.carry_out-end.ensures.means (ap (λ (s : Seat). s.cpu) c.self.view_is) (search rules) (search rules)

pub returns-clause-stays : goal.returns-clause-stays
returns-clause-stays g c = λ so.
    let told = sym c.has_changed.ensures ∙ not_false c.has_changed.result so in
    (search rules)
    ∙ shadow_stays (rest_in c.args.rest.now c.args.level) c.self.inside.cpu (watched_of c.new-port.result) (watched_of c.carry_out-end.new.port)
    c.carry_out-end.result c.carry_out-end.new.cpu c.carry_out-end.ensures.means told
    ∙ (search rules)

pub returns-clause-seated : goal.returns-clause-seated
returns-clause-seated g c =
    let n = c.args.self.now in
    seated_behind n (g.R.Ram.bytes c.args.ram.now) (rest_in c.args.rest.now c.args.level n.cpu) c.carry_out-end.result c.carry_out-end.new.cpu c.requires.seated
    c.size.ensures.bytes (search rules)
    (record { base = search rules; size = search rules; inside = search rules; area = search rules; maps = search rules; tables = search rules })
    (returns-clause-means g c)
