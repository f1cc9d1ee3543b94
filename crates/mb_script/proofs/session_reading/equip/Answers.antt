use Rattle.std.proofs.Common.{◌≡◌, ◌∙◌, get_or, true, false, ap, sym, subst}
use Rattle.std.specs.Prelude.{is_some}
use Rattle.mb_script.specs.declared.plan.GuestPlan.{GuestPlan}
use Rattle.mb_script.specs.Answers.{disk_said, guest_said}
use Rattle.mb_script.specs.Plan.{Guest, HasDisk, IsRam}
use Rattle.mb_script.proofs.Disks.{any_default, disks_changed, gives_plans, has_shown, one_of, rams_changed, refuses_plans}
use Rattle.mb_script.proofs.session_reading.equip.Goals as goal

pub returns-then-is_some-clause-given : goal.returns-then-is_some-clause-given
returns-then-is_some-clause-given c =
    let gs = c.args.guests.now in
    let here = c.index-guests-place.result in
    let plan = get_or gs c.args.place here in
    refuses_plans c.args.place (disk_said c.args.disk) gs plan c.requires.place (any_default gs c.args.place here plan c.requires.place)
    (has_shown _ c.disk.result _ true c.disk.ensures (let e : is_some c.disk.result ≡ true = cc in e))

pub returns-clause-given : goal.returns-clause-given
returns-clause-given c =
    let gs = c.args.guests.now in
    let here = c.index-guests-place.result in
    let there = c.index-guests-place-2.result in
    let plan = get_or gs c.args.place there in
    gives_plans c.args.place (disk_said c.args.disk) gs plan c.set_disk.new.self c.requires.place
    (any_default gs c.args.place there plan c.requires.place) c.set_disk.ensures
    (ap (λ (g : GuestPlan). is_some (guest_said g).disk) (any_default gs c.args.place there here c.requires.place)
    ∙ has_shown _ c.disk.result _ false c.disk.ensures (let e : is_some c.disk.result ≡ false = cc in e))

pub returns-clause-rams : goal.returns-clause-rams
returns-clause-rams c =
    let gs = c.args.guests.now in
    let there = c.index-guests-place-2.result in
    let plan = get_or gs c.args.place there in
    rams_changed gs c.args.place c.set_disk.new.self c.requires.rams
    (subst (λ (g : Guest). IsRam g.ram) (sym c.set_disk.ensures)
    (one_of (λ (g : Guest). IsRam g.ram) gs c.args.place plan c.requires.rams c.requires.place
    (any_default gs c.args.place there plan c.requires.place)))

pub returns-clause-disks : goal.returns-clause-disks
returns-clause-disks c =
    disks_changed c.args.guests.now c.args.place c.set_disk.new.self c.requires.disks
    (subst HasDisk (sym c.set_disk.ensures) c.requires.blocks)
