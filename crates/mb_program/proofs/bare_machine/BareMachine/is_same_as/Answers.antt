use Rattle.std.proofs.Common.{◌≡◌, ◌∙◌, rules}
use Rattle.std.specs.Prelude.{◌-◌, ◌&&◌}
use Rattle.def_machine.specs.Machine.{seen_machine}
use Rattle.mb_model.specs.Seen.{seen_of}
use Rattle.mb_report.specs.Same.{same_seen}
use Rattle.vm_slices.specs.Places.{members_in}
use Rattle.mb_program.specs.Answers.{same_disks}
use Rattle.mb_program.specs.Compares.{ahead_of, reached}
use Rattle.mb_program.proofs.MachineLemmas.{member_at, will_so}
use Rattle.mb_program.proofs.bare_machine.BareMachine.is_same_as.Goals as goal

pub returns : goal.returns
returns c =
    let machine = ahead_of c.args.self in
    let after = reached c.script.result.now machine in
    let found : c.if-shown.result ≡ same_seen (seen_machine after) (seen_of c.outcome-2.result)
    && same_disks after.world.devices.disk c.devices-2.result.now.disk = search rules in
    member_at (members_in c.args.host.now) (c.args.number - 1) _ _ _ _ c.outcome-2.ensures.shown c.devices-2.ensures c.script.ensures
    (λ m seen devices script. found ∙ will_so machine m _ _ _ seen devices script)
