use Rattle.std.proofs.Common.{rules, arith}
use Rattle.std.proofs.lemmas.Grind.{common_steps}
use Rattle.mb_script.proofs.Rams.{pushed, pushed_disk}
use Rattle.mb_script.proofs.session_reading.guests.Goals as goal

pub loop-line-preserved : goal.loop-line-preserved
loop-line-preserved c = record {
  guests = grind (arith, common_steps);
  past = search rules;
  some = search rules;
  few = search rules;
  rams = rw c.in_ok-push-2.ensures.items (pushed c.loop-line.guests.items c.in_ok-guest.guest c.loop-line.invariant.rams c.in_ok-guest.ensures.ram);
  disks = rw c.in_ok-push-2.ensures.items (pushed_disk c.loop-line.guests.items c.in_ok-guest.guest c.loop-line.invariant.disks c.in_ok-guest.ensures.disk);
}
