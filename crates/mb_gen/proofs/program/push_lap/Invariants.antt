-- The bytes so far, with those of the draws that are left, are those before the loop with all.
use Rattle.std.proofs.Common.{◌≡◌, ◌-◌, ◌++◌}
use Rattle.mb_gen.specs.Draws.{after, draws}
use Rattle.mb_gen.specs.Seen.{generator_seen}
use Rattle.mb_gen.proofs.Laps.{picks}
use Rattle.mb_gen.proofs.program.push_lap.Given as goal

abbrev pub invariant-loop : goal.invariant-loop
invariant-loop l = record {
  bytes : l.bytes.items ++ picks (draws (2000 - l.counter) (generator_seen l.generator))
      ≡ l.fn.bytes.items ++ picks (draws 2000 (generator_seen l.fn.generator));
  after : after (2000 - l.counter) (generator_seen l.generator) ≡ after 2000 (generator_seen l.fn.generator);
}
