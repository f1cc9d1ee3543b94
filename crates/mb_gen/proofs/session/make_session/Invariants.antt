-- The guests so far, with those of the draws that are left, are all.
use Rattle.std.proofs.Common.{◌≡◌, ◌-◌, ◌++◌}
use Rattle.mb_gen.specs.Draws.{seeded}
use Rattle.mb_gen.specs.Seen.{generator_seen}
use Rattle.mb_gen.specs.Sessions.{guests_from}
use Rattle.mb_gen.proofs.session.make_session.Given as goal

abbrev pub invariant-loop : goal.invariant-loop
invariant-loop l = l.all.items ++ guests_from (l.guests - l.counter) (generator_seen l.generator) ≡ guests_from l.guests (seeded l.seed)
