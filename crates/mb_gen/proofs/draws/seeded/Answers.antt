use Rattle.std.proofs.Common.{ap, ◌∙◌}
use Rattle.mb_gen.specs.Seen.{generator_seen}
use Rattle.mb_gen.proofs.Kit.{seeded_alike}
use Rattle.mb_gen.proofs.draws.seeded.Goals as goal

pub returns : goal.returns
returns c = ap generator_seen c.seed_from_u64.ensures ∙ seeded_alike c.args.seed
