use Rattle.std.proofs.Common.{ap, ◌∙◌}
use Rattle.rand_pcg.specs.Lcg.{Lcg}
use Rattle.std.proofs.Common.{ℕ}
use Rattle.mb_gen.specs.Seen.{generator_seen}
use Rattle.mb_gen.proofs.Kit.{next_alike, drawn_alike}
use Rattle.mb_gen.proofs.draws.draw.Goals as goal

pub returns-clause-drawn : goal.returns-clause-drawn
returns-clause-drawn c = ap (λ (p : ℕ × Lcg). p.0) c.next_word.ensures ∙ drawn_alike c.args.generator.now

pub returns-clause-next : goal.returns-clause-next
returns-clause-next c = ap (λ (p : ℕ × Lcg). generator_seen p.1) c.next_word.ensures ∙ next_alike c.args.generator.now
