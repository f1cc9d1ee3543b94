use Rattle.std.proofs.lemmas.Bool.Decides.{same_from_decides}
use Rattle.mb_model.specs.Seen.{seen_of}
use Rattle.mb_report.specs.Same.{same_seen}
use Rattle.mb_report.proofs.SameLemmas.{seen_decides}
use Rattle.mb_report.proofs.comparison.same.Goals as goal

pub returns-clause-tested : goal.returns-clause-tested
returns-clause-tested c =
    same_from_decides c.same_parts.result (same_seen (seen_of c.args.a.now) (seen_of c.args.b.now)) c.same_parts.ensures
    (seen_decides (seen_of c.args.a.now) (seen_of c.args.b.now))
