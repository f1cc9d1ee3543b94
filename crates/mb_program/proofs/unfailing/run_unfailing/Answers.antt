use Rattle.std.proofs.Common.{map, string_bytes, arith}
use Rattle.mb_outside.specs.Stored.{stored_or_empty}
use Rattle.mb_words.specs.Words.{asked_by}
use Rattle.mb_program.proofs.CauseLemmas.{unfailing_so}
use Rattle.mb_program.proofs.unfailing.run_unfailing.Goals as goal

pub returns-clause-answered : goal.returns-clause-answered
returns-clause-answered c =
    let causes = c.run_program.ensures.causes in
    unfailing_so (asked_by (map string_bytes c.args.words.now)) (stored_or_empty c.args.files.items) _ _ c.run_program.result c.new-shelf.ensures.told causes
    (λ five. let rose = (causes.unread_only five).rose in omega (arith, rose.1))
    (λ six. let rose = (causes.output_only six).rose in omega (arith, rose.1))
