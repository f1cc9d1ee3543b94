use Rattle.std.proofs.Common.{rules, tests}
use Rattle.std.proofs.lemmas.Iterator.{YieldsList-from_slice}
use Rattle.std.proofs.lemmas.Iterator.Search.{all_from_yields_List}
use Rattle.mb_statement.specs.Written.{has_text}
use Rattle.mb_statement.proofs.written.have_texts.Goals as goal

pub returns : goal.returns
returns c =
    all_from_yields_List has_text _ _ c.all.result c.all.ensures.ran (YieldsList-from_slice c.args.operands.now cc)
    (λ x b q k. search (rules, tests))
