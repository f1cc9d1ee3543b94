use Rattle.std.proofs.Common.{ap, rules, tests}
use Rattle.std.specs.Prelude.{not}
use Rattle.std.proofs.lemmas.Iterator.{YieldsList-from_slice}
use Rattle.std.proofs.lemmas.Iterator.Search.{any_from_yields_List}
use Rattle.mb_model.specs.Keeping.{is_of}
use Rattle.vm_snapshot.proofs.free_pages.is_free.Goals as goal

pub returns : goal.returns
returns c =
    ap not
    (any_from_yields_List (is_of c.args.space c.args.page) _ _ c.any.result c.any.ensures.ran (YieldsList-from_slice c.args.kept.now cc)
    (λ x b q k. search (rules, tests)))
