use Rattle.std.proofs.Common.{◌∙◌, ap, sym}
use Rattle.def_processor.specs.Raise.{with_ct}
use Rattle.mb_step.proofs.raising.unchecked.Goals as goal

pub returns-clause-means : goal.returns-clause-means
returns-clause-means g c =
    rw (sym (c.with_ct-fields.ensures.value ∙ ap (with_ct c.args.is_trace) (c.check_fields.ensures 0))) c.access_error.ensures.means
