use Rattle.std.proofs.Common.{◌∙◌, ap}
use Rattle.clap.specs.Words.{found_of}
use Rattle.mb_forms.specs.Forms.{value_in}
use Rattle.mb_forms.proofs.Parsed.{value_found}
use Rattle.mb_forms.proofs.uses.Uses.get.Goals as goal

pub returns : goal.returns
returns c =
    c.get_str.ensures
    ∙ value_found (found_of c.self.inside.matches) c.args.name.now _ c.self.invariant
    ∙ ap (value_in c.args.name.now) c.self.view_is
