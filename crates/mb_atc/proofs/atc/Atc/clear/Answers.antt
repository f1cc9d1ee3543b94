use Rattle.std.proofs.Common.{◌≡◌, ◌∙◌, sym, ap, length}
use Rattle.std.proofs.lemmas.List.{length-map}
use Rattle.mb_model.specs.Keeping.{KeptLists}
use Rattle.mb_atc.proofs.Emptied.{flushed_all}
use Rattle.mb_atc.proofs.atc.Atc.clear.Goals as goal

pub returns : goal.returns
returns c =
    let sets = c.self.inside.sets.items in
    let count : length c.args.self.now ≡ 32 =
    ap (λ (kept : KeptLists). length kept) (sym c.self.view_is) ∙ length-map sets (λ set. set.items) ∙ c.self.invariant.0 in
    c.flush.ensures ∙ flushed_all 32 c.args.self.now count
