use Rattle.std.proofs.Common.{◌∙◌, length-set}
use Rattle.std.proofs.lemmas.List.Elements.{All-set}
use Rattle.mb_table.specs.PlacedShorts.{IsPlaced}
use Rattle.mb_table.proofs.placed_shorts.PlacedShorts.renew.Goals as goal

pub invariant_of-self : goal.invariant_of-self
invariant_of-self c =
    let placed = c.self.inside.placed.items in (
      length-set placed c.place_of.result _ ∙ c.self.invariant.0,
      All-set IsPlaced placed c.place_of.result _ c.kept.ensures.short c.self.invariant.1,
    )
