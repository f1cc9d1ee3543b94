use Rattle.std.proofs.Common.{◌∙◌, length-set}
use Rattle.std.proofs.lemmas.List.Elements.{All-set}
use Rattle.mb_table.specs.PlacedShorts.{IsPlaced}
use Rattle.mb_table.proofs.placed_shorts.PlacedShorts.of.Goals.{then-index-first, else-index-first}
use Rattle.mb_table.proofs.placed_shorts.PlacedShorts.of.Goals as goal

pub invariant_of-self : goal.invariant_of-self
invariant_of-self c =
    let placed = c.self.inside.placed.items in
    elim c.if-index-first.branch [
      | then-index-first w ↦ rw w.self-inside-is (
        length-set placed c.place_of-place.result _ ∙ c.self.invariant.0,
        All-set IsPlaced placed c.place_of-place.result _ w.kept.ensures.short c.self.invariant.1,
      )
      | else-index-first w ↦ rw w.self-inside-is c.self.invariant
    ]
