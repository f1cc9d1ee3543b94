use Rattle.std.proofs.Common.{◌∙◌, length-set}
use Rattle.std.proofs.lemmas.List.Elements.{All-set}
use Rattle.mb_table.specs.ThreeWords.{IsRight}
use Rattle.mb_table.proofs.three_words.ThreeWords.keep.Goals as goal

pub invariant_of-self : goal.invariant_of-self
invariant_of-self c =
    let slots = c.self.inside.slots.items in
    let at = c.slot.result in (
      length-set slots at c.put.new.kept ∙ c.self.invariant.0,
      All-set IsRight slots at c.put.new.kept c.put.ensures c.self.invariant.1,
    )
