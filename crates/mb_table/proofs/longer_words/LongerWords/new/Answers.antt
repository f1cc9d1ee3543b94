use Rattle.std.proofs.Common.{All, List, length, ap, sym, subst, ◌∙◌}
use Rattle.std.proofs.lemmas.List.{length-replicate}
use Rattle.std.proofs.lemmas.List.Elements.{All-replicate}
use Rattle.mb_table.specs.declared.longer_words.Longer.{Longer}
use Rattle.mb_table.specs.LongerWords.{IsRight}
use Rattle.mb_table.proofs.longer_words.LongerWords.new.Goals as goal

pub invariant_of-result : goal.invariant_of-result
invariant_of-result c =
    let copies = c.in_ok-slots.ensures.items_if_clones_equal (λ y same. same) in (
      ap (λ (all : List Longer). length all) copies ∙ length-replicate 8192 c.zeros.result,
      subst (λ (all : List Longer). All IsRight all) (sym copies) (All-replicate IsRight 8192 c.zeros.result c.zeros.ensures),
    )
