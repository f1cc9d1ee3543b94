use Rattle.std.proofs.Common.{ℕ, All, List, length, ap, sym, subst, ◌∙◌}
use Rattle.std.proofs.lemmas.List.{length-replicate}
use Rattle.std.proofs.lemmas.List.Elements.{All-replicate}
use Rattle.mb_table.specs.declared.first_words.Known.{Known}
use Rattle.mb_table.specs.FirstWords.{IsKnown}
use Rattle.mb_table.proofs.first_words.FirstWords.new.Goals as goal

pub invariant_of-result : goal.invariant_of-result
invariant_of-result c =
    let zeros = c.in_ok-places.ensures.items_if_clones_equal (λ y same. same) in
    let copies = c.in_ok-known.ensures.items_if_clones_equal (λ y same. same) in (
      ap (λ (all : List ℕ). length all) zeros ∙ length-replicate {A = ℕ} 65536 0,
      ap (λ (all : List Known). length all) copies ∙ length-replicate 4096 c.decoded.result,
      subst (λ (all : List Known). All IsKnown all) (sym copies) (All-replicate IsKnown 4096 c.decoded.result c.decoded.ensures.right),
    )
