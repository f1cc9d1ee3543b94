use Rattle.mb_table.proofs.Learnt.{fresh}
use Rattle.mb_table.proofs.shorts.Shorts.new.Goals as goal

pub invariant_of-result : goal.invariant_of-result
invariant_of-result c = fresh _ (c.in_ok-forms.ensures.items_if_clones_equal (λ y same. same))
