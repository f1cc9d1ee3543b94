use Rattle.std.proofs.Common.{◌∙◌, ℕ, ap}
use Rattle.vm_shadow.specs.Links.{links_of}
use Rattle.vm_shadow.proofs.Views.{counts_are, empty_view}
use Rattle.vm_shadow.proofs.shadow.Shadow.empty.Goals as goal

pub returns-clause-tables : goal.returns-clause-tables
returns-clause-tables c = empty_view (links_of c.reset.new.self) c.reset.ensures.order

pub returns-clause-count : goal.returns-clause-count
returns-clause-count c slot low = ap (λ (f : ℕ → ℕ). f slot) (counts_are c.reset.new.self) ∙ c.reset.ensures.count slot low
