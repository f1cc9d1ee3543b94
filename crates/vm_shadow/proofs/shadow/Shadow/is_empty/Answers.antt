use Rattle.std.proofs.Common.{◌∙◌, ◌==◌, ℕ, ap, sym}
use Rattle.vm_shadow.specs.Slots.{Slots, placed}
use Rattle.vm_shadow.proofs.Views.{counts_are}
use Rattle.vm_shadow.proofs.shadow.Shadow.is_empty.Goals as goal

pub returns : goal.returns
returns c =
    let slot = c.args.slot in
    ap (λ (n : ℕ). n == 0) (c.count.ensures ∙ ap (λ (f : ℕ → ℕ). f slot) (sym (counts_are c.self.inside.nodes))
    ∙ ap (λ (q : Slots). (placed q).count slot) c.self.view_is)
