use Rattle.std.proofs.Common.{◌≡◌, ◌∙◌, ◌==◌, ◌<◌, true, false, sym, arith, inl, inr, length}
use Rattle.std.specs.Prelude.{nat_eq}
use Rattle.std.proofs.lemmas.Bool.{cases_eq}
use Rattle.std.proofs.lemmas.Bool.Decides.{nat_tests}
use Rattle.vm_tlb.specs.Links.{links_of, entries}
use Rattle.vm_tlb.proofs.Fills.{full, not_full}
use Rattle.vm_tlb.proofs.nodes.Nodes.is_full.Goals as goal

pub returns : goal.returns
returns c =
    let l = links_of c.args.self.now in
    elim (cases_eq c.next.result 256) [
      | inl e ↦
          let n : length (entries l) ≡ 256 = full l c.requires.1 (sym c.next.ensures ∙ e) in
          let a : nat_eq c.next.result 256 ≡ true = grind (arith, nat_tests) in
          let b : (length (entries l) == 256) ≡ true = grind (arith, nat_tests) in
          a ∙ sym b
      | inr d ↦
          let n : length (entries l) < 256 = not_full l c.requires.1 (λ e. d (c.next.ensures ∙ e)) in
          let a : nat_eq c.next.result 256 ≡ false = grind (arith, nat_tests) in
          let b : (length (entries l) == 256) ≡ false = grind (arith, nat_tests) in
          a ∙ sym b
    ]
