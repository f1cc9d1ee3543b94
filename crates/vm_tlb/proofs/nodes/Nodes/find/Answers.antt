use Rattle.std.proofs.Common.{◌∙◌, ℕ, ap, sym, arith, Some}
use Rattle.vm_tlb.specs.Links.{links_of, number_of, order, vacant}
use Rattle.vm_tlb.proofs.Changes.{inside}
use Rattle.vm_tlb.proofs.Finding.{place-none, place-some}
use Rattle.vm_tlb.proofs.NodeReads.{node_read}
use Rattle.vm_tlb.proofs.nodes.Nodes.find.Goals as goal

pub returns-then-at-eq-END : goal.returns-then-at-eq-END
returns-then-at-eq-END c =
    let l = links_of c.args.self.now in
    sym (place-none c.args.space c.args.page l.kept (order l)
    (λ k h. inside l.newer l.older l.next (number_of l.kept) (order l) (vacant l) c.requires.sound.1 k (omega (arith, h)))
    (sym c.place_of-at.ensures.place ∙ c.if-at-eq-END.true))

pub returns-else-at-eq-END : goal.returns-else-at-eq-END
returns-else-at-eq-END c =
    let l = links_of c.args.self.now in
    let e = c.place_of-at.ensures.place in
    let p = place-some c.args.space c.args.page l.kept (order l) c.requires.apart (λ i. c.if-at-eq-END.false (e ∙ i)) in
    let r = node_read c.args.self.now c.place_of-at.result c.index.result.now c.requires.sound.0
    (omega (arith, c.place_of-at.ensures.inside, c.if-at-eq-END.false)) c.index.ensures in
    sym (p.0 ∙ ap (λ (n : ℕ). Some (l.kept n)) (sym e) ∙ ap Some r.kept)
