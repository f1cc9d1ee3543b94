use Rattle.std.proofs.Common.{◌≡◌, ◌∙◌, ◌<◌, ℕ, List, true, false, ap, sym, subst, arith, map}
use Rattle.mb_model.specs.Keeping.{is_of, covers, flushed_in, Apart}
use Rattle.law_links.specs.Paths.{times}
use Rattle.vm_tlb.specs.Links.{links_of, number_of, order, vacant}
use Rattle.vm_tlb.proofs.Changes.{inside}
use Rattle.vm_tlb.proofs.Finding.{place-none, place-some, split_at}
use Rattle.vm_tlb.proofs.Flushes.{flush_none, flush_one, flush_kept}
use Rattle.vm_tlb.proofs.NodeReads.{node_read}
use Rattle.vm_tlb.proofs.nodes.Nodes.drop_page.Goals as goal
use Rattle.vm_tlb.proofs.nodes.Nodes.drop_page.Goals.{else-at-ne-END-via-then-at-ne-END+else-is_covered, else-at-ne-END-via-else-at-ne-END}

pub unlink-requires-clause-live : goal.unlink-requires-clause-live
unlink-requires-clause-live c =
    let l = links_of c.args.self.now in
    let e = c.place_of-at.ensures.place in
    let p = place-some c.args.space c.args.page l.kept (order l) c.requires.apart (λ i. c.if-at-ne-END.true (e ∙ i)) in
    split_at c.place_of-at.result (order l) (subst (λ (n : ℕ). 0 < times n (order l)) (sym e) p.2)

pub returns-then-is_covered-clause-entries : goal.returns-then-is_covered-clause-entries
returns-then-is_covered-clause-entries c =
    let l = links_of c.args.self.now in
    let at = c.place_of-at.result in
    let e = c.place_of-at.ensures.place in
    let p = place-some c.args.space c.args.page l.kept (order l) c.requires.apart (λ i. c.if-at-ne-END.true (e ∙ i)) in
    let s = split_at at (order l) (subst (λ (n : ℕ). 0 < times n (order l)) (sym e) p.2) in
    let r = node_read c.args.self.now at c.index.result.now c.requires.sound.0
    (omega (arith, c.place_of-at.ensures.inside, c.if-at-ne-END.true)) c.index.ensures in
    let t : covers c.args.what (l.kept at) ≡ true = ap (covers c.args.what) r.kept ∙ sym c.is_covered.ensures ∙ c.if-is_covered.true in
    (λ i. map (c.unlink.ensures.kept i) (c.unlink.ensures.order s.0 s.1 s.2 i))
    ∙ sym (flush_one c.args.space c.args.page c.args.what c.requires.page l.kept s.0 at s.1
    (subst (λ (o : List ℕ). Apart (map l.kept o)) s.2 c.requires.apart) t)
    ∙ ap (λ (o : List ℕ). flushed_in c.args.what (map l.kept o)) (sym s.2)

pub returns-else-at-ne-END-clause-entries : goal.returns-else-at-ne-END-clause-entries
returns-else-at-ne-END-clause-entries c =
    let l = links_of c.args.self.now in
    let at = c.place_of-at.result in
    let e = c.place_of-at.ensures.place in
    elim c.else-at-ne-END.branch [
      | else-at-ne-END-via-then-at-ne-END+else-is_covered w ↦
          let p = place-some c.args.space c.args.page l.kept (order l) c.requires.apart (λ i. w.if-at-ne-END.true (e ∙ i)) in
          let here = subst (λ (n : ℕ). 0 < times n (order l)) (sym e) p.2 in
          let of_it = subst (λ (n : ℕ). is_of c.args.space c.args.page (l.kept n) ≡ true) (sym e) p.1 in
          let r = node_read c.args.self.now at w.index.result.now c.requires.sound.0
          (omega (arith, c.place_of-at.ensures.inside, w.if-at-ne-END.true)) w.index.ensures in
          let f : covers c.args.what (l.kept at) ≡ false = ap (covers c.args.what) r.kept ∙ sym w.is_covered.ensures ∙ w.if-is_covered.false in
          sym (flush_kept c.args.space c.args.page c.args.what c.requires.page l.kept (order l) at c.requires.apart here of_it f)
      | else-at-ne-END-via-else-at-ne-END w ↦
          sym (flush_none c.args.space c.args.page c.args.what c.requires.page (map l.kept (order l))
          (place-none c.args.space c.args.page l.kept (order l)
          (λ k h. inside l.newer l.older l.next (number_of l.kept) (order l) (vacant l) c.requires.sound.1 k (omega (arith, h)))
          (sym e ∙ w.if-at-ne-END.false)))
    ]
