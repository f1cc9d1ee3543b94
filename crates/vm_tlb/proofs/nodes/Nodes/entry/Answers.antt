use Rattle.std.proofs.Common.{◌∙◌, ◌-◌, ◌<◌, ℕ, Some, ap, sym, subst, arith, refl, length}
use Rattle.law_links.specs.Paths.{walk}
use Rattle.vm_tlb.specs.Links.{links_of, number_of, order, vacant}
use Rattle.vm_tlb.proofs.Changes.{inside}
use Rattle.vm_tlb.proofs.Counts.{Counting, count_step, count_past}
use Rattle.vm_tlb.proofs.NodeReads.{node_read}
use Rattle.vm_tlb.proofs.nodes.Nodes.entry.Goals as goal

pub loop-at-init : goal.loop-at-init
loop-at-init c =
    let l = links_of c.args.self.now in
    let linked = c.requires.1 in
    record {
      from = 256;
      tail = order l;
      led = refl;
      path = linked.ring;
      low = λ k h. inside l.newer l.older l.next (number_of l.kept) (order l) (vacant l) linked k (omega (arith, h));
      few = omega (arith, linked.all);
      same = refl;
    }

pub index-node-requires : goal.index-node-requires
index-node-requires c =
    let s = count_step _ _ _ _ c.loop-at.at c.loop-at.left c.loop-at.invariant c.loop-at-test.true in
    omega (arith, s.low, c.requires.0.0)

pub returns-then-left-eq0 : goal.returns-then-left-eq0
returns-then-left-eq0 c =
    let s = count_step _ _ _ _ c.loop-at.at c.loop-at.left c.loop-at.invariant c.loop-at-test.true in
    let r = node_read c.args.self.now c.loop-at.at c.index-node.result.now c.requires.0 s.low c.index-node.ensures in
    ap Some (sym r.kept) ∙ s.found c.if-left-eq0.true

pub loop-at-smaller : goal.loop-at-smaller
loop-at-smaller c =
    let l = links_of c.args.self.now in
    let s = count_step _ _ _ _ c.loop-at.at c.loop-at.left c.loop-at.invariant c.loop-at-test.true in
    let r = node_read c.args.self.now c.loop-at.at c.index-node.result.now c.requires.0 s.low c.index-node.ensures in
    subst (λ (n : ℕ). length (walk 256 l.newer 256 n) < length (walk 256 l.newer 256 c.loop-at.at)) r.newer s.fewer

pub loop-at-preserved : goal.loop-at-preserved
loop-at-preserved c =
    let l = links_of c.args.self.now in
    let s = count_step _ _ _ _ c.loop-at.at c.loop-at.left c.loop-at.invariant c.loop-at-test.true in
    let r = node_read c.args.self.now c.loop-at.at c.index-node.result.now c.requires.0 s.low c.index-node.ensures in
    subst (λ (n : ℕ). Counting l.newer l.kept (order l) c.args.place n (c.loop-at.left - 1)) r.newer (s.goes c.if-left-eq0.false)

pub returns : goal.returns
returns c = count_past _ _ _ _ c.loop-at.at c.loop-at.left c.loop-at.invariant c.loop-at-test.false
