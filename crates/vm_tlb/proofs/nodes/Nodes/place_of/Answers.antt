use Rattle.std.proofs.Common.{◌∙◌, ◌+◌, ◌<◌, ℕ, ap, sym, subst, arith, length}
use Rattle.mb_model.specs.Keeping.{is_of}
use Rattle.vm_tlb.specs.Chains.{chain}
use Rattle.law_links.specs.Paths.{walk}
use Rattle.vm_tlb.specs.Links.{links_of, chain_of, number_of, order, vacant}
use Rattle.vm_tlb.proofs.Walks.{Along, along-step, along-end, along-chain}
use Rattle.vm_tlb.proofs.NodeReads.{node_read}
use Rattle.vm_tlb.proofs.nodes.Nodes.place_of.Goals as goal

pub loop-at-init : goal.loop-at-init
loop-at-init c =
    let l = links_of c.args.self.now in
    let number = chain_of c.args.space c.args.page in
    let low : number < 64 = omega (arith, c.chain_of.ensures.chain, c.chain_of.ensures.inside) in
    let p = λ (at : ℕ). is_of c.args.space c.args.page (l.kept at) in
    subst (Along l.next p (chain (number_of l.kept) number (order l))) (sym (c.next-at.ensures ∙ ap (λ (m : ℕ). l.next (256 + m)) c.chain_of.ensures.chain))
    (along-chain l.newer l.older l.next (number_of l.kept) (order l) (vacant l) c.requires.1 number p low)

pub index-node-requires : goal.index-node-requires
index-node-requires c =
    let s = along-step _ _ _ c.loop-at.at c.loop-at.invariant c.loop-at-test.true in
    omega (arith, s.low, c.requires.0.0)

pub loop-at-smaller : goal.loop-at-smaller
loop-at-smaller c =
    let l = links_of c.args.self.now in
    let s = along-step _ _ _ c.loop-at.at c.loop-at.invariant c.loop-at-test.true in
    let r = node_read c.args.self.now c.loop-at.at c.index-node.result.now c.requires.0 s.low c.index-node.ensures in
    subst (λ (n : ℕ). length (walk 256 l.next 256 n) < length (walk 256 l.next 256 c.loop-at.at)) r.next s.fewer

pub loop-at-preserved : goal.loop-at-preserved
loop-at-preserved c =
    let l = links_of c.args.self.now in
    let p = λ (at : ℕ). is_of c.args.space c.args.page (l.kept at) in
    let s = along-step _ _ _ c.loop-at.at c.loop-at.invariant c.loop-at-test.true in
    let r = node_read c.args.self.now c.loop-at.at c.index-node.result.now c.requires.0 s.low c.index-node.ensures in
    subst (Along l.next p (chain (number_of l.kept) (chain_of c.args.space c.args.page) (order l))) r.next
    (s.goes (ap (is_of c.args.space c.args.page) r.kept ∙ sym c.is_of.ensures ∙ c.if-is_of.false))

pub returns-after-loop-at-clause-place : goal.returns-after-loop-at-clause-place
returns-after-loop-at-clause-place c = along-end _ _ _ c.loop-at.at c.loop-at.invariant c.loop-at-test.false

pub returns-then-is_of-clause-place : goal.returns-then-is_of-clause-place
returns-then-is_of-clause-place c =
    let l = links_of c.args.self.now in
    let s = along-step _ _ _ c.loop-at.at c.loop-at.invariant c.loop-at-test.true in
    let r = node_read c.args.self.now c.loop-at.at c.index-node.result.now c.requires.0 s.low c.index-node.ensures in
    s.found (ap (is_of c.args.space c.args.page) r.kept ∙ sym c.is_of.ensures ∙ c.if-is_of.true)

pub returns-then-is_of-clause-inside : goal.returns-then-is_of-clause-inside
returns-then-is_of-clause-inside c =
    let s = along-step _ _ _ c.loop-at.at c.loop-at.invariant c.loop-at-test.true in
    omega (arith, s.low)
