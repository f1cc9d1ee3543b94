use Rattle.std.proofs.Common.{◌≡◌, ◌∙◌, ◌+◌, ◌<◌, ℕ, ap, sym, subst, arith, length, refl, ◌∷◌}
use Rattle.mb_model.specs.declared.kept.Kept.{Kept}
use Rattle.vm_tlb.specs.Chains.{chain}
use Rattle.law_links.specs.Paths.{walk, times}
use Rattle.vm_tlb.specs.Links.{links_of, chain_of, number_of, order, vacant}
use Rattle.law_links.proofs.Paths.{one, times-append}
use Rattle.vm_tlb.proofs.Changes.{inside}
use Rattle.vm_tlb.proofs.Walks.{Toward, nearer, arrived, toward-chain}
use Rattle.vm_tlb.proofs.NodeReads.{node_read}
use Rattle.vm_tlb.proofs.nodes.Nodes.before.Goals as goal

pub index-requires : goal.index-requires
index-requires c =
    let l = links_of c.args.self.now in
    let e = c.requires.live.2 in
    let here : 0 < times c.args.at (order l) =
    rw e (omega (arith, times-append c.args.at c.requires.live.0 (c.args.at ∷ c.requires.live.1), one c.args.at c.args.at refl)) in
    omega (
      arith,
      c.requires.sound.0.0,
      inside l.newer l.older l.next (number_of l.kept) (order l) (vacant l) c.requires.sound.1 c.args.at
          (omega (arith, here)),
    )

pub loop-next-init : goal.loop-next-init
loop-next-init c =
    let l = links_of c.args.self.now in
    let at = c.args.at in
    let e = c.requires.live.2 in
    let here : 0 < times at (order l) = rw e (omega (arith, times-append at c.requires.live.0 (at ∷ c.requires.live.1), one at at refl)) in
    let r = node_read c.args.self.now at c.index.result.now c.requires.sound.0
    (inside l.newer l.older l.next (number_of l.kept) (order l) (vacant l) c.requires.sound.1 at (omega (arith, here))) c.index.ensures in
    let is : number_of l.kept at ≡ c.chain_of-before.result = ap (λ (k : Kept). chain_of k.space k.page) r.kept ∙ sym c.chain_of-before.ensures.chain in
    let t = toward-chain l.newer l.older l.next (number_of l.kept) (order l) (vacant l) c.requires.sound.1 at here
    (omega (arith, is, c.chain_of-before.ensures.inside)) in
    let all = chain (number_of l.kept) (number_of l.kept at) (order l) in
    let root = 256 + number_of l.kept at in
    subst (λ (n : ℕ). Toward l.next at root all (256 + c.chain_of-before.result) n) (sym c.next-next.ensures)
    (subst (λ (n : ℕ). Toward l.next at root all (256 + n) (l.next (256 + n))) is t)

pub index-requires-in-loop-next : goal.index-requires-in-loop-next
index-requires-in-loop-next c =
    let s = nearer _ _ _ _ c.loop-next.before c.loop-next.next c.loop-next.invariant c.loop-next-test.true in
    omega (arith, s.low, c.requires.sound.0.0)

pub loop-next-smaller : goal.loop-next-smaller
loop-next-smaller c =
    let l = links_of c.args.self.now in
    let s = nearer _ _ _ _ c.loop-next.before c.loop-next.next c.loop-next.invariant c.loop-next-test.true in
    let r = node_read c.args.self.now c.loop-next.next c.index-in-loop-next.result.now c.requires.sound.0 s.low c.index-in-loop-next.ensures in
    subst (λ (n : ℕ). length (walk 256 l.next 256 n) < length (walk 256 l.next 256 c.loop-next.next)) r.next s.fewer

pub loop-next-preserved : goal.loop-next-preserved
loop-next-preserved c =
    let l = links_of c.args.self.now in
    let at = c.args.at in
    let s = nearer _ _ _ _ c.loop-next.before c.loop-next.next c.loop-next.invariant c.loop-next-test.true in
    let r = node_read c.args.self.now c.loop-next.next c.index-in-loop-next.result.now c.requires.sound.0 s.low c.index-in-loop-next.ensures in
    subst (Toward l.next at (256 + number_of l.kept at) (chain (number_of l.kept) (number_of l.kept at) (order l)) c.loop-next.next) r.next s.goes

pub returns-clause-place : goal.returns-clause-place
returns-clause-place c = arrived _ _ _ _ c.loop-next.before c.loop-next.next c.loop-next.invariant c.loop-next-test.false

pub returns-clause-inside : goal.returns-clause-inside
returns-clause-inside c = c.loop-next.invariant.within
