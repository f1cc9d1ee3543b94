use Rattle.std.proofs.Common.{◌≡◌, ◌∙◌, ◌≤◌, ℕ, ap, sym, subst, arith}
use Rattle.law_links.specs.Paths.{updated}
use Rattle.vm_tlb.specs.Links.{Links, links_of, order, IsLinked}
use Rattle.vm_tlb.proofs.NodeReads.{Reads, node_read}
use Rattle.vm_tlb.proofs.Moves.{cut, cut_left, live_inside, ends_low}
use Rattle.vm_tlb.proofs.nodes.Nodes.unlink.Goals as goal
use Rattle.vm_tlb.proofs.nodes.Nodes.unlink.Goals.{After-set_next-3}

-- the six writes are one cut
changed : (c : After-set_next-3) → links_of c.set_next-3.new.self ≡
    cut c.args.at c.before-before.result ((links_of c.args.self.now).older c.args.at) ((links_of c.args.self.now).newer c.args.at)
    ((links_of c.args.self.now).next c.args.at) (links_of c.args.self.now)
changed c =
    let l = links_of c.args.self.now in
    let at = c.args.at in
    let b = c.before-before.result in
    let n = c.index-node.result.now in
    let low = live_inside l at c.requires.live.0 c.requires.live.1 c.requires.live.2 c.requires.sound.1 in
    let r : Reads c.args.self.now at n = node_read c.args.self.now at n c.requires.sound.0 low c.index-node.ensures in
    let l3 = links_of c.set_next.new.self in
    let s2 = λ (m : Links). record m { older = updated m.older n.newer n.older } in
    let s3 = λ (m : Links). record m { next = updated m.next b n.next } in
    let s4 = λ (m : Links). record m { next = updated m.next at (m.next 320) } in
    let s5 = λ (m : Links). record m { next = updated m.next 320 at } in
    let e3 = c.set_next.ensures.links ∙ ap s3 (c.set_older.ensures.links ∙ ap s2 c.set_newer.ensures.links) in
    let e4 = c.set_next-2.ensures.links ∙ ap (λ (f : ℕ). record l3 { next = updated l3.next at f }) c.next-free.ensures ∙ ap s4 e3 in
    c.set_next-3.ensures.links ∙ ap s5 e4
    ∙ ap (λ (o : ℕ). cut at b o n.newer n.next l) (sym r.older)
    ∙ ap (λ (o : ℕ). cut at b (l.older at) o n.next l) (sym r.newer)
    ∙ ap (λ (o : ℕ). cut at b (l.older at) (l.newer at) o l) (sym r.next)

pub returns-clause-sound : goal.returns-clause-sound
returns-clause-sound c =
    let l = links_of c.args.self.now in
    let left = cut_left l c.args.at c.requires.live.0 c.requires.live.1 c.requires.live.2 c.requires.sound.1 c.before-before.result
    c.before-before.ensures.place in
    (c.set_next-3.ensures.sized, subst IsLinked (sym (changed c)) left.linked)

pub returns-clause-order : goal.returns-clause-order
returns-clause-order c xs ys is =
    let l = links_of c.args.self.now in
    let left = cut_left l c.args.at xs ys is c.requires.sound.1 c.before-before.result c.before-before.ensures.place in
    ap order (changed c) ∙ left.order

pub returns-clause-kept : goal.returns-clause-kept
returns-clause-kept c = ap (λ (m : Links). m.kept) (changed c)

pub index-node-requires : goal.index-node-requires
index-node-requires c =
    let low = live_inside (links_of c.args.self.now) c.args.at c.requires.live.0 c.requires.live.1 c.requires.live.2 c.requires.sound.1 in
    omega (arith, low, c.requires.sound.0.0)

pub set_newer-requires-clause-inside : goal.set_newer-requires-clause-inside
set_newer-requires-clause-inside c =
    let l = links_of c.args.self.now in
    let low = live_inside l c.args.at c.requires.live.0 c.requires.live.1 c.requires.live.2 c.requires.sound.1 in
    let ends = ends_low l c.args.at c.requires.live.0 c.requires.live.1 c.requires.live.2 c.requires.sound.1 in
    let r : Reads c.args.self.now c.args.at c.index-node.result.now =
    node_read c.args.self.now c.args.at c.index-node.result.now c.requires.sound.0 low c.index-node.ensures in
    subst (λ (n : ℕ). n ≤ 256) r.older ends.1

pub set_older-requires-clause-inside : goal.set_older-requires-clause-inside
set_older-requires-clause-inside c =
    let l = links_of c.args.self.now in
    let low = live_inside l c.args.at c.requires.live.0 c.requires.live.1 c.requires.live.2 c.requires.sound.1 in
    let ends = ends_low l c.args.at c.requires.live.0 c.requires.live.1 c.requires.live.2 c.requires.sound.1 in
    let r : Reads c.args.self.now c.args.at c.index-node.result.now =
    node_read c.args.self.now c.args.at c.index-node.result.now c.requires.sound.0 low c.index-node.ensures in
    subst (λ (n : ℕ). n ≤ 256) r.newer ends.0

pub set_next-requires-2-clause-inside : goal.set_next-requires-2-clause-inside
set_next-requires-2-clause-inside c =
    let low = live_inside (links_of c.args.self.now) c.args.at c.requires.live.0 c.requires.live.1 c.requires.live.2 c.requires.sound.1 in
    omega (arith, low)
