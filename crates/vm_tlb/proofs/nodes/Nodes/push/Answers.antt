use Rattle.std.proofs.Common.{◌≡◌, ◌∙◌, ◌+◌, ◌≤◌, ℕ, List, [], ◌∷◌, ◌++◌, ap, sym, subst, arith}
use Rattle.law_links.specs.Paths.{updated}
use Rattle.vm_tlb.specs.Links.{Links, links_of, chain_of, order, vacant, IsLinked}
use Rattle.vm_tlb.proofs.Moves.{Left, puts, put, put_left, first_free, free_low, newest_low}
use Rattle.vm_tlb.proofs.nodes.Nodes.push.Goals as goal
use Rattle.vm_tlb.proofs.nodes.Nodes.push.Goals.{After-set_older-2}

-- the eight writes put the first free node last
changed : (c : After-set_older-2) → links_of c.set_older-2.new.self ≡ put c.next-at.result c.args.kept (links_of c.args.self.now)
changed c =
    let l = links_of c.args.self.now in
    let l2 = links_of c.set_kept.new.self in
    let at = c.next-at.result in
    let k = c.args.kept in
    let root = 256 + c.chain_of-root.result in
    let newest = c.set_next-3.new.self.newest in
    let s2 = λ (m : Links). record m { kept = updated m.kept at k } in
    let s3 = λ (m : Links). record m { next = updated m.next at (m.next root) } in
    let s4 = λ (m : Links). record m { next = updated m.next root at } in
    let s5 = λ (m : Links). record m { newer = updated m.newer newest at } in
    let s6 = λ (m : Links). record m { newer = updated m.newer at 256 } in
    let s7 = λ (m : Links). record m { older = updated m.older at newest } in
    let s8 = λ (m : Links). record m { older = updated m.older 256 at } in
    let e1 = c.set_next.ensures.links ∙ ap (λ (f : ℕ). record l { next = updated l.next 320 f }) c.next-free.ensures in
    let e2 = c.set_kept.ensures.links ∙ ap s2 e1 in
    let e3 = c.set_next-2.ensures.links ∙ ap (λ (f : ℕ). record l2 { next = updated l2.next at f }) c.next-first.ensures ∙ ap s3 e2 in
    let e4 = c.set_next-3.ensures.links ∙ ap s4 e3 in
    let is : newest ≡ l.older 256 = ap (λ (m : Links). m.older 256) e4 in
    let e6 = c.set_newer-2.ensures.links ∙ ap s6 (c.set_newer.ensures.links ∙ ap s5 e4) in
    c.set_older-2.ensures.links ∙ ap s8 (c.set_older.ensures.links ∙ ap s7 e6)
    ∙ ap (λ (n : ℕ). puts at k newest n l) c.chain_of-root.ensures.chain
    ∙ ap (λ (n : ℕ). puts at k n (chain_of k.space k.page) l) is

-- the node that it took
taken : (c : After-set_older-2) (at : ℕ) (rest : List ℕ) → vacant (links_of c.args.self.now) ≡ at ∷ rest → c.next-at.result ≡ at
taken c at rest is = c.next-at.ensures ∙ first_free (links_of c.args.self.now) at rest is c.requires.sound.1

now_left : (c : After-set_older-2) (at : ℕ) (rest : List ℕ) → vacant (links_of c.args.self.now) ≡ at ∷ rest
    → Left (put c.next-at.result c.args.kept (links_of c.args.self.now)) (order (links_of c.args.self.now) ++ c.next-at.result ∷ []) rest
now_left c at rest is =
    put_left (links_of c.args.self.now) c.next-at.result rest (is ∙ ap (λ (n : ℕ). n ∷ rest) (sym (taken c at rest is))) c.requires.sound.1 c.args.kept

pub returns-clause-sound : goal.returns-clause-sound
returns-clause-sound c =
    (c.set_older-2.ensures.sized, subst IsLinked (sym (changed c)) (now_left c c.requires.room.0 c.requires.room.1 c.requires.room.2).linked)

pub returns-clause-order : goal.returns-clause-order
returns-clause-order c at rest is =
    ap order (changed c) ∙ (now_left c at rest is).order ∙ ap (λ (n : ℕ). order (links_of c.args.self.now) ++ n ∷ []) (taken c at rest is)

pub returns-clause-kept : goal.returns-clause-kept
returns-clause-kept c at rest is =
    ap (λ (m : Links). m.kept) (changed c) ∙ ap (λ (n : ℕ). updated (links_of c.args.self.now).kept n c.args.kept) (taken c at rest is)

pub next-free-requires-clause-inside : goal.next-free-requires-clause-inside
next-free-requires-clause-inside c =
    let l = links_of c.args.self.now in
    let at = c.requires.room.0 in
    let e : c.next-at.result ≡ at = c.next-at.ensures ∙ first_free l at c.requires.room.1 c.requires.room.2 c.requires.sound.1 in
    omega (arith, e, free_low l at c.requires.room.1 c.requires.room.2 c.requires.sound.1)

pub set_newer-requires-clause-inside : goal.set_newer-requires-clause-inside
set_newer-requires-clause-inside c =
    let l = links_of c.args.self.now in
    let e1 = ap (λ (m : Links). m.older 256) c.set_next.ensures.links in
    let e2 = ap (λ (m : Links). m.older 256) c.set_kept.ensures.links in
    let e3 = ap (λ (m : Links). m.older 256) c.set_next-2.ensures.links in
    let e4 = ap (λ (m : Links). m.older 256) c.set_next-3.ensures.links in
    let is : c.set_next-3.new.self.newest ≡ l.older 256 = e4 ∙ e3 ∙ e2 ∙ e1 in
    subst (λ (n : ℕ). n ≤ 256) (sym is) (newest_low l c.requires.room.0 c.requires.room.1 c.requires.room.2 c.requires.sound.1)
