use Rattle.std.proofs.Common.{◌≡◌, ◌∙◌, ◌-◌, ◌++◌, ℕ, length, ap, sym, subst, arith}
use Rattle.law_links.specs.Paths.{updated}
use Rattle.vm_shadow.specs.Links.{Links, links_of, order}
use Rattle.vm_shadow.proofs.Moves.{IsLinked, cut, cut_left, live_inside, ends_inside, one_less}
use Rattle.vm_shadow.proofs.nodes.Nodes.remove.Goals as goal

-- the writes are one cut
changed : (c : goal.After-self-1)
    → record (links_of c.set_newer-3.new.self) { used = (links_of c.set_newer-3.new.self).used - 1 }
    ≡ cut c.args.at ((links_of c.args.self.now).older c.args.at) ((links_of c.args.self.now).newer c.args.at) ((links_of c.args.self.now).used - 1)
    (links_of c.args.self.now)
changed c =
    let l = links_of c.args.self.now in
    let at = c.args.at in
    let older = c.older-older.result in
    let newer = c.newer-newer.result in
    let l2 = links_of c.set_older.new.self in
    let s2 = λ (m : Links). record m { older = updated m.older newer older } in
    let s4 = λ (m : Links). record m { newer = updated m.newer at (m.newer 127) } in
    let s5 = λ (m : Links). record m { newer = updated m.newer 127 at } in
    let s6 = λ (m : Links). record m { used = m.used - 1 } in
    let e2 = c.set_older.ensures.links ∙ ap s2 c.set_newer.ensures.links in
    let e4 = c.set_newer-2.ensures.links ∙ ap (λ (f : ℕ). record l2 { newer = updated l2.newer at f }) c.newer-free.ensures ∙ ap s4 e2 in
    ap s6 (c.set_newer-3.ensures.links ∙ ap s5 e4)
    ∙ ap (λ (o : ℕ). cut at o newer (l.used - 1) l) c.older-older.ensures
    ∙ ap (λ (o : ℕ). cut at (l.older at) o (l.used - 1) l) c.newer-newer.ensures

pub older-older-requires-clause-inside : goal.older-older-requires-clause-inside
older-older-requires-clause-inside c =
    omega (arith, live_inside (links_of c.args.self.now) c.args.at c.requires.live.0 c.requires.live.1 c.requires.live.2 c.requires.sound.linked)

pub newer-newer-requires-clause-inside : goal.newer-newer-requires-clause-inside
newer-newer-requires-clause-inside c =
    omega (arith, live_inside (links_of c.args.self.now) c.args.at c.requires.live.0 c.requires.live.1 c.requires.live.2 c.requires.sound.linked)

pub set_newer-requires-clause-inside : goal.set_newer-requires-clause-inside
set_newer-requires-clause-inside c =
    let e = ends_inside (links_of c.args.self.now) c.args.at c.requires.live.0 c.requires.live.1 c.requires.live.2 c.requires.sound.linked in
    omega (arith, e.1, c.older-older.ensures)

pub set_older-requires-clause-inside : goal.set_older-requires-clause-inside
set_older-requires-clause-inside c =
    let e = ends_inside (links_of c.args.self.now) c.args.at c.requires.live.0 c.requires.live.1 c.requires.live.2 c.requires.sound.linked in
    omega (arith, e.0, c.newer-newer.ensures)

pub set_newer-requires-2-clause-inside : goal.set_newer-requires-2-clause-inside
set_newer-requires-2-clause-inside c =
    omega (arith, live_inside (links_of c.args.self.now) c.args.at c.requires.live.0 c.requires.live.1 c.requires.live.2 c.requires.sound.linked)

pub returns-clause-order : goal.returns-clause-order
returns-clause-order c xs ys is =
    let l = links_of c.args.self.now in
    ap order (changed c) ∙ (cut_left l c.args.at xs ys is c.requires.sound.linked (l.used - 1)).order

pub returns-clause-sound : goal.returns-clause-sound
returns-clause-sound c =
    let l = links_of c.args.self.now in
    let left = cut_left l c.args.at c.requires.live.0 c.requires.live.1 c.requires.live.2 c.requires.sound.linked (l.used - 1) in
    let less = one_less l c.args.at c.requires.live.0 c.requires.live.1 c.requires.live.2 c.requires.sound.linked in
    let many = c.requires.sound.many in
    let used = ap (λ (m : Links). m.used) (changed c) in
    let count = ap length (ap order (changed c) ∙ left.order) in
    record {
      sized = c.set_newer-3.ensures.sized;
      linked = subst IsLinked (sym (changed c)) left.linked;
      many = used ∙ (let e : l.used - 1 ≡ length (c.requires.live.0 ++ c.requires.live.1) = omega (arith, less, many) in e) ∙ sym count;
    }

pub returns-clause-table : goal.returns-clause-table
returns-clause-table c = ap (λ (m : Links). m.table) (changed c)

pub returns-clause-count : goal.returns-clause-count
returns-clause-count c = ap (λ (m : Links). m.count) (changed c)
