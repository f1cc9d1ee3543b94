use Rattle.std.proofs.Common.{◌≡◌, ◌∙◌, ◌+◌, ◌++◌, ◌∷◌, [], ℕ, length, ap, sym, subst, arith, length-append}
use Rattle.law_links.specs.Paths.{updated}
use Rattle.vm_shadow.specs.Links.{Links, links_of, order}
use Rattle.vm_shadow.proofs.Moves.{IsLinked, Left, put, head_left, head_low, head_new, last_low}
use Rattle.vm_shadow.proofs.nodes.Nodes.push.Goals as goal

-- the writes are one put
changed : (c : goal.After-self-1)
    → record (links_of c.set_older-2.new.self) { used = (links_of c.set_older-2.new.self).used + 1 }
    ≡ put c.newer-at.result c.args.table ((links_of c.args.self.now).newer c.newer-at.result) ((links_of c.args.self.now).older 126)
    ((links_of c.args.self.now).used + 1) (links_of c.args.self.now)
changed c =
    let l = links_of c.args.self.now in
    let at = c.newer-at.result in
    let last = c.args.self.now.newest in
    let s2 = λ (m : Links). record m { table = updated m.table at c.args.table } in
    let s3 = λ (m : Links). record m { newer = updated m.newer last at } in
    let s4 = λ (m : Links). record m { newer = updated m.newer at 126 } in
    let s5 = λ (m : Links). record m { older = updated m.older at last } in
    let s6 = λ (m : Links). record m { older = updated m.older 126 at } in
    let s7 = λ (m : Links). record m { used = m.used + 1 } in
    let e1 = c.set_newer.ensures.links ∙ ap (λ (f : ℕ). record l { newer = updated l.newer 127 f }) c.newer-next.ensures in
    let e2 = c.set_table.ensures.links ∙ ap s2 e1 in
    let e3 = c.set_newer-2.ensures.links ∙ ap s3 e2 in
    let e4 = c.set_newer-3.ensures.links ∙ ap s4 e3 in
    let e5 = c.set_older.ensures.links ∙ ap s5 e4 in
    ap s7 (c.set_older-2.ensures.links ∙ ap s6 e5)

now_left : (c : goal.After-self-1)
    → Left (put c.newer-at.result c.args.table ((links_of c.args.self.now).newer c.newer-at.result) ((links_of c.args.self.now).older 126)
    ((links_of c.args.self.now).used + 1) (links_of c.args.self.now)) (order (links_of c.args.self.now) ++ c.newer-at.result ∷ [])
now_left c =
    head_left (links_of c.args.self.now) c.requires.sound.linked c.requires.room c.newer-at.result c.newer-at.ensures c.args.table
    ((links_of c.args.self.now).used + 1)

pub newer-next-requires-clause-inside : goal.newer-next-requires-clause-inside
newer-next-requires-clause-inside c =
    omega (arith, head_low (links_of c.args.self.now) c.requires.sound.linked c.requires.room c.newer-at.result c.newer-at.ensures)

pub set_table-requires-clause-inside : goal.set_table-requires-clause-inside
set_table-requires-clause-inside c = head_low (links_of c.args.self.now) c.requires.sound.linked c.requires.room c.newer-at.result c.newer-at.ensures

pub set_newer-requires-2-clause-inside : goal.set_newer-requires-2-clause-inside
set_newer-requires-2-clause-inside c =
    omega (arith, last_low (links_of c.args.self.now) c.requires.sound.linked c.requires.room c.newer-at.result c.newer-at.ensures)

pub set_newer-requires-3-clause-inside : goal.set_newer-requires-3-clause-inside
set_newer-requires-3-clause-inside c =
    omega (arith, head_low (links_of c.args.self.now) c.requires.sound.linked c.requires.room c.newer-at.result c.newer-at.ensures)

pub set_older-requires-clause-inside : goal.set_older-requires-clause-inside
set_older-requires-clause-inside c =
    omega (arith, head_low (links_of c.args.self.now) c.requires.sound.linked c.requires.room c.newer-at.result c.newer-at.ensures)

pub returns-clause-inside : goal.returns-clause-inside
returns-clause-inside c = head_low (links_of c.args.self.now) c.requires.sound.linked c.requires.room c.newer-at.result c.newer-at.ensures

pub returns-clause-free : goal.returns-clause-free
returns-clause-free c = head_new (links_of c.args.self.now) c.requires.sound.linked c.requires.room c.newer-at.result c.newer-at.ensures

pub returns-clause-order : goal.returns-clause-order
returns-clause-order c = ap order (changed c) ∙ (now_left c).order

pub returns-clause-sound : goal.returns-clause-sound
returns-clause-sound c =
    let l = links_of c.args.self.now in
    let left = now_left c in
    let used = ap (λ (m : Links). m.used) (changed c) in
    let count = ap length (ap order (changed c) ∙ left.order) in
    let many = c.requires.sound.many in
    let more = length-append (order l) (c.newer-at.result ∷ []) in
    record {
      sized = c.set_older-2.ensures.sized;
      linked = subst IsLinked (sym (changed c)) left.linked;
      many = used ∙ (let e : l.used + 1 ≡ length (order l ++ c.newer-at.result ∷ []) = omega (arith, many, more) in e) ∙ sym count;
    }

pub returns-clause-table : goal.returns-clause-table
returns-clause-table c = ap (λ (m : Links). m.table) (changed c)

pub returns-clause-count : goal.returns-clause-count
returns-clause-count c = ap (λ (m : Links). m.count) (changed c)
