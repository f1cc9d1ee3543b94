use Rattle.std.proofs.Common.{◌≡◌, ◌∙◌, ◌+◌, ℕ, length, ap, sym, subst}
use Rattle.vm_shadow.specs.Area.{one}
use Rattle.law_links.specs.Paths.{updated}
use Rattle.vm_shadow.specs.Links.{Links, links_of, order}
use Rattle.law_links.proofs.Paths.{updated_same}
use Rattle.vm_shadow.proofs.Moves.{IsLinked}
use Rattle.vm_shadow.proofs.nodes.Nodes.recount.Goals as goal

now : (c : goal.After-set_count) → (links_of c.set_count.new.self).count c.args.at ≡ c.counted-count.result
now c = ap (λ (m : Links). m.count c.args.at) c.set_count.ensures.links ∙ updated_same (links_of c.args.self.now).count c.args.at c.counted-count.result

pub returns-clause-links : goal.returns-clause-links
returns-clause-links c =
    let l = links_of c.args.self.now in
    c.set_count.ensures.links ∙ ap (λ (n : ℕ). record l { count = updated l.count c.args.at n }) (sym (now c))

pub returns-clause-count : goal.returns-clause-count
returns-clause-count c =
    ap (λ (n : ℕ). n + one c.args.old) (now c) ∙ c.counted-count.ensures ∙ ap (λ (n : ℕ). n + one c.args.new) c.count.ensures

pub returns-clause-sound : goal.returns-clause-sound
returns-clause-sound c =
    let e = c.set_count.ensures.links in
    record {
      sized = c.set_count.ensures.sized;
      linked = subst IsLinked (sym e) c.requires.sound.linked;
      many = ap (λ (m : Links). m.used) e ∙ c.requires.sound.many ∙ sym (ap (λ (m : Links). length (order m)) e);
    }
