use Rattle.std.proofs.Common.{◌≡◌, ◌<◌, ◌∙◌, sym, ap, arith, ℕ, [], map, get_or, set, length, length-set}
use Rattle.std.specs.List.{All}
use Rattle.std.proofs.lemmas.List.{map-set, get_or-map}
use Rattle.std.proofs.lemmas.List.Elements.{All-set, All-get_or}
use Rattle.mb_model.specs.Keeping.{NamesPages, filled_in}
use Rattle.mb_model.proofs.NamesLemmas.{filled_in-names}
use Rattle.mb_atc.proofs.atc.Atc.fill.Goals as goal

pub invariant_of-self : goal.invariant_of-self
invariant_of-self c =
    let sets = c.self.inside.sets.items in
    let class = c.class_of.result in
    let old = c.index_mut.result.now in
    let inside : class < length sets = omega (arith, c.class_of.ensures.inside, c.self.invariant.0) in
    let names : All NamesPages old.items =
    rw c.index_mut.ensures.value (All-get_or (λ set. All NamesPages set.items) sets class old inside c.self.invariant.1) in
    let filled : All NamesPages c.fill_set.new.set.items = rw c.fill_set.ensures (filled_in-names 4 c.args.k old.items c.requires names) in (
      length-set sets class c.fill_set.new.set ∙ c.self.invariant.0,
      All-set (λ set. All NamesPages set.items) sets class c.fill_set.new.set filled c.self.invariant.1,
    )

pub returns : goal.returns
returns c =
    let lists = map (λ set. set.items) c.self.inside.sets.items in
    let class = c.class_of.result in
    let inside : class < length c.self.inside.sets.items = omega (arith, c.class_of.ensures.inside, c.self.invariant.0) in
    let stood : get_or lists class [] ≡ c.index_mut.result.now.items =
    get_or-map (λ set. set.items) c.self.inside.sets.items class c.index_mut.result.now [] inside
    ∙ ap (λ set. set.items) (sym c.index_mut.ensures.value) in
    rw (← c.self.view_is) (map-set (λ set. set.items) c.self.inside.sets.items class c.fill_set.new.set
    ∙ ap (set lists class) (c.fill_set.ensures ∙ ap (filled_in 4 c.args.k) (sym stood))
    ∙ ap (λ (i : ℕ). set lists i (filled_in 4 c.args.k (get_or lists i []))) c.class_of.ensures.class)
