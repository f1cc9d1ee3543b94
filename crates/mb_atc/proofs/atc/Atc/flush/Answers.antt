use Rattle.std.proofs.Common.{◌≡◌, ◌<◌, ◌∙◌, sym, ap, arith, refl, ℕ, List, map, get_or, set, length}
use Rattle.std.specs.List.{All}
use Rattle.std.proofs.lemmas.List.{map-set, length-map, with_items_is}
use Rattle.std.proofs.lemmas.List.Elements.{All-set, All-get_or}
use Rattle.std.proofs.Math.ListN.{get_or-map}
use Rattle.mb_model.specs.Keeping.{NamesPages, flushed_in, KeptLists}
use Rattle.mb_model.proofs.NamesLemmas.{flushed_in-names}
use Rattle.mb_atc.proofs.Firsts.{firsts, firsts-one_more, firsts-all}
use Rattle.mb_atc.proofs.atc.Atc.flush.Goals as goal

pub loop-set-init : goal.loop-set-init
loop-set-init c = record { lists = refl; names = rw c.deref_mut-set-items.ensures.value c.self.invariant.1 }

pub loop-set-preserved : goal.loop-set-preserved
loop-set-preserved c =
    let before = map (λ set. set.items) c.deref_mut-set-items.result.now in
    let lists = map (λ set. set.items) c.loop-set.set-items in
    let class = c.loop-set.set-index in
    let old = c.set-item.result in
    let inside : class < length before = rw (length-map c.deref_mut-set-items.result.now (λ set. set.items)) c.loop-set-test.true in
    let stands : class < length c.loop-set.set-items = omega (arith, c.loop-set-test.true, c.loop-set.auto.set-items) in
    let named = All-get_or (λ set. All NamesPages set.items) c.loop-set.set-items class old stands c.loop-set.invariant.names in
    record {
      lists = map-set (λ set. set.items) c.loop-set.set-items class c.flush_set.new.set
          ∙ ap (set lists class) (c.flush_set.ensures ∙ ap (flushed_in c.args.what) (sym (get_or-map (λ set. set.items) c.loop-set.set-items class old)))
          ∙ ap (λ (ls : KeptLists). set ls class (flushed_in c.args.what (get_or ls class old.items))) c.loop-set.invariant.lists
          ∙ firsts-one_more (flushed_in c.args.what) class before old.items inside;
      names = All-set (λ set. All NamesPages set.items) c.loop-set.set-items class c.flush_set.new.set
          (rw c.flush_set.ensures (flushed_in-names c.args.what _ named)) c.loop-set.invariant.names;
    }

pub invariant_of-self : goal.invariant_of-self
invariant_of-self c =
    let is = with_items_is c.self.inside.sets c.loop-set.set-items (omega (arith, c.loop-set.auto.set-items, c.deref_mut-set-items.ensures.len)) in
    rw is (omega (arith, c.loop-set.auto.set-items, c.deref_mut-set-items.ensures.len, c.self.invariant.0), c.loop-set.invariant.names)

pub returns : goal.returns
returns c =
    let before = map (λ set. set.items) c.deref_mut-set-items.result.now in
    let all : c.loop-set.set-index ≡ length before =
    rw (length-map c.deref_mut-set-items.result.now (λ set. set.items)) (omega (arith, c.loop-set-test.false, c.loop-set.auto.set-index-end)) in
    ap (λ sets. map (λ set. set.items) sets) (with_items_is c.self.inside.sets c.loop-set.set-items
    (omega (arith, c.loop-set.auto.set-items, c.deref_mut-set-items.ensures.len)))
    ∙ c.loop-set.invariant.lists ∙ ap (λ (n : ℕ). firsts (flushed_in c.args.what) n before) all ∙ firsts-all (flushed_in c.args.what) before
    ∙ ap (λ (sets : List _). map (flushed_in c.args.what) (map (λ set. set.items) sets)) c.deref_mut-set-items.ensures.value
    ∙ ap (λ (ls : KeptLists). map (flushed_in c.args.what) ls) c.self.view_is
