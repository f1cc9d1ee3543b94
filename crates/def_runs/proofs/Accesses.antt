-- An access of a free board uses the entry that is taken into the class, or searches.
use Rattle.std.proofs.Common.{◌≡◌, ℕ, Bool, true, false, [], ◌∷◌, refl, ◌∙◌, ap}
use Rattle.std.specs.Prelude.{Option, Some, None}
use Rattle.mb_model.specs.declared.kept.Kept.{Kept}
use Rattle.mb_model.specs.Keeping.{KeptLists, is_of}
use Rattle.def_machine.specs.declared.reference.Reference.{Reference}
use Rattle.def_machine.specs.declared.reference.Settled.{Settled}
use Rattle.def_machine.specs.declared.reference.Settled.TheVariants.{Unsettled}
use Rattle.def_machine.specs.World.{World}
use Rattle.mb_model.specs.Pages.{page_of}
use Rattle.def_machine.specs.Access.{by_match, by_entry, by_settled, known, marks, through, translated, untranslated}
use Rattle.def_runs.specs.Free.{rule_free, with_class_entry}
use Rattle.def_runs.specs.Laws.{AccessesUseOrSearch}

by_table : (r : Reference) (w : World) → untranslated w.mmu r ≡ None
    → translated rule_free r w ≡ by_settled rule_free w r (by_match rule_free w.kept r None)
unfolding translated
by_table r w h = ap (λ (o : Option Bool). by_settled rule_free w r (by_match rule_free w.kept r o)) h

by_known : (w : World) (r : Reference) (o : Option ℕ) → by_settled rule_free w r (known o) ≡ (o, w)
by_known w r (Some at) = refl
by_known w r None = refl

entry_used : (k : Kept) (r : Reference) → marks k r ≡ false → by_entry r (Some k) ≡ known (through k r)
entry_used k r h = rw h refl

entry_marked : (k : Kept) (r : Reference) → marks k r ≡ true → by_entry r (Some k) ≡ Unsettled
entry_marked k r h = rw h refl

match_of : (r : Reference) (k : Kept) (kept : KeptLists) → is_of r.space (page_of r.at) k ≡ true
    → by_match rule_free ((k ∷ []) ∷ kept) r None ≡ by_entry r (Some k)
match_of r k kept h = rw h refl

match_other : (r : Reference) (k : Kept) (kept : KeptLists) → is_of r.space (page_of r.at) k ≡ false
    → by_match rule_free ((k ∷ []) ∷ kept) r None ≡ Unsettled
match_other r k kept h = rw h refl

match_none : (r : Reference) (kept : KeptLists) → by_match rule_free ([] ∷ kept) r None ≡ Unsettled
match_none r kept = refl

settled_so : (r : Reference) (w : World) (s : Settled) → untranslated w.mmu r ≡ None → by_match rule_free w.kept r None ≡ s
    → translated rule_free r w ≡ by_settled rule_free w r s
settled_so r w s h e = by_table r w h ∙ ap (λ (s : Settled). by_settled rule_free w r s) e

pub accesses-use_or_search : AccessesUseOrSearch
accesses-use_or_search r w h = record {
  uses = λ k of unmarked.
      settled_so r (with_class_entry (Some k) w) (known (through k r)) h (match_of r k w.kept of ∙ entry_used k r unmarked)
      ∙ by_known (with_class_entry (Some k) w) r (through k r);
  marked = λ k of mark. settled_so r (with_class_entry (Some k) w) Unsettled h (match_of r k w.kept of ∙ entry_marked k r mark);
  other = λ k of. settled_so r (with_class_entry (Some k) w) Unsettled h (match_other r k w.kept of);
  none = settled_so r (with_class_entry None w) Unsettled h (match_none r w.kept);
}
