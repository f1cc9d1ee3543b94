-- Tidy calls have one way, and what one way is.
use Rattle.std.proofs.Common.{◌≡◌, ℕ, zero, suc, ◌+◌, ◌*◌, ◌%◌, Bool, true, false, not, ◌&&◌, refl, sym, ◌∙◌, ap, inl, inr}
use Rattle.std.specs.Prelude.{Option, Some, None, IfSome, if◌then◌else◌}
use Rattle.std.proofs.lemmas.Bool.{cases_Bool}
use Rattle.mb_port.specs.Routine.{Call, Routine, Return, Ask, Then, Bus, run}
use Rattle.mb_model.specs.declared.kept.Kept.{Kept}
use Rattle.mb_model.specs.Keeping.{is_of}
use Rattle.mb_model.specs.Pages.{page_of}
use Rattle.mb_walk.specs.Descriptors.{is_user}
use Rattle.mb_walk.specs.declared.found.Found.{Found}
use Rattle.mb_walk.specs.declared.found.Found.TheVariants.{Entry, Invalid, BusError}
use Rattle.law_routines.specs.Relations.{Along}
use Rattle.def_processor.specs.Step.{step_of}
use Rattle.def_machine.specs.declared.reference.Reference.{Reference}
use Rattle.def_machine.specs.declared.reference.Settled.TheVariants.{To, Refused}
use Rattle.def_machine.specs.World.{World}
use Rattle.def_machine.specs.Access.{search_for, untranslated, searched, translated, by_settled, by_found, admits, marks, through}
use Rattle.def_machine.specs.Bus.{reference_of}
use Rattle.def_machine.specs.Machine.{begun, asked_of}
use Rattle.def_runs.specs.Free.{IsKept, rule_free, with_class_entry}
use Rattle.def_runs.proofs.Accesses.{accesses-use_or_search}
use Rattle.def_runs.specs.Tidy.{searching_bus, searching_step, Counts, Agrees, IsTidyReference}
use Rattle.law_tidy.specs.Least.{LeadsThere, OneWayReference, SameByAny, OneWayIsLeast, TidyCallsAreOneWay, TidyRunsAreOneWay}
use Rattle.law_tidy.specs.Laws.{TidyCallsHaveNoChoice}
use Rattle.law_tidy.proofs.NoChoices.{one_way_calls-have_no_choice}
use Rattle.def_runs.proofs.Past.{by_match_of}

-- ---- tidy calls

through_same : (e k : Kept) (r : Reference) → e.frame ≡ k.frame → e.w ≡ k.w → e.s ≡ k.s → through e r ≡ through k r
through_same e k r frame w s =
    let admit : admits e r ≡ admits k r =
    ap (λ (b : Bool). not (b && r.write) && not (e.s && is_user r.space)) w
    ∙ ap (λ (b : Bool). not (k.w && r.write) && not (b && is_user r.space)) s in
    ap (λ (b : Bool). if b then Some (4096 * e.frame + r.at % 4096) else None) admit
    ∙ ap (λ (n : ℕ). if admits k r then Some (4096 * n + r.at % 4096) else None) frame

place_of : (r : Reference) (w : World) (k : Kept) (f : Found) (e : Kept) (status : ℕ) → f ≡ Entry e status → through e r ≡ through k r
    → through k r ≡ (by_found rule_free w r f).0
place_of r w k f e status found same = sym same ∙ ap (λ (g : Found). (by_found rule_free w r g).0) (sym found)

agreeing_leads : (r : Reference) (w : World) (k : Kept) → Agrees r w k → LeadsThere r w k
agreeing_leads r w k a =
    let s = search_for w r in
    record {
      place = place_of r (record (with_class_entry None w) { ram = s.ram }) k s.found a.entry a.status a.found
          (through_same a.entry k r a.frame a.same_w a.same_s);
      still = a.still;
    }

reference_one_way : (o : Option Reference) (w : World) → IsTidyReference o w → OneWayReference o w
reference_one_way None w h = tt
reference_one_way (Some r) w h = λ e k c. agreeing_leads r w k (h e k c)

pub tidy_calls-are_one_way : TidyCallsAreOneWay
tidy_calls-are_one_way c w h = reference_one_way (reference_of c) w h

pub tidy_calls-have_no_choice : TidyCallsHaveNoChoice
tidy_calls-have_no_choice = record {
  call = λ c s t a u h tidy step. one_way_calls-have_no_choice.call c s t a u h (tidy_calls-are_one_way c s tidy) step;
}

along_one_way : {P Q : Call → World → Type 0} {A : Type 0} (bus : Bus World) → ((c : Call) (w : World) → P c w → Q c w) → (m : Routine A) (w : World)
    → Along P bus m w → Along Q bus m w
along_one_way bus f (Return a) w h = tt
along_one_way bus f (Ask c) w h = f c w h
along_one_way bus f (Then m g) w h =
    (along_one_way bus f m w h.0, along_one_way bus f (g ((run bus m w).0)) ((run bus m w).1) h.1)

pub tidy_runs-are_one_way : TidyRunsAreOneWay
tidy_runs-are_one_way script zero m h = tt
tidy_runs-are_one_way script (suc n) m h = λ going.
    let b = begun script m in
    let parts = h going in (
      along_one_way searching_bus tidy_calls-are_one_way (step_of (asked_of script b) b.cpu) b.world parts.0,
      tidy_runs-are_one_way script n (searching_step script m) parts.1,
    )

-- ---- it is the least

found_ram : (w : World) (r : Reference) (f : Found) → (by_found rule_free w r f).1.ram ≡ w.ram
found_ram w r (Entry k status) = refl
found_ram w r Invalid = refl
found_ram w r BusError = refl

searched_ram : (r : Reference) (w : World) (entry : Option Kept) → (searched rule_free (with_class_entry entry w) r).1.ram ≡ (search_for w r).ram
searched_ram r w entry =
    let s = search_for w r in
    found_ram (record (with_class_entry entry w) { ram = s.ram }) r s.found

found_place : (v w : World) (r : Reference) (f : Found) → (by_found rule_free v r f).0 ≡ (by_found rule_free w r f).0
found_place v w r (Entry k status) = refl
found_place v w r Invalid = refl
found_place v w r BusError = refl

searched_place : (r : Reference) (w : World) (entry : Option Kept)
    → (searched rule_free (with_class_entry entry w) r).0 ≡ (searched rule_free (with_class_entry None w) r).0
searched_place r w entry =
    let s = search_for w r in
    found_place (record (with_class_entry entry w) { ram = s.ram }) (record (with_class_entry None w) { ram = s.ram }) r s.found

-- where both search
search_same : (r : Reference) (w : World) (entry : Option Kept) → untranslated w.mmu r ≡ None
    → translated rule_free r (with_class_entry entry w) ≡ searched rule_free (with_class_entry entry w) r → SameByAny r w entry
search_same r w entry e one =
    let two = (accesses-use_or_search r w e).none in
    record {
      place = ap (λ (x : Option ℕ × World). x.0) one ∙ searched_place r w entry ∙ sym (ap (λ (x : Option ℕ × World). x.0) two);
      memory = ap (λ (x : Option ℕ × World). x.1.ram) one ∙ searched_ram r w entry
          ∙ sym (ap (λ (x : Option ℕ × World). x.1.ram) two ∙ searched_ram r w None);
    }

use_same : (r : Reference) (w : World) (k : Kept) → untranslated w.mmu r ≡ None
    → translated rule_free r (with_class_entry (Some k) w) ≡ (through k r, with_class_entry (Some k) w) → LeadsThere r w k → SameByAny r w (Some k)
use_same r w k e one leads =
    let two = (accesses-use_or_search r w e).none in
    record {
      place = ap (λ (x : Option ℕ × World). x.0) one ∙ leads.place ∙ sym (ap (λ (x : Option ℕ × World). x.0) two);
      memory = ap (λ (x : Option ℕ × World). x.1.ram) one
          ∙ sym (ap (λ (x : Option ℕ × World). x.1.ram) two ∙ searched_ram r w None ∙ leads.still);
    }

settled_place : (b : Bool) (v w : World) (r : Reference)
    → (by_settled rule_free v r (if b then Refused else To r.at)).0 ≡ (by_settled rule_free w r (if b then Refused else To r.at)).0
settled_place true v w r = refl
settled_place false v w r = refl

settled_ram : (b : Bool) (w : World) (r : Reference) → (by_settled rule_free w r (if b then Refused else To r.at)).1.ram ≡ w.ram
settled_ram true w r = refl
settled_ram false w r = refl

matched_same : (r : Reference) (w : World) (entry : Option Kept) (protected : Bool) → untranslated w.mmu r ≡ Some protected → SameByAny r w entry
matched_same r w entry protected e =
    let one = by_match_of r (with_class_entry entry w) (Some protected) e in
    let two = by_match_of r (with_class_entry None w) (Some protected) e in
    let b = protected && r.write in
    record {
      place = ap (λ (x : Option ℕ × World). x.0) one ∙ settled_place b (with_class_entry entry w) (with_class_entry None w) r
          ∙ sym (ap (λ (x : Option ℕ × World). x.0) two);
      memory = ap (λ (x : Option ℕ × World). x.1.ram) one ∙ settled_ram b (with_class_entry entry w) r
          ∙ sym (ap (λ (x : Option ℕ × World). x.1.ram) two ∙ settled_ram b (with_class_entry None w) r);
    }

same_by : (r : Reference) (w : World) (entry : Option Kept) (o : Option Bool) → untranslated w.mmu r ≡ o → OneWayReference (Some r) w
    → IfSome entry (λ k. IsKept k w.kept) → SameByAny r w entry
same_by r w entry (Some protected) e one is = matched_same r w entry protected e
same_by r w None None e one is = search_same r w None e (accesses-use_or_search r w e).none
same_by r w (Some k) None e one is =
    let ways = accesses-use_or_search r w e in
    elim (cases_Bool (is_of r.space (page_of r.at) k)) [
      | inl of ↦ elim (cases_Bool (marks k r)) [
        | inl mark ↦ search_same r w (Some k) e (ways.marked k of mark)
        | inr unmarked ↦ use_same r w k e (ways.uses k of unmarked) (one e k (record { kept = is; of = of; used = unmarked }))
      ]
      | inr other ↦ search_same r w (Some k) e (ways.other k other)
    ]

leads_by : (r : Reference) (w : World) (k : Kept) → untranslated w.mmu r ≡ None → Counts r w k → SameByAny r w (Some k) → LeadsThere r w k
leads_by r w k e c same =
    let ways = accesses-use_or_search r w e in
    let one = ways.uses k c.of c.used in
    record {
      place = sym (ap (λ (x : Option ℕ × World). x.0) one) ∙ same.place ∙ ap (λ (x : Option ℕ × World). x.0) ways.none;
      still = sym (sym (ap (λ (x : Option ℕ × World). x.1.ram) one) ∙ same.memory ∙ ap (λ (x : Option ℕ × World). x.1.ram) ways.none
          ∙ searched_ram r w None);
    }

pub one_way-is_least : OneWayIsLeast
one_way-is_least r w = (
  λ one entry is. same_by r w entry (untranslated w.mmu r) refl one is,
  λ all e k c. leads_by r w k e c (all (Some k) c.kept),
)
