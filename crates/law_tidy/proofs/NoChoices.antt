-- At a call with one way a free board has no choice.
use Rattle.std.proofs.Common.{◌≡◌, ℕ, zero, suc, Bool, true, false, ◌&&◌, List, [], ◌∷◌, refl, sym, ◌∙◌, ap, subst, inl, inr}
use Rattle.std.specs.Prelude.{Option, Some, None, IfSome, option_to_list, unwrap_or, if◌then◌else◌}
use Rattle.std.proofs.lemmas.Bool.{cases_Bool}
use Rattle.mb_port.specs.Routine.{Call, Answer, Fetch, Read, Write, ReadLine, WriteLine, Probe, Get, Put, ReadMmu, SetMmu, FlushKept, Test, ResetDevices}
use Rattle.mb_port.specs.declared.types.Space.{Space}
use Rattle.mb_port.specs.declared.types.Place.{Place}
use Rattle.mb_port.specs.declared.types.MmuReg.{MmuReg}
use Rattle.mb_model.specs.declared.kept.Kept.{Kept}
use Rattle.mb_model.specs.Keeping.{KeptLists, filled, is_of}
use Rattle.mb_model.specs.Pages.{page_of, has_big_pages}
use Rattle.mb_walk.specs.declared.found.Found.{Found}
use Rattle.mb_walk.specs.declared.found.Found.TheVariants.{Entry, Invalid, BusError}
use Rattle.def_machine.specs.declared.reference.Reference.{Reference}
use Rattle.def_machine.specs.declared.reference.Settled.TheVariants.{To, Refused}
use Rattle.def_machine.specs.World.{World}
use Rattle.def_machine.specs.Places.{taken, stored, checked, taken_line, stored_line}
use Rattle.def_machine.specs.Access.{search_for, by_match, untranslated, searched, translated, by_settled, by_found}
use Rattle.def_machine.specs.Access.{marks, through}
use Rattle.def_machine.specs.Bus.{bus_of, reading_of, writing_of, fetching_of, read_at, read_by, written_at, written_by, tested_by, after_set_mmu}
use Rattle.def_runs.specs.Free.{IsKept, StandIn, rule_free, with_class_entry, WorldWithin}
use Rattle.def_runs.proofs.Blind.{IsBlind, IsBlindStore, taken-blind, taken_line-blind, checked-blind, stored-blind, stored_line-blind}
use Rattle.def_runs.proofs.Blind.{read-blind, write-blind, get-blind, put-blind}
use Rattle.def_runs.proofs.Accesses.{accesses-use_or_search}
use Rattle.def_runs.proofs.KeptLemmas.{empty, head_or_tail, kept-behind, flushed-follows, dropped-follows, filled-is, filled-first, filled-behind}
use Rattle.def_runs.specs.Tidy.{searching_bus}
use Rattle.law_tidy.specs.Least.{LeadsThere, OneWayReference, IsOneWayCall, OneWayCallsHaveNoChoice}
use Rattle.def_runs.proofs.Calls.{blind_met, then_met, tested_met, Met}
use Rattle.def_runs.proofs.Past.{by_match_of}

behind : (w : World) (held : KeptLists) → StandIn w.kept held → WorldWithin w (record w { kept = [] ∷ held })
behind w held stand = record { same = refl; kept = λ k h. kept-behind [] held k (stand k h) }

-- ---- both search

filled_stands : (code : Bool) (k : Kept) (kept held : KeptLists) → StandIn kept held
    → StandIn (filled rule_free code k kept) (filled rule_free code k ([] ∷ held))
filled_stands code k kept held stand x h = elim (filled-is rule_free code k kept x h) [
  | inl there ↦ filled-behind rule_free code k [] held refl x (stand x there)
  | inr e ↦ subst (λ (y : Kept). IsKept y (filled rule_free code k ([] ∷ held))) e (filled-first rule_free code k [] held refl)
]

found_met : (w : World) (held : KeptLists) (r : Reference) (f : Found) → StandIn w.kept held
    → Met (by_found rule_free w r f) (by_found rule_free (record w { kept = [] ∷ held }) r f)
found_met w held r (Entry k mmusr) stand = record {
  answer = refl;
  world = record { same = refl; kept = filled_stands r.code k w.kept held stand };
}
found_met w held r Invalid stand = record { answer = refl; world = behind w held stand }
found_met w held r BusError stand = record { answer = refl; world = behind w held stand }

searched_met : (w : World) (held : KeptLists) (r : Reference) → StandIn w.kept held
    → Met (searched rule_free w r) (searched rule_free (record w { kept = [] ∷ held }) r)
searched_met w held r stand =
    let s = search_for w r in
    found_met (record w { ram = s.ram }) held r s.found stand

-- ---- one uses an entry, and the other searches

filled_adds : (code : Bool) (e k : Kept) (kept held : KeptLists) → IsKept k kept → StandIn kept held
    → StandIn ((k ∷ []) ∷ kept) (filled rule_free code e ([] ∷ held))
filled_adds code e k kept held there stand x (zero, h) = elim (head_or_tail x k [] h) [
  | inl same ↦ filled-behind rule_free code e [] held refl x (stand x (subst (λ (y : Kept). IsKept y kept) same there))
  | inr none ↦ absurd (empty x none)
]
filled_adds code e k kept held there stand x (suc class, h) = filled-behind rule_free code e [] held refl x (stand x (class, h))

-- the class is filled with what was kept
in_front : (entry : Option Kept) (kept held : KeptLists) → IfSome entry (λ k. IsKept k kept) → StandIn kept held → StandIn (option_to_list entry ∷ kept) held
in_front None kept held is stand x (zero, h) = absurd (empty x h)
in_front (Some k) kept held is stand x (zero, h) = elim (head_or_tail x k [] h) [
  | inl same ↦ stand x (subst (λ (y : Kept). IsKept y kept) same is)
  | inr none ↦ absurd (empty x none)
]
in_front entry kept held is stand x (suc class, h) = stand x (class, h)

led_by : (t : World) (held : KeptLists) (r : Reference) (k : Kept) (f : Found) → IsKept k t.kept → StandIn t.kept held
    → through k r ≡ (by_found rule_free (record t { kept = [] ∷ held }) r f).0
    → Met (through k r, with_class_entry (Some k) t) (by_found rule_free (record t { kept = [] ∷ held }) r f)
led_by t held r k (Entry e status) there stand place =
    record { answer = sym place; world = record { same = refl; kept = filled_adds r.code e k t.kept held there stand } }
led_by t held r k Invalid there stand place =
    record { answer = sym place; world = behind (with_class_entry (Some k) t) held (in_front (Some k) t.kept held there stand) }
led_by t held r k BusError there stand place =
    record { answer = sym place; world = behind (with_class_entry (Some k) t) held (in_front (Some k) t.kept held there stand) }

-- what was found, in memory that no mark changed
led_in : (t : World) (held : KeptLists) (r : Reference) (k : Kept) (ram : List ℕ) (f : Found) → t.ram ≡ ram → IsKept k t.kept → StandIn t.kept held
    → through k r ≡ (by_found rule_free (record t { ram = ram; kept = [] ∷ held }) r f).0
    → Met (through k r, with_class_entry (Some k) t) (by_found rule_free (record t { ram = ram; kept = [] ∷ held }) r f)
led_in t held r k ram f still there stand =
    subst (λ (ram : List ℕ). through k r ≡ (by_found rule_free (record t { ram = ram; kept = [] ∷ held }) r f).0
    → Met (through k r, with_class_entry (Some k) t) (by_found rule_free (record t { ram = ram; kept = [] ∷ held }) r f)) still
    (led_by t held r k f there stand)

led_met : (t : World) (held : KeptLists) (r : Reference) (k : Kept) → IsKept k t.kept → StandIn t.kept held → LeadsThere r (record t { kept = held }) k
    → Met (through k r, with_class_entry (Some k) t) (searched rule_free (record t { kept = [] ∷ held }) r)
led_met t held r k there stand a =
    let s = search_for t r in
    led_in t held r k s.ram s.found (sym a.still) there stand a.place

-- ---- a translation

abbrev TranslationMeets : Reference → World → KeptLists → Option Kept → Type 0
TranslationMeets r t held entry =
    Met (translated rule_free r (with_class_entry entry t)) (translated rule_free r (record t { kept = [] ∷ held }))

protected_met : (b : Bool) (r : Reference) (w : World) (held : KeptLists) → StandIn w.kept held
    → Met (by_settled rule_free w r (if b then Refused else To r.at))
    (by_settled rule_free (record w { kept = [] ∷ held }) r (if b then Refused else To r.at))
protected_met true r w held stand = record { answer = refl; world = behind w held stand }
protected_met false r w held stand = record { answer = refl; world = behind w held stand }

matched_met : (r : Reference) (t : World) (held : KeptLists) (entry : Option Kept) (protected : Bool) → StandIn (option_to_list entry ∷ t.kept) held
    → untranslated t.mmu r ≡ Some protected → TranslationMeets r t held entry
matched_met r t held entry protected stand e =
    let one = by_match_of r (with_class_entry entry t) (Some protected) e in
    let two = by_match_of r (record t { kept = [] ∷ held }) (Some protected) e in
    let settled_to = by_settled rule_free (with_class_entry entry t) r (by_match rule_free (option_to_list entry ∷ t.kept) r (Some protected)) in
    subst (λ (x : Option ℕ × World). Met x (translated rule_free r (record t { kept = [] ∷ held }))) (sym one)
    (subst (λ (y : Option ℕ × World). Met settled_to y) (sym two)
    (protected_met (protected && r.write) r (with_class_entry entry t) held stand))

-- both search
search_met : (r : Reference) (t : World) (held : KeptLists) (entry : Option Kept) → StandIn (option_to_list entry ∷ t.kept) held
    → untranslated t.mmu r ≡ None
    → translated rule_free r (with_class_entry entry t) ≡ searched rule_free (with_class_entry entry t) r → TranslationMeets r t held entry
search_met r t held entry stand e one =
    let two = (accesses-use_or_search r (record t { kept = held }) e).none in
    subst (λ (x : Option ℕ × World). Met x (translated rule_free r (record t { kept = [] ∷ held }))) (sym one)
    (subst (λ (y : Option ℕ × World). Met (searched rule_free (with_class_entry entry t) r) y) (sym two)
    (searched_met (with_class_entry entry t) held r stand))

table_met : (r : Reference) (t : World) (held : KeptLists) (entry : Option Kept) → IfSome entry (λ k. IsKept k t.kept) → StandIn t.kept held
    → IfSome entry (λ k. OneWayReference (Some r) (record t { kept = held })) → untranslated t.mmu r ≡ None → TranslationMeets r t held entry
table_met r t held None is stand tidy e =
    search_met r t held None (in_front None t.kept held is stand) e (accesses-use_or_search r t e).none
table_met r t held (Some k) is stand tidy e =
    let there = in_front (Some k) t.kept held is stand in
    let ways = accesses-use_or_search r t e in
    elim (cases_Bool (is_of r.space (page_of r.at) k)) [
      | inl of ↦ elim (cases_Bool (marks k r)) [
        | inl mark ↦ search_met r t held (Some k) there e (ways.marked k of mark)
        | inr unmarked ↦
            let two = (accesses-use_or_search r (record t { kept = held }) e).none in
            let there_too = tidy e k (record { kept = stand k is; of = of; used = unmarked }) in
            subst (λ (x : Option ℕ × World). Met x (translated rule_free r (record t { kept = [] ∷ held }))) (sym (ways.uses k of unmarked))
            (subst (λ (y : Option ℕ × World). Met (through k r, with_class_entry (Some k) t) y) (sym two)
            (led_met t held r k is stand there_too))
      ]
      | inr other ↦ search_met r t held (Some k) there e (ways.other k other)
    ]

translated_by : (r : Reference) (t : World) (held : KeptLists) (entry : Option Kept) (o : Option Bool) → IfSome entry (λ k. IsKept k t.kept)
    → StandIn t.kept held → IfSome entry (λ k. OneWayReference (Some r) (record t { kept = held })) → untranslated t.mmu r ≡ o → TranslationMeets r t held entry
translated_by r t held entry (Some protected) is stand tidy e = matched_met r t held entry protected (in_front entry t.kept held is stand) e
translated_by r t held entry None is stand tidy e = table_met r t held entry is stand tidy e

translated_met : (r : Reference) (t : World) (held : KeptLists) (entry : Option Kept) → IfSome entry (λ k. IsKept k t.kept)
    → StandIn t.kept held → IfSome entry (λ k. OneWayReference (Some r) (record t { kept = held })) → TranslationMeets r t held entry
translated_met r t held entry is stand tidy = translated_by r t held entry (untranslated t.mmu r) is stand tidy refl

-- ---- what follows it

-- ---- the calls

read_met : {A : Type 0} (r : Reference) (len : ℕ) (take : Place → World → Option A × World) (t : World) (held : KeptLists) (entry : Option Kept)
    → ((place : Place) → IsBlind (take place)) → TranslationMeets r t held entry
    → Met (read_by rule_free r len take (with_class_entry entry t)) (read_by rule_free r len take (record t { kept = [] ∷ held }))
read_met r len take t held entry blind m =
    then_met (read_at r len take) (read-blind r len take blind) (translated rule_free r (with_class_entry entry t))
    (translated rule_free r (record t { kept = [] ∷ held })) m

write_met : (r : Reference) (len : ℕ) (store : Place → World → Option World) (t : World) (held : KeptLists) (entry : Option Kept)
    → ((place : Place) → IsBlindStore (store place)) → TranslationMeets r t held entry
    → Met (written_by rule_free r len store (with_class_entry entry t)) (written_by rule_free r len store (record t { kept = [] ∷ held }))
write_met r len store t held entry blind m =
    then_met (written_at r len store) (write-blind r len store blind) (translated rule_free r (with_class_entry entry t))
    (translated rule_free r (record t { kept = [] ∷ held })) m

tested_by_met : (w : World) (held : KeptLists) (space : Space) (page : ℕ) (write : Bool) (o : Option Bool) → StandIn w.kept held
    → Met (tested_by w space page write o) (tested_by (record w { kept = [] ∷ held }) space page write o)
tested_by_met w held space page write (Some protected) stand = record { answer = refl; world = behind w held stand }
tested_by_met w held space page write None stand = record {
  answer = refl;
  world = record {
    same = refl;
    kept = dropped-follows (has_big_pages w.mmu) space page w.kept ([] ∷ held) (λ k h. kept-behind [] held k (stand k h));
  };
}

set_met : (which : MmuReg) (value : ℕ) (w : World) (held : KeptLists) → StandIn w.kept held
    → WorldWithin (after_set_mmu rule_free which value w) (after_set_mmu rule_free which value (record w { kept = [] ∷ held }))
set_met which value w held stand = record { same = refl; kept = λ k h. kept-behind [] held k (stand k h) }

-- Where no entry is taken into the class both search, whether the call has one way or not.
pub called : (c : Call) (t : World) (held : KeptLists) (entry : Option Kept) → IfSome entry (λ k. IsKept k t.kept) → StandIn t.kept held
    → IfSome entry (λ k. IsOneWayCall c (record t { kept = held }))
    → Met (bus_of rule_free c (with_class_entry entry t)) (bus_of rule_free c (record t { kept = [] ∷ held }))
called (Fetch space at) t held entry is stand tidy =
    let r = fetching_of space at in read_met r 2 taken t held entry taken-blind (translated_met r t held entry is stand tidy)
called (Read space p) t held entry is stand tidy =
    let r = reading_of space p.at in read_met r p.len taken t held entry taken-blind (translated_met r t held entry is stand tidy)
called (Write space p value) t held entry is stand tidy =
    let r = writing_of space p.at in
    write_met r p.len (λ place. stored place value) t held entry (λ place. stored-blind place value) (translated_met r t held entry is stand tidy)
called (ReadLine space at) t held entry is stand tidy =
    let r = reading_of space at in read_met r 16 taken_line t held entry taken_line-blind (translated_met r t held entry is stand tidy)
called (WriteLine space at line) t held entry is stand tidy =
    let r = writing_of space at in
    write_met r 16 (λ place. stored_line place line) t held entry (λ place. stored_line-blind place line) (translated_met r t held entry is stand tidy)
called (Probe space p) t held entry is stand tidy =
    let r = writing_of space p.at in read_met r p.len checked t held entry checked-blind (translated_met r t held entry is stand tidy)
called (Get place) t held entry is stand tidy =
    blind_met (λ u. (unwrap_or (taken place u).0 0, (taken place u).1)) (get-blind place) (with_class_entry entry t) (record t { kept = [] ∷ held })
    (behind (with_class_entry entry t) held (in_front entry t.kept held is stand))
called (Put place value) t held entry is stand tidy =
    blind_met (λ u. (tt, unwrap_or (stored place value u) u)) (put-blind place value) (with_class_entry entry t) (record t { kept = [] ∷ held })
    (behind (with_class_entry entry t) held (in_front entry t.kept held is stand))
called ReadMmu t held entry is stand tidy =
    record { answer = refl; world = behind (with_class_entry entry t) held (in_front entry t.kept held is stand) }
called (SetMmu which value) t held entry is stand tidy =
    record { answer = refl; world = set_met which value (with_class_entry entry t) held (in_front entry t.kept held is stand) }
called (FlushKept what) t held entry is stand tidy =
    let there = in_front entry t.kept held is stand in
    record {
      answer = refl;
      world = record {
        same = refl;
        kept = flushed-follows what (option_to_list entry ∷ t.kept) ([] ∷ held) (λ k h. kept-behind [] held k (there k h));
      };
    }
called (Test space at write) t held entry is stand tidy =
    tested_met (with_class_entry entry t) held space (page_of at) write (in_front entry t.kept held is stand)
called ResetDevices t held entry is stand tidy =
    let there = in_front entry t.kept held is stand in
    record { answer = refl; world = record { same = refl; kept = λ k h. kept-behind [] held k (there k h) } }

if_some : (entry : Option Kept) (P : Type 0) → P → IfSome entry (λ k. P)
if_some None P h = tt
if_some (Some k) P h = h

from_same : (c : Call) (t : World) (held : KeptLists) (a : Answer c) (u : World) → StandIn t.kept held
    → IsOneWayCall c (record t { kept = held }) → (entry : Option Kept) → IfSome entry (λ k. IsKept k t.kept)
    → bus_of rule_free c (with_class_entry entry t) ≡ (a, u)
    → ((searching_bus c (record t { kept = held })).0 ≡ a) × WorldWithin u (searching_bus c (record t { kept = held })).1
from_same c t held a u stand tidy entry is e =
    let m = called c t held entry is stand (if_some entry (IsOneWayCall c (record t { kept = held })) tidy) in
    let s = bus_of rule_free c (record t { kept = [] ∷ held }) in
    (m.answer ∙ ap (λ (x : Answer c × World). x.0) e, subst (λ (x : Answer c × World). WorldWithin x.1 s.1) e m.world)

pub one_way_calls-have_no_choice : OneWayCallsHaveNoChoice
one_way_calls-have_no_choice = record {
  call = λ c s t a u h tidy (entry, is, e).
      subst (λ (v : World). ((searching_bus c v).0 ≡ a) × WorldWithin u (searching_bus c v).1) (sym h.same)
      (from_same c t s.kept a u h.kept (subst (λ (v : World). IsOneWayCall c v) h.same tidy) entry is e);
}
