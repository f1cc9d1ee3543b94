-- What a bus by a rule does at a call, a free board may do.
use Rattle.std.proofs.Common.{◌≡◌, ℕ, Bool, false, List, [], ◌∷◌, refl, sym, ◌∙◌, ap, subst, inl, inr}
use Rattle.std.specs.Prelude.{◌⊎◌, Option, Some, None, IfSome, option_to_list, unwrap_or}
use Rattle.mb_port.specs.Routine.{Call, Answer, Fetch, Read, Write, ReadLine, WriteLine, Probe, Get, Put, ReadMmu, SetMmu, FlushKept, Test, ResetDevices}
use Rattle.mb_port.specs.declared.types.Space.{Space}
use Rattle.mb_port.specs.declared.types.Place.{Place}
use Rattle.mb_port.specs.declared.types.Mmu.{Mmu}
use Rattle.mb_port.specs.declared.types.MmuReg.{MmuReg}
use Rattle.mb_model.specs.declared.kept.Kept.{Kept}
use Rattle.mb_model.specs.Keeping.{Rule, KeptLists, entry_for, filled, list_of, is_of}
use Rattle.mb_walk.specs.declared.found.Found.{Found}
use Rattle.mb_walk.specs.declared.found.Found.TheVariants.{Entry, Invalid, BusError}
use Rattle.law_routines.specs.Relations.{MayFollow}
use Rattle.law_routines.specs.Refusal.{any_call}
use Rattle.def_machine.specs.declared.reference.Reference.{Reference}
use Rattle.def_machine.specs.declared.reference.Settled.{Settled}
use Rattle.def_machine.specs.declared.reference.Settled.TheVariants.{To, Refused, Unsettled}
use Rattle.def_machine.specs.World.{World}
use Rattle.def_machine.specs.Places.{taken, stored, checked, taken_line, stored_line}
use Rattle.mb_model.specs.Pages.{page_of, has_big_pages}
use Rattle.def_machine.specs.Access.{matched, search_for, settled, by_match, by_entry, untranslated, searched, translated, by_settled, by_found}
use Rattle.def_machine.specs.Bus.{bus_of, reading_of, writing_of, fetching_of, read_at, read_by, written_at, written_by, tested, tested_by, after_set_mmu}
use Rattle.def_runs.specs.Free.{IsKept, StandIn, rule_free, with_class_entry, FreeCall, WorldWithin}
use Rattle.def_runs.proofs.Blind.{IsBlind, IsBlindStore, taken-blind, taken_line-blind, checked-blind, stored-blind, stored_line-blind}
use Rattle.def_runs.proofs.Blind.{read-blind, write-blind, get-blind, put-blind, blind-kept}
use Rattle.def_runs.proofs.KeptLemmas.{kept-behind, flushed-follows, dropped-follows, movec-adds_none, filled-is, filled-first, filled-behind, found-again, found-is_kept}

-- the same answer, in a world that keeps more
pub record Met {A : Type 0} (x y : A × World) : Type 0 where
  pub answer : y.0 ≡ x.0
  pub world : WorldWithin x.1 y.1

-- ---- a translation

behind : (w : World) (xs : List Kept) (held : KeptLists) → StandIn w.kept held → WorldWithin w (record w { kept = xs ∷ held })
behind w xs held stand = record { same = refl; kept = λ k h. kept-behind xs held k (stand k h) }

known_alike : (rule : Rule) (kept held : KeptLists) (r : Reference) (o : Option Bool)
    → by_match rule_free (option_to_list (entry_for rule r.code r.space (page_of r.at) kept) ∷ held) r o ≡ by_match rule kept r o
known_alike rule kept held r (Some protected) = refl
known_alike rule kept held r None =
    let p = is_of r.space (page_of r.at) in
    let class = rule.class_of r.code (page_of r.at) in
    ap (λ (o : Option Kept). by_entry r o) (found-again p (list_of class kept) (entry_for rule r.code r.space (page_of r.at) kept) refl)

settled_alike : (rule : Rule) (mmu : Mmu) (kept held : KeptLists) (r : Reference)
    → settled rule_free mmu (option_to_list (entry_for rule r.code r.space (page_of r.at) kept) ∷ held) r ≡ settled rule mmu kept r
settled_alike rule mmu kept held r = known_alike rule kept held r (untranslated mmu r)

filled_stands : (rule : Rule) (code : Bool) (k : Kept) (kept held : KeptLists) (xs : List Kept) → StandIn kept held
    → (x : Kept) → IsKept x kept ⊎ (k ≡ x) → IsKept x (filled rule_free code k (xs ∷ held))
filled_stands rule code k kept held xs stand x (inl h) = filled-behind rule_free code k xs held refl x (stand x h)
filled_stands rule code k kept held xs stand x (inr e) =
    subst (λ (y : Kept). IsKept y (filled rule_free code k (xs ∷ held))) e (filled-first rule_free code k xs held refl)

found_met : (rule : Rule) (w : World) (xs : List Kept) (held : KeptLists) (r : Reference) (f : Found) → StandIn w.kept held
    → Met (by_found rule w r f) (by_found rule_free (record w { kept = xs ∷ held }) r f)
found_met rule w xs held r (Entry k mmusr) stand = record {
  answer = refl;
  world = record { same = refl; kept = λ x h. filled_stands rule r.code k w.kept held xs stand x (filled-is rule r.code k w.kept x h) };
}
found_met rule w xs held r Invalid stand = record { answer = refl; world = behind w xs held stand }
found_met rule w xs held r BusError stand = record { answer = refl; world = behind w xs held stand }

searched_met : (rule : Rule) (w : World) (xs : List Kept) (held : KeptLists) (r : Reference) → StandIn w.kept held
    → Met (searched rule w r) (searched rule_free (record w { kept = xs ∷ held }) r)
searched_met rule w xs held r stand =
    let s = search_for w r in
    found_met rule (record w { ram = s.ram }) xs held r s.found stand

settled_met : (rule : Rule) (w : World) (xs : List Kept) (held : KeptLists) (r : Reference) (s : Settled) → StandIn w.kept held
    → Met (by_settled rule w r s) (by_settled rule_free (record w { kept = xs ∷ held }) r s)
settled_met rule w xs held r (To at) stand = record { answer = refl; world = behind w xs held stand }
settled_met rule w xs held r Refused stand = record { answer = refl; world = behind w xs held stand }
settled_met rule w xs held r Unsettled stand = searched_met rule w xs held r stand

-- the entry that the rule uses for a reference
used : Rule → Reference → World → Option Kept
used rule r w = entry_for rule r.code r.space (page_of r.at) w.kept

used_is_kept : (rule : Rule) (r : Reference) (w : World) (held : KeptLists) → StandIn w.kept held → IfSome (used rule r w) (λ k. IsKept k held)
unfolding used
used_is_kept rule r w held stand =
    found-is_kept (is_of r.space (page_of r.at)) (rule.class_of r.code (page_of r.at)) w.kept held (used rule r w) refl stand

translated_met : (rule : Rule) (r : Reference) (w : World) (held : KeptLists) → StandIn w.kept held
    → Met (translated rule r w) (translated rule_free r (record w { kept = option_to_list (used rule r w) ∷ held }))
unfolding translated used
translated_met rule r w held stand =
    let xs = option_to_list (used rule r w) in
    subst (λ (s : Settled). Met (translated rule r w) (by_settled rule_free (record w { kept = xs ∷ held }) r s))
    (sym (settled_alike rule w.mmu w.kept held r))
    (settled_met rule w xs held r (settled rule w.mmu w.kept r) stand)

-- ---- what follows it

pub blind_met : {A : Type 0} (f : World → A × World) → IsBlind f → (w v : World) → WorldWithin w v → Met (f w) (f v)
blind_met {A} f blind w v h =
    let e : f v ≡ ((f w).0, record (f w).1 { kept = v.kept }) = ap f h.same ∙ blind w v.kept in
    let own = blind-kept f blind w in
    subst (λ (y : A × World). Met (f w) y) (sym e) (record {
      answer = refl;
      world = record { same = refl; kept = λ k g. h.kept k (subst (λ (kept : KeptLists). IsKept k kept) own g) };
    })

pub then_met : {A : Type 0} (g : Option ℕ → World → A × World) → ((o : Option ℕ) → IsBlind (g o)) → (x y : Option ℕ × World) → Met x y
    → Met (g x.0 x.1) (g y.0 y.1)
then_met g blind x y m =
    subst (λ (o : Option ℕ). Met (g x.0 x.1) (g o y.1)) (sym m.answer) (blind_met (g x.0) (blind x.0) x.1 y.1 m.world)

-- ---- the calls

read_met : {A : Type 0} (rule : Rule) (r : Reference) (len : ℕ) (take : Place → World → Option A × World) (w : World) (held : KeptLists)
    → ((place : Place) → IsBlind (take place)) → StandIn w.kept held
    → Met (read_by rule r len take w) (read_by rule_free r len take (record w { kept = option_to_list (used rule r w) ∷ held }))
read_met rule r len take w held blind stand =
    let free = record w { kept = option_to_list (used rule r w) ∷ held } in
    then_met (read_at r len take) (read-blind r len take blind) (translated rule r w) (translated rule_free r free)
    (translated_met rule r w held stand)

write_met : (rule : Rule) (r : Reference) (len : ℕ) (store : Place → World → Option World) (w : World) (held : KeptLists)
    → ((place : Place) → IsBlindStore (store place)) → StandIn w.kept held
    → Met (written_by rule r len store w) (written_by rule_free r len store (record w { kept = option_to_list (used rule r w) ∷ held }))
write_met rule r len store w held blind stand =
    let free = record w { kept = option_to_list (used rule r w) ∷ held } in
    then_met (written_at r len store) (write-blind r len store blind) (translated rule r w) (translated rule_free r free)
    (translated_met rule r w held stand)

tested_by_met : (w : World) (held : KeptLists) (space : Space) (page : ℕ) (write : Bool) (o : Option Bool) → StandIn w.kept held
    → Met (tested_by w space page write o) (tested_by (record w { kept = [] ∷ held }) space page write o)
tested_by_met w held space page write (Some protected) stand = record { answer = refl; world = behind w [] held stand }
tested_by_met w held space page write None stand = record {
  answer = refl;
  world = record {
    same = refl;
    kept = dropped-follows (has_big_pages w.mmu) space page w.kept ([] ∷ held) (λ k h. kept-behind [] held k (stand k h));
  };
}

pub tested_met : (w : World) (held : KeptLists) (space : Space) (page : ℕ) (write : Bool) → StandIn w.kept held
    → Met (tested space page write w) (tested space page write (record w { kept = [] ∷ held }))
tested_met w held space page write stand = tested_by_met w held space page write (matched false w.mmu space page) stand

set_met : (rule : Rule) (which : MmuReg) (value : ℕ) (w : World) (held : KeptLists) → StandIn w.kept held
    → WorldWithin (after_set_mmu rule which value w) (after_set_mmu rule_free which value (record w { kept = [] ∷ held }))
set_met rule which value w held stand =
    record { same = refl; kept = λ k h. kept-behind [] held k (stand k (movec-adds_none rule which w.kept k h)) }

-- the entry that the free board takes, so that it does what the rule's does
record Followed (rule : Rule) (c : Call) (w : World) (held : KeptLists) : Type 0 where
  entry : Option Kept
  stands : IfSome entry (λ k. IsKept k held)
  met : Met (bus_of rule c w) (bus_of rule_free c (with_class_entry entry (record w { kept = held })))

followed : (rule : Rule) (c : Call) (w : World) (held : KeptLists) → StandIn w.kept held → Followed rule c w held
followed rule (Fetch space at) w held stand = record {
  entry = used rule (fetching_of space at) w;
  stands = used_is_kept rule (fetching_of space at) w held stand;
  met = read_met rule (fetching_of space at) 2 taken w held taken-blind stand;
}
followed rule (Read space p) w held stand = record {
  entry = used rule (reading_of space p.at) w;
  stands = used_is_kept rule (reading_of space p.at) w held stand;
  met = read_met rule (reading_of space p.at) p.len taken w held taken-blind stand;
}
followed rule (Write space p value) w held stand = record {
  entry = used rule (writing_of space p.at) w;
  stands = used_is_kept rule (writing_of space p.at) w held stand;
  met = write_met rule (writing_of space p.at) p.len (λ place. stored place value) w held (λ place. stored-blind place value) stand;
}
followed rule (ReadLine space at) w held stand = record {
  entry = used rule (reading_of space at) w;
  stands = used_is_kept rule (reading_of space at) w held stand;
  met = read_met rule (reading_of space at) 16 taken_line w held taken_line-blind stand;
}
followed rule (WriteLine space at line) w held stand = record {
  entry = used rule (writing_of space at) w;
  stands = used_is_kept rule (writing_of space at) w held stand;
  met = write_met rule (writing_of space at) 16 (λ place. stored_line place line) w held (λ place. stored_line-blind place line) stand;
}
followed rule (Probe space p) w held stand = record {
  entry = used rule (writing_of space p.at) w;
  stands = used_is_kept rule (writing_of space p.at) w held stand;
  met = read_met rule (writing_of space p.at) p.len checked w held checked-blind stand;
}
followed rule (Get place) w held stand = record {
  entry = None;
  stands = tt;
  met = blind_met (λ u. (unwrap_or (taken place u).0 0, (taken place u).1)) (get-blind place) w (record w { kept = [] ∷ held })
      (behind w [] held stand);
}
followed rule (Put place value) w held stand = record {
  entry = None;
  stands = tt;
  met = blind_met (λ u. (tt, unwrap_or (stored place value u) u)) (put-blind place value) w (record w { kept = [] ∷ held })
      (behind w [] held stand);
}
followed rule ReadMmu w held stand =
    record { entry = None; stands = tt; met = record { answer = refl; world = behind w [] held stand } }
followed rule (SetMmu which value) w held stand =
    record { entry = None; stands = tt; met = record { answer = refl; world = set_met rule which value w held stand } }
followed rule (FlushKept what) w held stand = record {
  entry = None;
  stands = tt;
  met = record {
    answer = refl;
    world = record { same = refl; kept = flushed-follows what w.kept ([] ∷ held) (λ k h. kept-behind [] held k (stand k h)) };
  };
}
followed rule (Test space at write) w held stand =
    record { entry = None; stands = tt; met = tested_met w held space (page_of at) write stand }
followed rule ResetDevices w held stand = record {
  entry = None;
  stands = tt;
  met = record { answer = refl; world = record { same = refl; kept = λ k h. kept-behind [] held k (stand k h) } };
}

pub calls-are_free : (rule : Rule) → MayFollow WorldWithin any_call (bus_of rule) FreeCall
calls-are_free rule = record {
  call = λ c w free h lawful.
      let f = followed rule c w free.kept h.kept in
      let after = (bus_of rule_free c (with_class_entry f.entry (record w { kept = free.kept }))).1 in
      subst (λ (t : World). (u : World) × FreeCall c t ((bus_of rule c w).0) u × WorldWithin ((bus_of rule c w).1) u) (sym h.same)
      (after, (f.entry, f.stands, ap (λ (a : Answer c). (a, after)) f.met.answer), f.met.world);
}
