-- What a free board keeps after a call.
use Rattle.std.proofs.Common.{◌≡◌, ℕ, zero, suc, Bool, false, ◌&&◌, List, [], ◌∷◌, refl, sym, ap, subst, inl, inr}
use Rattle.std.specs.Prelude.{◌⊎◌, Contains, Option, Some, None, IfSome, is_none, option_to_list, unwrap_or}
use Rattle.mb_port.specs.Routine.{Call, Answer, Fetch, Read, Write, ReadLine, WriteLine, Probe, Get, Put, ReadMmu, SetMmu, FlushKept, Test, ResetDevices}
use Rattle.mb_port.specs.declared.types.Space.{Space}
use Rattle.mb_port.specs.declared.types.Place.{Place}
use Rattle.mb_port.specs.declared.types.MmuReg.{MmuReg}
use Rattle.mb_port.specs.declared.types.Flush.{Flush}
use Rattle.mb_model.specs.declared.kept.Kept.{Kept}
use Rattle.mb_model.specs.Keeping.{KeptLists, covers, flushed, after_ptest, is_half_of}
use Rattle.mb_walk.specs.declared.found.Found.{Found}
use Rattle.mb_walk.specs.declared.found.Found.TheVariants.{Entry, Invalid, BusError}
use Rattle.def_machine.specs.declared.reference.Reference.{Reference}
use Rattle.def_machine.specs.declared.reference.Settled.{Settled}
use Rattle.def_machine.specs.declared.reference.Settled.TheVariants.{To, Refused, Unsettled}
use Rattle.def_machine.specs.World.{World}
use Rattle.def_machine.specs.Places.{taken, stored, checked, taken_line, stored_line}
use Rattle.mb_model.specs.Pages.{page_of, has_big_pages}
use Rattle.def_machine.specs.Access.{matched, search_for, settled, searched, translated, by_settled, by_found}
use Rattle.def_machine.specs.Bus.{bus_of, reading_of, writing_of, fetching_of, read_at, read_by, written_at, written_by, tested, tested_by, after_set_mmu}
use Rattle.def_runs.specs.Free.{IsKept, rule_free}
use Rattle.def_runs.specs.Laws.{IsFound, KeepsFound, FreeBoardsKeep}
use Rattle.def_runs.proofs.KeptLemmas.{empty, head_or_tail, kept-behind, flushed-is, flushed-keeps, dropped-is, dropped-keeps, filled-is, filled-behind}
use Rattle.def_runs.proofs.Blind.{IsBlind, IsBlindStore, taken-blind, taken_line-blind, checked-blind, stored-blind, stored_line-blind}
use Rattle.def_runs.proofs.Blind.{read-blind, write-blind, get-blind, put-blind, blind-kept}

-- ---- a translation

record Keeps (r : Reference) (w v : World) : Type 0 where
  stays : (k : Kept) → IsKept k w.kept → IsKept k v.kept
  only : (k : Kept) → IsKept k v.kept → IsKept k w.kept ⊎ IsFound w k r

-- what is in the class was kept
abbrev AreKept : List Kept → KeptLists → Type 0
AreKept xs kept = (k : Kept) → Contains xs k → IsKept k kept

behind_or_in_front : (xs : List Kept) (kept : KeptLists) → AreKept xs kept → (k : Kept) → IsKept k (xs ∷ kept) → IsKept k kept
behind_or_in_front xs kept are k (zero, h) = are k h
behind_or_in_front xs kept are k (suc class, h) = (class, h)

as_it_was : (r : Reference) (w : World) (xs : List Kept) → AreKept xs w.kept → Keeps r w (record w { kept = xs ∷ w.kept })
as_it_was r w xs are = record { stays = kept-behind xs w.kept; only = λ k h. inl (behind_or_in_front xs w.kept are k h) }

filled_only : (r : Reference) (w : World) (xs : List Kept) (found k : Kept) → AreKept xs w.kept → IsFound w found r
    → IsKept k (xs ∷ w.kept) ⊎ (found ≡ k) → IsKept k w.kept ⊎ IsFound w k r
filled_only r w xs found k are f (inl h) = inl (behind_or_in_front xs w.kept are k h)
filled_only r w xs found k are f (inr e) = inr (subst (λ (x : Kept). IsFound w x r) e f)

found_keeps : (r : Reference) (w : World) (ram : List ℕ) (xs : List Kept) (f : Found) → AreKept xs w.kept
    → (search_for w r).found ≡ f
    → Keeps r w (by_found rule_free (record w { ram = ram; kept = xs ∷ w.kept }) r f).1
found_keeps r w ram xs (Entry found mmusr) are e = record {
  stays = filled-behind rule_free r.code found xs w.kept refl;
  only = λ k h. filled_only r w xs found k are (mmusr, e) (filled-is rule_free r.code found (xs ∷ w.kept) k h);
}
found_keeps r w ram xs Invalid are e = record { stays = kept-behind xs w.kept; only = λ k h. inl (behind_or_in_front xs w.kept are k h) }
found_keeps r w ram xs BusError are e = record { stays = kept-behind xs w.kept; only = λ k h. inl (behind_or_in_front xs w.kept are k h) }

searched_keeps : (r : Reference) (w : World) (xs : List Kept) → AreKept xs w.kept
    → Keeps r w (searched rule_free (record w { kept = xs ∷ w.kept }) r).1
searched_keeps r w xs are =
    let s = search_for w r in found_keeps r w s.ram xs s.found are refl

settled_keeps : (r : Reference) (w : World) (xs : List Kept) (s : Settled) → AreKept xs w.kept
    → Keeps r w (by_settled rule_free (record w { kept = xs ∷ w.kept }) r s).1
settled_keeps r w xs (To at) are = as_it_was r w xs are
settled_keeps r w xs Refused are = as_it_was r w xs are
settled_keeps r w xs Unsettled are = searched_keeps r w xs are

translated_keeps : (r : Reference) (w : World) (xs : List Kept) → AreKept xs w.kept
    → Keeps r w (translated rule_free r (record w { kept = xs ∷ w.kept })).1
unfolding translated
translated_keeps r w xs are = settled_keeps r w xs (settled rule_free w.mmu (xs ∷ w.kept) r) are

-- ---- what follows it

then_keeps : {A : Type 0} (g : Option ℕ → World → A × World) (r : Reference) (w : World) (x : Option ℕ × World)
    → ((o : Option ℕ) → IsBlind (g o)) → Keeps r w x.1 → Keeps r w (g x.0 x.1).1
then_keeps g r w x blind h =
    let same : (g x.0 x.1).1.kept ≡ x.1.kept = blind-kept (g x.0) (blind x.0) x.1 in
    record {
      stays = λ k there. subst (λ (kept : KeptLists). IsKept k kept) (sym same) (h.stays k there);
      only = λ k there. h.only k (subst (λ (kept : KeptLists). IsKept k kept) same there);
    }

read_keeps : {A : Type 0} (r : Reference) (len : ℕ) (take : Place → World → Option A × World) (w : World) (xs : List Kept)
    → ((place : Place) → IsBlind (take place)) → AreKept xs w.kept
    → Keeps r w (read_by rule_free r len take (record w { kept = xs ∷ w.kept })).1
read_keeps r len take w xs blind are =
    then_keeps (read_at r len take) r w (translated rule_free r (record w { kept = xs ∷ w.kept })) (read-blind r len take blind)
    (translated_keeps r w xs are)

write_keeps : (r : Reference) (len : ℕ) (store : Place → World → Option World) (w : World) (xs : List Kept)
    → ((place : Place) → IsBlindStore (store place)) → AreKept xs w.kept
    → Keeps r w (written_by rule_free r len store (record w { kept = xs ∷ w.kept })).1
write_keeps r len store w xs blind are =
    then_keeps (written_at r len store) r w (translated rule_free r (record w { kept = xs ∷ w.kept })) (write-blind r len store blind)
    (translated_keeps r w xs are)

-- ---- the calls

-- what it keeps of what was kept, where it drops by this test
record Stays (after_ptest : Bool) (k : Kept) (w after : World) : Type 0 where
  stays : IsKept k w.kept → after_ptest ≡ false → IsKept k after.kept
  only : IsKept k after.kept → IsKept k w.kept × (after_ptest ≡ false)

unchanged : (k : Kept) (w after : World) (xs : List Kept) → AreKept xs w.kept → after.kept ≡ xs ∷ w.kept → Stays false k w after
unchanged k w after xs are same = record {
  stays = λ h d. subst (λ (kept : KeptLists). IsKept k kept) (sym same) (kept-behind xs w.kept k h);
  only = λ h. (behind_or_in_front xs w.kept are k (subst (λ (kept : KeptLists). IsKept k kept) same h), refl);
}

after_flush : (what : Flush) (k : Kept) (w after : World) (xs : List Kept) → AreKept xs w.kept → after.kept ≡ flushed what (xs ∷ w.kept)
    → Stays (covers what k) k w after
after_flush what k w after xs are same = record {
  stays = λ h d. subst (λ (kept : KeptLists). IsKept k kept) (sym same) (flushed-keeps what (xs ∷ w.kept) k (kept-behind xs w.kept k h) d);
  only = λ h.
      let there = flushed-is what (xs ∷ w.kept) k (subst (λ (kept : KeptLists). IsKept k kept) same h) in
      (behind_or_in_front xs w.kept are k there.0, there.1);
}

after_drop : (big : Bool) (space : Space) (page : ℕ) (k : Kept) (w after : World) (xs : List Kept) → AreKept xs w.kept
    → after.kept ≡ after_ptest big space page (xs ∷ w.kept) → Stays (is_half_of big space page k) k w after
after_drop big space page k w after xs are same = record {
  stays = λ h d. subst (λ (kept : KeptLists). IsKept k kept) (sym same) (dropped-keeps big space page (xs ∷ w.kept) k (kept-behind xs w.kept k h) d);
  only = λ h.
      let there = dropped-is big space page (xs ∷ w.kept) k (subst (λ (kept : KeptLists). IsKept k kept) same h) in
      (behind_or_in_front xs w.kept are k there.0, there.1);
}

tested_by_stays : (k : Kept) (w : World) (xs : List Kept) (space : Space) (page : ℕ) (write : Bool) (o : Option Bool) → AreKept xs w.kept
    → Stays (is_none o && is_half_of (has_big_pages w.mmu) space page k) k w (tested_by (record w { kept = xs ∷ w.kept }) space page write o).1
tested_by_stays k w xs space page write (Some protected) are = unchanged k w (record w { kept = xs ∷ w.kept }) xs are refl
tested_by_stays k w xs space page write None are =
    after_drop (has_big_pages w.mmu) space page k w (tested_by (record w { kept = xs ∷ w.kept }) space page write None).1 xs are refl

tested_stays : (k : Kept) (w : World) (xs : List Kept) (space : Space) (page : ℕ) (write : Bool) → AreKept xs w.kept
    → Stays (is_none (matched false w.mmu space page) && is_half_of (has_big_pages w.mmu) space page k) k w
    (tested space page write (record w { kept = xs ∷ w.kept })).1
tested_stays k w xs space page write are = tested_by_stays k w xs space page write (matched false w.mmu space page) are

set_stays : (k : Kept) (w : World) (xs : List Kept) (which : MmuReg) (value : ℕ) → AreKept xs w.kept
    → Stays false k w (after_set_mmu rule_free which value (record w { kept = xs ∷ w.kept }))
set_stays k w xs which value are = unchanged k w (after_set_mmu rule_free which value (record w { kept = xs ∷ w.kept })) xs are refl

kept_or_found : (r : Reference) (w : World) (k : Kept) → IsKept k w.kept ⊎ IsFound w k r → (IsKept k w.kept × (false ≡ false)) ⊎ IsFound w k r
kept_or_found r w k (inl h) = inl (h, refl)
kept_or_found r w k (inr f) = inr f

called : (c : Call) (w : World) (xs : List Kept) → AreKept xs w.kept → (k : Kept)
    → KeepsFound c w (bus_of rule_free c (record w { kept = xs ∷ w.kept })).1 k
called (Fetch space at) w xs are k =
    let r = fetching_of space at in
    let h = read_keeps r 2 taken w xs taken-blind are in
    record { stays = λ there d. h.stays k there; only = λ there. kept_or_found r w k (h.only k there) }
called (Read space p) w xs are k =
    let r = reading_of space p.at in
    let h = read_keeps r p.len taken w xs taken-blind are in
    record { stays = λ there d. h.stays k there; only = λ there. kept_or_found r w k (h.only k there) }
called (Write space p value) w xs are k =
    let r = writing_of space p.at in
    let h = write_keeps r p.len (λ place. stored place value) w xs (λ place. stored-blind place value) are in
    record { stays = λ there d. h.stays k there; only = λ there. kept_or_found r w k (h.only k there) }
called (ReadLine space at) w xs are k =
    let r = reading_of space at in
    let h = read_keeps r 16 taken_line w xs taken_line-blind are in
    record { stays = λ there d. h.stays k there; only = λ there. kept_or_found r w k (h.only k there) }
called (WriteLine space at line) w xs are k =
    let r = writing_of space at in
    let h = write_keeps r 16 (λ place. stored_line place line) w xs (λ place. stored_line-blind place line) are in
    record { stays = λ there d. h.stays k there; only = λ there. kept_or_found r w k (h.only k there) }
called (Probe space p) w xs are k =
    let r = writing_of space p.at in
    let h = read_keeps r p.len checked w xs checked-blind are in
    record { stays = λ there d. h.stays k there; only = λ there. kept_or_found r w k (h.only k there) }
called (Get place) w xs are k =
    let free = record w { kept = xs ∷ w.kept } in
    let same = blind-kept (λ u. (unwrap_or (taken place u).0 0, (taken place u).1)) (get-blind place) free in
    let h = unchanged k w (taken place free).1 xs are same in
    record { stays = h.stays; only = λ there. inl (h.only there) }
called (Put place value) w xs are k =
    let free = record w { kept = xs ∷ w.kept } in
    let same = blind-kept (λ u. (tt, unwrap_or (stored place value u) u)) (put-blind place value) free in
    let h = unchanged k w (unwrap_or (stored place value free) free) xs are same in
    record { stays = h.stays; only = λ there. inl (h.only there) }
called ReadMmu w xs are k =
    let h = unchanged k w (record w { kept = xs ∷ w.kept }) xs are refl in
    record { stays = h.stays; only = λ there. inl (h.only there) }
called (SetMmu which value) w xs are k =
    let h = set_stays k w xs which value are in
    record { stays = h.stays; only = λ there. inl (h.only there) }
called (FlushKept what) w xs are k =
    let h = after_flush what k w (record w { kept = flushed what (xs ∷ w.kept) }) xs are refl in
    record { stays = h.stays; only = λ there. inl (h.only there) }
called (Test space at write) w xs are k =
    let h = tested_stays k w xs space (page_of at) write are in
    record { stays = h.stays; only = λ there. inl (h.only there) }
called ResetDevices w xs are k =
    let h = unchanged k w (bus_of rule_free ResetDevices (record w { kept = xs ∷ w.kept })).1 xs are refl in
    record { stays = h.stays; only = λ there. inl (h.only there) }

in_class : (entry : Option Kept) (kept : KeptLists) → IfSome entry (λ k. IsKept k kept) → AreKept (option_to_list entry) kept
in_class None kept h k there = absurd (empty k there)
in_class (Some x) kept h k there = elim (head_or_tail k x [] there) [
  | inl e ↦ subst (λ (y : Kept). IsKept y kept) e h
  | inr none ↦ absurd (empty k none)
]

pub free-boards_keep : FreeBoardsKeep
free-boards_keep c w after answer (entry, stands, e) k =
    subst (λ (v : World). KeepsFound c w v k) (ap (λ (x : Answer c × World). x.1) e)
    (called c w (option_to_list entry) (in_class entry w.kept stands) k)
