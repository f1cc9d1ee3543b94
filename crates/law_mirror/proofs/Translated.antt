-- The board's translation in user mode: what the tables map; only kept entries change, and they agree with the tables.
use Rattle.std.proofs.Common.{if◌then◌else◌, ◌≡◌, ℕ, ◌+◌, ◌*◌, ◌<◌, ◌%◌, ◌^◌, ◌&&◌, ◌||◌, not, Bool, true, false, refl, ap, sym, ◌∙◌, subst, arith, inl, inr}
use Rattle.std.proofs.Common.{Option, Some}
use Rattle.std.proofs.Common.{None}
use Rattle.std.proofs.lemmas.Bool.{cases_Bool}
use Rattle.mb_port.specs.declared.types.Space.TheVariants.{User}
use Rattle.mb_model.specs.declared.kept.Kept.{Kept}
use Rattle.mb_model.specs.Keeping.{Rule, is_of, list_of, entry_for}
use Rattle.mb_model.proofs.ApartLemmas.{is_of-same}
use Rattle.mb_walk.specs.Search.{Searched, search_of}
use Rattle.def_machine.specs.declared.reference.Reference.{Reference}
use Rattle.def_machine.specs.declared.reference.Settled.TheVariants.{Unsettled}
use Rattle.def_machine.specs.World.{World}
use Rattle.mb_model.specs.Pages.{page_of, has_big_pages}
use Rattle.def_machine.specs.Access.{marks, through, known, settled, by_found, by_search, page_search, searched, translated}
use Rattle.def_runs.proofs.KeptLemmas.{found, filled-is}
use Rattle.vm_shadow.specs.Laws.{found_of}
use Rattle.vm_shadow.specs.Mapped.{root_of}
use Rattle.vm_shadow.proofs.Searches.{searches_find_entries}
use Rattle.def_guests.specs.Guests.{Guest, ref}
use Rattle.law_mirror.specs.Related.{Site, Related, Agrees, AllAgree, mapping}
use Rattle.law_mirror.proofs.Quiet.{wanted, Quiet, Translates}
use Rattle.law_held.proofs.Stages.{settled_by, entry_used, entry_marked, by_known, translated_by, no_entry}

-- ---- stages, by any rule

-- ---- through an entry for user space

pub through_wanted : (k : Kept) (code : Bool) (at : ℕ) (write : Bool) (frame : ℕ) (writable : Bool) → k.frame ≡ frame → k.w ≡ not writable → k.s ≡ false
    → through k (ref code User at write) ≡ wanted (Some (frame, writable)) at write
through_wanted k code at write frame writable f v s = rw (f, v, s) (one writable write)
  where
    one : (writable write : Bool) → (if not (not writable && write) && true then Some (4096 * frame + at % 4096) else None)
        ≡ (if not write || writable then Some (4096 * frame + at % 4096) else None)
    one true true = refl
    one true false = refl
    one false true = refl
    one false false = refl

not_not : (b : Bool) → not (not b) ≡ b
not_not true = refl
not_not false = refl

-- ---- a search

quiet_none : (x : Site) (b : World) → AllAgree (mapping x b.ram) b.kept → Quiet x b b
quiet_none x b a = record { same = refl; kept = a }

found_translates : (x : Site) (rule : Rule) (b : World) (code : Bool) (at : ℕ) (write : Bool) (o : Option (ℕ × Bool)) → mapping x b.ram (page_of at) ≡ o
    → AllAgree (mapping x b.ram) b.kept
    → Translates x b (wanted o at write) (by_found rule b (ref code User at write) (found_of User (page_of at) o))
found_translates x rule b code at write None m a = record { answer = refl; quiet = quiet_none x b a }
found_translates x rule b code at write (Some (frame, writable)) m a =
    let k : Kept = record { space = User; page = page_of at; frame = frame; w = not writable; s = false; g = false; m = true } in
    record {
      answer = through_wanted k code at write frame writable refl refl refl;
      quiet = record {
        same = refl;
        kept = λ e is. elim (filled-is rule code k b.kept e is) [
          | inl old ↦ a e old
          | inr new ↦ subst (λ (e : Kept). Agrees (mapping x b.ram) e) new
              (λ user. (m ∙ ap (λ (w : Bool). (let p : Option (ℕ × Bool) = Some (frame, w) in p)) (sym (not_not writable)), refl))
        ];
      };
    }

search_translates : (x : Site) (rule : Rule) (b : World) (g : Guest) (code : Bool) (at : ℕ) (write : Bool) → Related x b g → at < 2 ^ 32
    → Translates x b (wanted (mapping x b.ram (page_of at)) at write) (searched rule b (ref code User at write))
search_translates x rule b g code at write r l =
    let s : page_search b User (page_of at) write
    ≡ record { ram = b.ram; found = found_of User (page_of at) (mapping x b.ram (page_of at)) } =
    ap (λ (root : ℕ). search_of b.ram root User (page_of at) write (has_big_pages b.mmu)) r.root
    ∙ ap (search_of b.ram (root_of x.slots.area x.space) User (page_of at) write) r.small
    ∙ searches_find_entries x.slots b.ram x.space User (page_of at) write r.maps r.bytes (omega arith) in
    subst (λ (s : Searched). Translates x b (wanted (mapping x b.ram (page_of at)) at write) (by_search rule b (ref code User at write) s))
    (sym s) (found_translates x rule b code at write (mapping x b.ram (page_of at)) refl r.kept)

-- ---- the whole

-- a kept entry of the page says what the tables say
entry_agrees : (x : Site) (rule : Rule) (b : World) (g : Guest) (code : Bool) (at : ℕ) (k : Kept) → Related x b g
    → entry_for rule code User (page_of at) b.kept ≡ Some k → (mapping x b.ram (page_of at) ≡ Some (k.frame, not k.w)) × (k.s ≡ false)
entry_agrees x rule b g code at k r e =
    let class = rule.class_of code (page_of at) in
    let (there, is) = found (is_of User (page_of at)) (list_of class b.kept) k e in
    let (s, p) = is_of-same User (page_of at) k is in
    let a = r.kept k (class, there) s in
    (ap (mapping x b.ram) (sym p) ∙ a.0, a.1)

module _ (x : Site) (rule : Rule) (b : World) (g : Guest) (code : Bool) (at : ℕ) (write : Bool) (r : Related x b g) (l : at < 2 ^ 32) where
  abbrev U : Reference
  U = ref code User at write

  abbrev Holds : Option ℕ × World → Type 0
  Holds q = Translates x b (wanted (mapping x b.ram (page_of at)) at write) q

  searching : settled rule b.mmu b.kept U ≡ Unsettled → Holds (translated rule U b)
  searching e = subst Holds (sym (translated_by rule b U Unsettled e)) (search_translates x rule b g code at write r l)

  by_kept : (o : Option Kept) → entry_for rule code User (page_of at) b.kept ≡ o → Holds (translated rule U b)
  by_kept None e = searching (settled_by rule b.mmu b.kept U None (r.no_match code at write) e ∙ no_entry U)
  by_kept (Some k) e = elim (cases_Bool (marks k U)) [
    | inl again ↦ searching (settled_by rule b.mmu b.kept U (Some k) (r.no_match code at write) e ∙ entry_marked k U again)
    | inr serves ↦
        let says = entry_agrees x rule b g code at k r e in
        let st : settled rule b.mmu b.kept U ≡ known (through k U) =
        settled_by rule b.mmu b.kept U (Some k) (r.no_match code at write) e ∙ entry_used k U serves in
        subst Holds (sym (translated_by rule b U (known (through k U)) st ∙ by_known rule b U (through k U))) (record {
          answer = through_wanted k code at write k.frame (not k.w) refl (sym (not_not k.w)) says.1
              ∙ ap (λ (o : Option (ℕ × Bool)). wanted o at write) (sym says.0);
          quiet = quiet_none x b r.kept;
        })
  ]

  pub board_translates : Translates x b (wanted (mapping x b.ram (page_of at)) at write) (translated rule (ref code User at write) b)
  board_translates = by_kept (entry_for rule code User (page_of at) b.kept) refl
