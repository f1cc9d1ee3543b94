-- What the search of the processor finds in the tables.
use Rattle.std.proofs.Common.{◌≡◌, ◌∙◌, ℕ, ◌+◌, ◌*◌, ◌/◌, ◌%◌, ◌^◌, ◌≤◌, ◌<◌, ◌==◌, ◌&&◌, ◌||◌, not, Bool, true, false, List, length}
use Rattle.std.proofs.Common.{refl, ap, sym, arith, inl, inr}
use Rattle.std.specs.Prelude.{Option, Some, Ok, Err}
use Rattle.std.proofs.lemmas.Bool.{cases_Bool, cases_lt}
use Rattle.std.proofs.lemmas.Bool.Decides.{nat_tests}
use Rattle.mb_port.specs.declared.types.Space.{Space}
use Rattle.mb_model.specs.declared.kept.Kept.{Kept}
use Rattle.mb_walk.specs.declared.found.Found.{Found}
use Rattle.mb_walk.specs.declared.found.Found.TheVariants.{Entry, Invalid}
use Rattle.mb_walk.specs.Memory.{number_at, with_number, AreBytes}
use Rattle.mb_walk.specs.Descriptors.{table_descriptor, page_descriptor, entry_at, root_index, pointer_index, page_index, with_modified, marked, page_takes_writes}
use Rattle.mb_walk.specs.Descriptors.{kept_of, resident_status}
use Rattle.mb_walk.specs.Search.{Searched, Level, and_below, is_inside, descended, ended, search_of}
use Rattle.mb_walk.proofs.LongLemmas.{long_back}
use Rattle.mb_walk.proofs.Marks.{used_before}
use Rattle.mb_walk.proofs.Again.{goes, stops, paged_left, left, ended_page, ended_invalid}
use Rattle.vm_shadow.specs.Slots.{Placed, placed, number_of, pages_of, pointers_of, Has}
use Rattle.vm_shadow.specs.Mapped.{first, second, root_of, entries_in}
use Rattle.vm_shadow.specs.Area.{longs, link, entry_of, page_long, IsPageLong, Laid}
use Rattle.vm_shadow.specs.Laws.{found_of, SearchesFindEntries}
use Rattle.vm_shadow.proofs.Changes.{held_yes, held_no, root_low}
use Rattle.vm_shadow.proofs.Walks.{mapped_is, first_at, first_link, first_resident, first_open, first_absent, has_above}
use Rattle.vm_shadow.proofs.Walks.{second_at, second_link, second_resident, second_open, second_absent, third_at, third_is, third_long}
use Rattle.vm_shadow.proofs.PageLongs.{PageCases, page_cases}
use Rattle.vm_shadow.proofs.Held.{find_is}
use Rattle.vm_shadow.proofs.Maps.{laid}

-- ---- a descriptor that is marked
module _ (ram : List ℕ) (bytes : AreBytes ram) (p : ℕ) (room : p + 4 ≤ length ram) where
  inside : is_inside ram p ≡ true
  inside = grind (arith, nat_tests)

  -- a level changes nothing
  pub level_still : (table_descriptor (number_at ram p 4)).resident ≡ true → number_at ram p 4 / 2 ^ 3 % 2 ≡ 1
      → descended ram p ≡ record { ram = ram; descriptor = Ok (number_at ram p 4) }
  level_still r u =
      goes ram p inside r
      ∙ ap (λ (ram' : List ℕ). record { ram = ram'; descriptor = Ok (number_at ram p 4) })
      (ap (with_number ram p 4) (used_before (number_at ram p 4) u) ∙ long_back ram p room bytes)

  pub level_stops : (table_descriptor (number_at ram p 4)).resident ≡ false → descended ram p ≡ record { ram = ram; descriptor = Err Invalid }
  level_stops r = stops ram p inside r

marked_before : (d : ℕ) (protected : Bool) (space : Space) (write : Bool) → d / 2 ^ 3 % 2 ≡ 1 → d / 2 ^ 4 % 2 ≡ 1 → marked d protected space write ≡ d
marked_before d protected space write u m = elim (cases_Bool (write && page_takes_writes (page_descriptor d) protected space)) [
  | inl b ↦ rw (b, used_before d u) (modified d m)
  | inr b ↦ rw b (used_before d u)
]
  where
    modified : (d : ℕ) → d / 2 ^ 4 % 2 ≡ 1 → with_modified d ≡ d
    modified d m = rw m refl

pub entry_long : (frame : ℕ) (writable : Bool) → entry_of (page_long frame writable) ≡ Some (frame, writable)
entry_long frame true =
    let r : (4096 * frame + 25) % 2 ≡ 1 = omega arith in
    let f : (4096 * frame + 25) / 4096 ≡ frame = omega arith in
    let p : (4096 * frame + 25) / 4 % 2 ≡ 0 = omega arith in
    rw (r, f, p) refl
entry_long frame false =
    let r : (4096 * frame + 29) % 2 ≡ 1 = omega arith in
    let f : (4096 * frame + 29) / 4096 ≡ frame = omega arith in
    let p : (4096 * frame + 29) / 4 % 2 ≡ 1 = omega arith in
    rw (r, f, p) refl

abbrev kept_entry : Space → ℕ → ℕ → Bool → Kept
kept_entry space page frame writable = record { space = space; page = page; frame = frame; w = not writable; s = false; g = false; m = true }

kept_long : (space : Space) (page frame : ℕ) (writable : Bool)
    → kept_of (page_descriptor (page_long frame writable)) false space page false ≡ kept_entry space page frame writable
kept_long space page frame true =
    let f : (4096 * frame + 25) / 4096 ≡ frame = omega arith in
    let w : (4096 * frame + 25) / 4 % 2 ≡ 0 = omega arith in
    let s : (4096 * frame + 25) / 128 % 2 ≡ 0 = omega arith in
    let g : (4096 * frame + 25) / 1024 % 2 ≡ 0 = omega arith in
    let m : (4096 * frame + 25) / 16 % 2 ≡ 1 = omega arith in
    rw (f, w, s, g, m) refl
kept_long space page frame false =
    let f : (4096 * frame + 29) / 4096 ≡ frame = omega arith in
    let w : (4096 * frame + 29) / 4 % 2 ≡ 1 = omega arith in
    let s : (4096 * frame + 29) / 128 % 2 ≡ 0 = omega arith in
    let g : (4096 * frame + 29) / 1024 % 2 ≡ 0 = omega arith in
    let m : (4096 * frame + 29) / 16 % 2 ≡ 1 = omega arith in
    rw (f, w, s, g, m) refl

-- the bits of an entry's descriptor
long_resident : (frame : ℕ) (writable : Bool) → page_long frame writable % 2 ≡ 1
long_resident frame true = omega arith
long_resident frame false = omega arith

long_used : (frame : ℕ) (writable : Bool) → page_long frame writable / 2 ^ 3 % 2 ≡ 1
long_used frame true = omega arith
long_used frame false = omega arith

long_modified : (frame : ℕ) (writable : Bool) → page_long frame writable / 2 ^ 4 % 2 ≡ 1
long_modified frame true = omega arith
long_modified frame false = omega arith

module _ (ram : List ℕ) (bytes : AreBytes ram) (q : ℕ) (room : q + 4 ≤ length ram) (space : Space) (page : ℕ) (write : Bool) where
  -- what is found by an entry's descriptor
  abbrev as_found : ℕ → Found
  as_found d = let k = kept_of (page_descriptor d) false space page false in Entry k (resident_status d k.w false)

  -- an entry's descriptor, as a search leaves it
  entry_left : (frame : ℕ) (writable : Bool) → number_at ram q 4 ≡ page_long frame writable
      → ended ram q space page false write false ≡ record { ram = ram; found = found_of space page (Some (frame, writable)) }
  entry_left frame writable e =
      let d = number_at ram q 4 in
      let resident : (page_descriptor d).resident ≡ true = ap (λ (n : ℕ). n == 1) (ap (λ (n : ℕ). n % 2) e ∙ long_resident frame writable) in
      let used : d / 2 ^ 3 % 2 ≡ 1 = ap (λ (n : ℕ). n / 2 ^ 3 % 2) e ∙ long_used frame writable in
      let modified : d / 2 ^ 4 % 2 ≡ 1 = ap (λ (n : ℕ). n / 2 ^ 4 % 2) e ∙ long_modified frame writable in
      ended_page ram q space page false write false (inside ram bytes q room) resident
      ∙ paged_left ram q space page false write false
      ∙ ap (left ram q space page false false) (marked_before d false space write used modified)
      ∙ ap (λ (ram' : List ℕ). record { ram = ram'; found = as_found d })
      (long_back ram q room bytes)
      ∙ ap (λ (d : ℕ). record { ram = ram; found = as_found d }) e
      ∙ ap (λ (k : Kept). record { ram = ram; found = Entry k (resident_status (page_long frame writable) k.w false) }) (kept_long space page frame writable)

  found_by : PageCases (number_at ram q 4)
      → ended ram q space page false write false ≡ record { ram = ram; found = found_of space page (entry_of (number_at ram q 4)) }
  found_by (inl e) =
      let resident : (page_descriptor (number_at ram q 4)).resident ≡ false = ap (λ (n : ℕ). n % 2 == 1) e in
      let indirect : (page_descriptor (number_at ram q 4)).indirect ≡ false = ap (λ (n : ℕ). n % 4 == 2) e in
      ended_invalid ram q space page false write false (inside ram bytes q room) resident indirect
      ∙ sym (ap (λ (n : ℕ). record { ram = ram; found = found_of space page (entry_of n) }) e)
  found_by (inr (inl e)) =
      let is : number_at ram q 4 ≡ page_long (number_at ram q 4 / 4096) true = omega arith in
      entry_left (number_at ram q 4 / 4096) true is
      ∙ ap (λ (o : Option (ℕ × Bool)). record { ram = ram; found = found_of space page o }) (sym (ap entry_of is ∙ entry_long (number_at ram q 4 / 4096) true))
  found_by (inr (inr e)) =
      let is : number_at ram q 4 ≡ page_long (number_at ram q 4 / 4096) false = omega arith in
      entry_left (number_at ram q 4 / 4096) false is
      ∙ ap (λ (o : Option (ℕ × Bool)). record { ram = ram; found = found_of space page o }) (sym (ap entry_of is ∙ entry_long (number_at ram q 4 / 4096) false))

  pub page_found : IsPageLong (number_at ram q 4)
      → ended ram q space page false write false ≡ record { ram = ram; found = found_of space page (entry_of (number_at ram q 4)) }
  page_found h = found_by (page_cases (number_at ram q 4) h)

-- ---- the levels of a search
abbrev last : Space → ℕ → Bool → Bool → List ℕ → ℕ → Searched
last space page write protected ram leaf =
    ended ram (entry_at leaf 256 (page_index false page)) space page (protected || (table_descriptor leaf).protected) write false

abbrev lower : Space → ℕ → Bool → List ℕ → ℕ → Searched
lower space page write ram pointer =
    and_below (descended ram (entry_at pointer 512 (pointer_index page))) (last space page write (table_descriptor pointer).protected)

searched : (ram : List ℕ) (root : ℕ) (space : Space) (page : ℕ) (write : Bool)
    → search_of ram root space page write false ≡ and_below (descended ram (entry_at root 512 (root_index page))) (lower space page write)
searched ram root space page write = refl

link_used : (area slot : ℕ) → area % 65536 ≡ 0 → link area slot / 2 ^ 3 % 2 ≡ 1
link_used area slot a = omega arith

module _ (s : Placed) (ram : List ℕ) (of space : Space) (page : ℕ) (write : Bool) (m : Laid s ram) (bytes : AreBytes ram) (h : page < 2 ^ 20) where
  abbrev root : ℕ
  root = root_of s.area of

  abbrev Finds : Searched → Type 0
  Finds found = found ≡ record { ram = ram; found = found_of space page (entries_in ram s.area of page) }

  entry : Option (ℕ × Bool)
  entry = entries_in ram s.area of page

  room : s.area + 65536 ≤ length ram
  room = m.inside

  invalid : length s.tables ≤ number_of (pages_of of page) s.tables → Finds (record { ram = ram; found = Invalid })
  invalid k = ap (λ (o : Option (ℕ × Bool)). record { ram = ram; found = found_of space page o })
      (sym (find_is s ram of page h ∙ mapped_is s ram m of page h ∙ held_no s.tables s.slot (longs ram s.area) of page k))

  first_room : entry_at root 512 (root_index page) + 4 ≤ length ram
  first_room = let e = first_at s ram m of page h in let low = root_low of (page / 2 ^ 13) (omega arith) in let r = room in omega arith

  at_last : Has s.tables (pages_of of page) → Finds (last space page write (table_descriptor (first ram root page)).protected ram (second ram root page))
  at_last has =
      let above = has_above s ram m of page h has in
      let open_first = first_open s ram m of page h above in
      let open_second = second_open s ram m of page h has in
      let q = entry_at (second ram root page) 256 (page_index false page) in
      let e = third_at s ram m of page h has in
      let inside : q + 4 ≤ length ram = let f = m.tables.inside (pages_of of page) has in let r = room in omega arith in
      ap (λ (b : Bool). ended ram q space page (b || (table_descriptor (second ram root page)).protected) write false) open_first
      ∙ ap (λ (b : Bool). ended ram q space page b write false) open_second
      ∙ page_found ram bytes q inside space page write (third_long s ram m of page h has)
      ∙ ap (λ (o : Option (ℕ × Bool)). record { ram = ram; found = found_of space page o })
      (ap entry_of (third_is s ram m of page h has)
      ∙ sym (find_is s ram of page h ∙ mapped_is s ram m of page h ∙ held_yes s.tables s.slot (longs ram s.area) of page has))

  at_lower : Has s.tables (pointers_of of page) → Finds (lower space page write ram (first ram root page))
  at_lower above =
      let p = entry_at (first ram root page) 512 (pointer_index page) in
      let e = second_at s ram m of page h above in
      let inside : p + 4 ≤ length ram = let f = m.tables.inside (pointers_of of page) above in let r = room in omega arith in
      elim (cases_lt (number_of (pages_of of page) s.tables) (length s.tables)) [
        | inl has ↦
            let used : second ram root page / 2 ^ 3 % 2 ≡ 1 =
            ap (λ (d : ℕ). d / 2 ^ 3 % 2) (second_link s ram m of page h has) ∙ link_used s.area (s.slot (pages_of of page)) m.aligned in
            ap (λ (l : Level). and_below l (last space page write (table_descriptor (first ram root page)).protected))
            (level_still ram bytes p inside (second_resident s ram m of page h has) used)
            ∙ at_last has
        | inr k ↦
            ap (λ (l : Level). and_below l (last space page write (table_descriptor (first ram root page)).protected))
            (level_stops ram bytes p inside (second_absent s ram m of page h above k))
            ∙ invalid k
      ]

  pub search_finds : Finds (search_of ram root space page write false)
  search_finds = searched ram root space page write ∙ elim (cases_lt (number_of (pointers_of of page) s.tables) (length s.tables)) [
    | inl above ↦
        let used : first ram root page / 2 ^ 3 % 2 ≡ 1 =
        ap (λ (d : ℕ). d / 2 ^ 3 % 2) (first_link s ram m of page h above) ∙ link_used s.area (s.slot (pointers_of of page)) m.aligned in
        ap (λ (l : Level). and_below l (lower space page write))
        (level_still ram bytes (entry_at root 512 (root_index page)) first_room (first_resident s ram m of page h above) used)
        ∙ at_lower above
    | inr k ↦
        let none : length s.tables ≤ number_of (pages_of of page) s.tables = elim (cases_lt (number_of (pages_of of page) s.tables) (length s.tables)) [
          | inl has ↦ let up = has_above s ram m of page h has in absurd (omega arith)
          | inr l ↦ l
        ] in
        ap (λ (l : Level). and_below l (lower space page write))
        (level_stops ram bytes (entry_at root 512 (root_index page)) first_room (first_absent s ram m of page h k))
        ∙ invalid none
  ]

pub searches_find_entries : SearchesFindEntries
searches_find_entries s ram of space page write m bytes h = search_finds (placed s) ram of space page write (laid (placed s) ram m) bytes h
