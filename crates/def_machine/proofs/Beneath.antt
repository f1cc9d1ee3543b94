-- What stands beneath a translation: what is read and written leaves the registers, what is kept and the size of memory.
use Rattle.std.proofs.Common.{◌≡◌, ℕ, ◌+◌, ◌*◌, ◌≤◌, Bool, true, false, List, [], ◌∷◌, length, refl, sym, ◌∙◌, subst, arith, inl, inr}
use Rattle.std.proofs.Common.{length-take}
use Rattle.std.specs.Prelude.{Option, Some, None, unwrap_or, Result, Ok, Err, if◌then◌else◌, take}
use Rattle.std.proofs.lemmas.Bool.{cases_Bool}
use Rattle.std.proofs.lemmas.Bool.Decides.{nat_tests}
use Rattle.mb_port.specs.Routine.{Fetch, Read, Write, ReadLine, WriteLine, Probe, Get, Put, ReadMmu, SetMmu, FlushKept, Test, ResetDevices}
use Rattle.mb_port.specs.declared.types.Space.{Space}
use Rattle.mb_port.specs.declared.types.Piece.{Piece}
use Rattle.mb_port.specs.declared.types.Place.{Place}
use Rattle.mb_port.specs.declared.types.Fault.{Fault}
use Rattle.mb_port.specs.declared.types.MmuReg.{MmuReg}
use Rattle.mb_devices.specs.Devices.{DeviceState}
use Rattle.mb_devices.specs.Registers.{write_of}
use Rattle.mb_model.specs.Pages.{page_of, has_big_pages}
use Rattle.mb_model.specs.Keeping.{Rule}
use Rattle.mb_walk.specs.Descriptors.{table_descriptor, page_descriptor, with_used, indirection}
use Rattle.mb_walk.specs.Memory.{number_at, with_number}
use Rattle.mb_walk.specs.declared.found.Found.{Found}
use Rattle.mb_walk.specs.declared.found.Found.TheVariants.{Entry, Invalid, BusError}
use Rattle.mb_walk.specs.Search.{Searched, Level, below, and_below, descended, ended, is_inside, paged, pointed, search_of}
use Rattle.mb_walk.proofs.MemoryLemmas.{length-with_number}
use Rattle.mb_walk.proofs.Again.{inside_so}
use Rattle.def_machine.specs.declared.reference.Reference.{Reference}
use Rattle.def_machine.specs.declared.reference.Settled.{Settled}
use Rattle.def_machine.specs.declared.reference.Settled.TheVariants.{To, Refused, Unsettled}
use Rattle.def_machine.specs.World.{World}
use Rattle.def_machine.specs.Places.{Stand, memory, register, nowhere, in_ram, taken, taken_at, stored, checked, with_longs, taken_line, stored_line}
use Rattle.def_machine.specs.Access.{matched, root_of, search_for, searched, settled, translated, by_settled, by_found}
use Rattle.def_machine.specs.Bus.{bus_of, fetching_of, reading_of, writing_of, fault_of, place_at, Take, Store, read_at, read_by, wrote, written_at, written_by}
use Rattle.def_machine.specs.Bus.{after_set_mmu, tested_by}
use Rattle.def_machine.specs.Laws.{IsBeneath, CallsStandBeneath, PlacesStandBeneath, CallsLeaveTheSize, RunsLeaveTheSize}
use Rattle.def_machine.proofs.BusLemmas.{stored_memory, stored_register, wrote_devices}
use Rattle.def_machine.proofs.RunsLeave.{runs_leave}

record Beneath (w u : World) : Type 0 where
  mmu : u.mmu ≡ w.mmu
  kept : u.kept ≡ w.kept
  size : length u.ram ≡ length w.ram

told : {w u : World} → Beneath w u → IsBeneath w u
told b = record { mmu = b.mmu; kept = b.kept }

in_ram_is : (size at len : ℕ) → in_ram size at len ≡ true → at + len ≤ size
in_ram_is size at len h = grind (arith, nat_tests)

same_world : (w : World) → Beneath w w
same_world w = record { mmu = refl; kept = refl; size = refl }

IfBeneath : World → Option World → Type 0
IfBeneath w (Some u) = Beneath w u
IfBeneath w None = Unit {0}

-- ---- places

taken_at_beneath : (s : Stand) (place : Place) (w : World) → Beneath w (taken_at s place w).1
taken_at_beneath memory place w = same_world w
taken_at_beneath (register r) place w = record { mmu = refl; kept = refl; size = refl }
taken_at_beneath nowhere place w = same_world w

taken_beneath : (place : Place) (w : World) → Beneath w (taken place w).1
taken_beneath place w = taken_at_beneath _ place w

line_beneath : (place : Place) (w : World) → Beneath w (taken_line place w).1
line_beneath place w = same_world w

number_beneath : (w : World) (at len value : ℕ) → at + len ≤ length w.ram → Beneath w (record w { ram = with_number w.ram at len value })
number_beneath w at len value h = record { mmu = refl; kept = refl; size = length-with_number w.ram at len value h }

devices_beneath : (w : World) (o : Option (Unit {0}) × DeviceState) → IfBeneath w (wrote_devices w o)
unfolding IfBeneath
devices_beneath w (Some done, d) = record { mmu = refl; kept = refl; size = refl }
devices_beneath w (None, d) = tt

stored_beneath : (place : Place) (value : ℕ) (w : World) → IfBeneath w (stored place value w)
unfolding IfBeneath
stored_beneath place value w = elim (cases_Bool (in_ram (length w.ram) place.at place.len)) [
  | inl h ↦ subst (IfBeneath w) (sym (stored_memory w place value h)) (number_beneath w place.at place.len value (in_ram_is
      (length w.ram) place.at place.len h))
  | inr h ↦ subst (IfBeneath w) (sym (stored_register w place value h)) (devices_beneath w (write_of place value w.devices))
]

-- ---- a line

longs_count : (ram : List ℕ) (at : ℕ) (longs : List ℕ) → at + 4 * length longs ≤ length ram → length (with_longs ram at longs) ≡ length ram
longs_count ram at [] h = refl
longs_count ram at (v ∷ vs) h =
    let one : length (with_number ram at 4 v) ≡ length ram = length-with_number ram at 4 v (omega arith) in
    longs_count (with_number ram at 4 v) (at + 4) vs (omega arith) ∙ one

stored_line_beneath : (at : ℕ) (line : List ℕ) (w : World) → IfBeneath w (stored_line (place_at at 16) line w)
unfolding IfBeneath
stored_line_beneath at line w = elim (cases_Bool (in_ram (length w.ram) at 16)) [
  | inl h ↦
      let k = in_ram_is (length w.ram) at 16 h in
      let fits : at + 4 * length (take 4 line) ≤ length w.ram = omega (arith, length-take 4 line) in
      let b : Beneath w (record w { ram = with_longs w.ram at (take 4 line) }) =
      record { mmu = refl; kept = refl; size = longs_count w.ram at (take 4 line) fits } in
      rw h b
  | inr h ↦ rw h tt
]

-- ---- reads and writes

Keeps : {A : Type 0} → Take A → Type 0
Keeps take = (place : Place) (w : World) → Beneath w (take place w).1

read_at_beneath : {A : Type 0} (r : Reference) (len : ℕ) (take : Take A) (o : Option ℕ) (w : World) → Keeps take → Beneath w (read_at r len take o w).1
unfolding Keeps
read_at_beneath r len take (Some at) w keeps = keeps (place_at at len) w
read_at_beneath r len take None w keeps = same_world w

wrote_beneath : (w : World) (o : Option World) (fault : Fault) → IfBeneath w o → Beneath w (wrote w o fault).1
unfolding IfBeneath
wrote_beneath w (Some u) fault b = b
wrote_beneath w None fault b = same_world w

written_at_beneath : (r : Reference) (len : ℕ) (store : Store) (o : Option ℕ) (w : World) → ((at : ℕ) (w : World) → IfBeneath w (store (place_at at len) w))
    → Beneath w (written_at r len store o w).1
written_at_beneath r len store (Some at) w keeps = wrote_beneath w (store (place_at at len) w) (fault_of r len false) (keeps at w)
written_at_beneath r len store None w keeps = same_world w

read_beneath : {A : Type 0} (rule : Rule) (r : Reference) (len : ℕ) (take : Take A) (w : World) → Keeps take
    → Beneath (translated rule r w).1 (read_by rule r len take w).1
read_beneath rule r len take w keeps = read_at_beneath r len take (translated rule r w).0 (translated rule r w).1 keeps

written_beneath : (rule : Rule) (r : Reference) (len : ℕ) (store : Store) (w : World) → ((at : ℕ) (w : World) → IfBeneath w (store (place_at at len) w))
    → Beneath (translated rule r w).1 (written_by rule r len store w).1
written_beneath rule r len store w keeps = written_at_beneath r len store (translated rule r w).0 (translated rule r w).1 keeps

put_beneath : (o : Option World) (w : World) → IfBeneath w o → Beneath w (unwrap_or o w)
unfolding IfBeneath
put_beneath (Some u) w b = b
put_beneath None w b = same_world w

fetch_beneath : (rule : Rule) (space : Space) (at : ℕ) (w : World)
    → Beneath (translated rule (fetching_of space at) w).1 (bus_of rule (Fetch space at) w).1
unfolding Keeps
fetch_beneath rule space at w = read_beneath rule (fetching_of space at) 2 taken w taken_beneath

piece_beneath : (rule : Rule) (space : Space) (p : Piece) (w : World)
    → Beneath (translated rule (reading_of space p.at) w).1 (bus_of rule (Read space p) w).1
unfolding Keeps
piece_beneath rule space p w = read_beneath rule (reading_of space p.at) p.len taken w taken_beneath

write_beneath : (rule : Rule) (space : Space) (p : Piece) (value : ℕ) (w : World)
    → Beneath (translated rule (writing_of space p.at) w).1 (bus_of rule (Write space p value) w).1
write_beneath rule space p value w =
    written_beneath rule (writing_of space p.at) p.len (λ place. stored place value) w (λ at u. stored_beneath (place_at at p.len) value u)

line_read_beneath : (rule : Rule) (space : Space) (at : ℕ) (w : World)
    → Beneath (translated rule (reading_of space at) w).1 (bus_of rule (ReadLine space at) w).1
unfolding Keeps
line_read_beneath rule space at w = read_beneath rule (reading_of space at) 16 taken_line w line_beneath

line_write_beneath : (rule : Rule) (space : Space) (at : ℕ) (line : List ℕ) (w : World)
    → Beneath (translated rule (writing_of space at) w).1 (bus_of rule (WriteLine space at line) w).1
line_write_beneath rule space at line w =
    written_beneath rule (writing_of space at) 16 (λ place. stored_line place line) w (λ at u. stored_line_beneath at line u)

probe_beneath : (rule : Rule) (space : Space) (p : Piece) (w : World)
    → Beneath (translated rule (writing_of space p.at) w).1 (bus_of rule (Probe space p) w).1
unfolding Keeps
probe_beneath rule space p w = read_beneath rule (writing_of space p.at) p.len checked w (λ place u. same_world u)

pub calls_stand_beneath : CallsStandBeneath
calls_stand_beneath rule (Fetch space at) w = told (fetch_beneath rule space at w)
calls_stand_beneath rule (Read space p) w = told (piece_beneath rule space p w)
calls_stand_beneath rule (Write space p value) w = told (write_beneath rule space p value w)
calls_stand_beneath rule (ReadLine space at) w = told (line_read_beneath rule space at w)
calls_stand_beneath rule (WriteLine space at line) w = told (line_write_beneath rule space at line w)
calls_stand_beneath rule (Probe space p) w = told (probe_beneath rule space p w)
calls_stand_beneath rule other w = tt

pub places_stand_beneath : PlacesStandBeneath
places_stand_beneath rule place value w =
    (told (taken_beneath place w), told (put_beneath (stored place value w) w (stored_beneath place value w)))

-- ---- the size of memory that a search leaves

record Sized (n : ℕ) (s : Searched) : Type 0 where
  size : length s.ram ≡ n

record SizedLevel (n : ℕ) (s : Level) : Type 0 where
  size : length s.ram ≡ n

-- either of two, by a test
either_sized : (n : ℕ) (b : Bool) (s t : Searched) → (b ≡ true → Sized n s) → Sized n t → Sized n (if b then s else t)
either_sized n true s t h g = h refl
either_sized n false s t h g = g

either_level : (n : ℕ) (b : Bool) (s t : Level) → (b ≡ true → SizedLevel n s) → SizedLevel n t → SizedLevel n (if b then s else t)
either_level n true s t h g = h refl
either_level n false s t h g = g

descended_size : (ram : List ℕ) (place : ℕ) → SizedLevel (length ram) (descended ram place)
unfolding descended
descended_size ram place =
    let n = length ram in
    let long = number_at ram place 4 in
    let used : Level = record { ram = with_number ram place 4 (with_used long); descriptor = Ok long } in
    let invalid : Level = record { ram = ram; descriptor = Err Invalid } in
    let resident = (table_descriptor long).resident in
    either_level n (is_inside ram place) (if resident then used else invalid) (record { ram = ram; descriptor = Err BusError })
    (λ there. either_level n resident used invalid (λ r. record { size = length-with_number ram place 4 (with_used long) (inside_so ram place there) })
    (record { size = refl }))
    (record { size = refl })

module _ (ram : List ℕ) (place : ℕ) (space : Space) (page : ℕ) (protected write big : Bool) where
  abbrev page_there : Searched
  page_there = paged ram place space page protected write big

  abbrev invalid_there : Searched
  invalid_there = record { ram = ram; found = Invalid }

  abbrev error_there : Searched
  error_there = record { ram = ram; found = BusError }

  abbrev resident_there : Bool
  resident_there = (page_descriptor (number_at ram place 4)).resident

  paged_size : is_inside ram place ≡ true → Sized (length ram) page_there
  paged_size there = record { size = length-with_number ram place 4 _ (inside_so ram place there) }

  pointed_size : Sized (length ram) (pointed ram place space page protected write big)
  unfolding pointed
  pointed_size =
      either_sized (length ram) (is_inside ram place) (if resident_there then page_there else invalid_there) error_there
      (λ there. either_sized (length ram) resident_there page_there invalid_there (λ r. paged_size there) (record { size = refl }))
      (record { size = refl })

ended_size : (ram : List ℕ) (place : ℕ) (space : Space) (page : ℕ) (protected write big : Bool)
    → Sized (length ram) (ended ram place space page protected write big)
unfolding ended
ended_size ram place space page protected write big =
    let n = length ram in
    let long = number_at ram place 4 in
    let page_here = page_there ram place space page protected write big in
    let invalid : Searched = record { ram = ram; found = Invalid } in
    let next = pointed ram (indirection long) space page protected write big in
    let indirect = (page_descriptor long).indirect in
    let resident = (page_descriptor long).resident in
    either_sized n (is_inside ram place) (if resident then page_here else if indirect then next else invalid) (record { ram = ram; found = BusError })
    (λ there. either_sized n resident page_here (if indirect then next else invalid)
    (λ r. paged_size ram place space page protected write big there)
    (either_sized n indirect next invalid (λ i. pointed_size ram (indirection long) space page protected write big) (record { size = refl })))
    (record { size = refl })

below_size : (n : ℕ) (level : Level) (next : List ℕ → ℕ → Searched) → SizedLevel n level
    → ((ram : List ℕ) (descriptor : ℕ) → length ram ≡ n → Sized n (next ram descriptor)) → Sized n (and_below level next)
below_size n level next h rest = by level.descriptor
  where
    by : (d : Result ℕ Found) → Sized n (below level.ram d next)
    by (Ok descriptor) = rest level.ram descriptor h.size
    by (Err found) = record { size = h.size }

sized_level : (n : ℕ) (ram : List ℕ) (place : ℕ) → length ram ≡ n → SizedLevel n (descended ram place)
sized_level n ram place h = record { size = (descended_size ram place).size ∙ h }

sized_end : (n : ℕ) (ram : List ℕ) (place : ℕ) (space : Space) (page : ℕ) (protected write big : Bool) → length ram ≡ n
    → Sized n (ended ram place space page protected write big)
sized_end n ram place space page protected write big h = record { size = (ended_size ram place space page protected write big).size ∙ h }

sized_search : (n : ℕ) (ram : List ℕ) (root : ℕ) (space : Space) (page : ℕ) (write big : Bool) → length ram ≡ n
    → Sized n (search_of ram root space page write big)
sized_search n ram root space page write big h =
    below_size n _ _ (sized_level n ram _ h) (λ ram pointer h.
    below_size n _ _ (sized_level n ram _ h) (λ ram leaf h. sized_end n ram _ space page _ write big h))

search_size : (ram : List ℕ) (root : ℕ) (space : Space) (page : ℕ) (write big : Bool) → length (search_of ram root space page write big).ram ≡ length ram
search_size ram root space page write big = (sized_search (length ram) ram root space page write big refl).size

-- ---- and a call

found_size : (rule : Rule) (w : World) (r : Reference) (f : Found) → length (by_found rule w r f).1.ram ≡ length w.ram
found_size rule w r (Entry k mmusr) = refl
found_size rule w r Invalid = refl
found_size rule w r BusError = refl

searched_size : (rule : Rule) (w : World) (r : Reference) → length (searched rule w r).1.ram ≡ length w.ram
searched_size rule w r =
    let s = search_for w r in
    found_size rule (record w { ram = s.ram }) r s.found ∙ search_size w.ram (root_of w.mmu r.space) r.space (page_of r.at) r.write (has_big_pages w.mmu)

settled_size : (rule : Rule) (w : World) (r : Reference) (s : Settled) → length (by_settled rule w r s).1.ram ≡ length w.ram
settled_size rule w r (To at) = refl
settled_size rule w r Refused = refl
settled_size rule w r Unsettled = searched_size rule w r

translated_size : (rule : Rule) (r : Reference) (w : World) → length (translated rule r w).1.ram ≡ length w.ram
unfolding translated
translated_size rule r w = settled_size rule w r (settled rule w.mmu w.kept r)

tested_size : (w : World) (space : Space) (page : ℕ) (write : Bool) (o : Option Bool) → length (tested_by w space page write o).1.ram ≡ length w.ram
tested_size w space page write (Some protected) = refl
tested_size w space page write None = search_size w.ram (root_of w.mmu space) space page write (has_big_pages w.mmu)

register_size : (rule : Rule) (which : MmuReg) (value : ℕ) (w : World) → length (after_set_mmu rule which value w).ram ≡ length w.ram
register_size rule which value w = refl

pub calls_leave_the_size : CallsLeaveTheSize
calls_leave_the_size rule (Fetch space at) w = (fetch_beneath rule space at w).size ∙ translated_size rule (fetching_of space at) w
calls_leave_the_size rule (Read space p) w = (piece_beneath rule space p w).size ∙ translated_size rule (reading_of space p.at) w
calls_leave_the_size rule (Write space p value) w = (write_beneath rule space p value w).size ∙ translated_size rule (writing_of space p.at) w
calls_leave_the_size rule (ReadLine space at) w = (line_read_beneath rule space at w).size ∙ translated_size rule (reading_of space at) w
calls_leave_the_size rule (WriteLine space at line) w = (line_write_beneath rule space at line w).size ∙ translated_size rule (writing_of space at) w
calls_leave_the_size rule (Probe space p) w = (probe_beneath rule space p w).size ∙ translated_size rule (writing_of space p.at) w
calls_leave_the_size rule (Get place) w = (taken_beneath place w).size
calls_leave_the_size rule (Put place value) w = (put_beneath (stored place value w) w (stored_beneath place value w)).size
calls_leave_the_size rule ReadMmu w = refl
calls_leave_the_size rule (SetMmu which value) w = register_size rule which value w
calls_leave_the_size rule (FlushKept what) w = refl
calls_leave_the_size rule (Test space at write) w = tested_size w space (page_of at) write (matched false w.mmu space (page_of at))
calls_leave_the_size rule ResetDevices w = refl

pub runs_leave_the_size : RunsLeaveTheSize
runs_leave_the_size rule =
    runs_leave (λ (w : World). length w.ram) rule (calls_leave_the_size rule) (λ script m. refl)
