-- What a guest adopts.
use Rattle.std.proofs.Common.{◌≡◌, ◌∙◌, ℕ, zero, suc, ◌+◌, ◌<◌, ◌≤◌, Bool, List, [], ◌∷◌, length, take, drop, get_or, refl, ap, sym, subst, false, inl, inr}
use Rattle.std.proofs.Common.{arith}
use Rattle.std.specs.Prelude.{All, Option, Some, None, is_some, nat_le, ◌||◌}
use Rattle.std.specs.List.{list_any}
use Rattle.std.proofs.lemmas.Bool.{cases_Bool}
use Rattle.std.proofs.lemmas.Bool.Decides.{nat_tests}
use Rattle.std.proofs.lemmas.List.{get_or-map, length-map, length-take-le, take_more}
use Rattle.std.proofs.lemmas.List.Elements.{All-map}
use Rattle.mb_port.specs.declared.types.Space.{Space}
use Rattle.mb_port.specs.declared.types.Flush.TheVariants as dropped
use Rattle.mb_model.specs.declared.kept.Kept.{Kept}
use Rattle.mb_model.specs.declared.processor.Cpu.{Cpu}
use Rattle.mb_model.specs.declared.outcome.RunState.{RunState}
use Rattle.mb_model.specs.Keeping.{rule_k, Apart, entry_in, filled_in, flushed_in, is_of}
use Rattle.mb_model.proofs.ApartLemmas.{is_of-sym}
use Rattle.mb_srec.specs.Image.{LiesBelow}
use Rattle.mb_saved.specs.declared.line.RamLine.{RamLine}
use Rattle.mb_saved.specs.Saved.{Saved, IsLine}
use Rattle.mb_devices.specs.Devices.{DeviceState}
use Rattle.vm_disk.specs.Disk.{DiskState}
use Rattle.mb_devices.specs.Adopted.{devices_of}
use Rattle.mb_saved.specs.Lines.{content_of, contents_of, ram_by}
use Rattle.vm_saved.specs.Saved.{machine_of}
use Rattle.mb_port.specs.declared.types.Mmu.{Mmu}
use Rattle.mb_walk.specs.Memory.{Contents, overwritten, part, with_contents, chunk_from, contents_from}
use Rattle.vm_shadow.specs.Area.{Maps}
use Rattle.vm_shadow.specs.Mapped.{shadowed}
use Rattle.vm_shadow.specs.Shadows.{AreNeeded, EntryMap, Shadowed, nothing}
use Rattle.vm_shadow.specs.declared.area.TheConstants.{AREA_BYTES}
use Rattle.vm_shadow.specs.declared.table.Table.{Table}
use Rattle.vm_shadow.specs.Slots.{Has, pointers_of}
use Rattle.vm_shadow.proofs.Alone.{tables_are_of_the_area}
use Rattle.vm_shadow.proofs.Needed.{tables_are_needed}
use Rattle.vm_port.proofs.Owns.{own_nothing}
use Rattle.std.proofs.Math.Path.{fun_ext}
use Rattle.def_guests.specs.Guests.{Truthful}
use Rattle.def_guests.specs.Turns.{Tally, Turned, no_steps}
use Rattle.def_guests.specs.Seats.{Seat, on_board, own, shadow_on, turned_on, IsSeated}
use Rattle.vm_saved.specs.Begins.{beginning}
use Rattle.law_held.proofs.Flushes.{nothing_truthful}
use Rattle.vm_guest.specs.Memory.{OnlyBetween}
use Rattle.vm_guest.proofs.Loads.{length-zeros, loads_all, only_both, only_over, part_zeros, zeros}
use Rattle.vm_guest.proofs.Prepared.{cleared_count}

-- ---- lines

-- a line at a place lies in memory, since all do
pub line_lies : (base size : ℕ) (lines : List RamLine) (i : ℕ) (d : RamLine)
    → All (LiesBelow size) (contents_from base (contents_of lines)) → i < length lines
    → LiesBelow size (chunk_from base (content_of (get_or lines i d)))
line_lies base size lines i d lie within =
    let content = content_of d in
    let here : LiesBelow size (get_or (contents_from base (contents_of lines)) i (chunk_from base content)) =
    lie i (chunk_from base content) (rw (length-map, length-map) within) in
    let same : get_or (contents_from base (contents_of lines)) i (chunk_from base content) ≡ chunk_from base (content_of (get_or lines i d)) =
    get_or-map (chunk_from base) (contents_of lines) i content (chunk_from base content) (rw length-map within)
    ∙ ap (chunk_from base) (get_or-map content_of lines i d content within) in
    subst (λ (c : ℕ × List ℕ). LiesBelow size c) same here

-- ---- what is kept

pub none_kept : (kept : List Kept) → flushed_in dropped.All kept ≡ []
none_kept [] = refl
none_kept (k ∷ kept) = none_kept kept

not_found : (space : Space) (page : ℕ) (kept : List Kept) → entry_in space page kept ≡ None → (j : ℕ) (d : Kept) → j < length kept
    → is_of space page (get_or kept j d) ≡ false
not_found space page [] none j d less = absurd (omega arith)
not_found space page (k ∷ kept) none zero d less = elim (cases_Bool (is_of space page k)) [
  | inl holds ↦ absurd (let e : Some k ≡ None = rw holds at none in cc)
  | inr fails ↦ fails
]
not_found space page (k ∷ kept) none (suc j) d less = elim (cases_Bool (is_of space page k)) [
  | inl holds ↦ absurd (let e : Some k ≡ None = rw holds at none in cc)
  | inr fails ↦ not_found space page kept (rw fails at none) j d (omega arith)
]

-- no entry is of a page that one before it is of
none_before : (kept : List Kept) → Apart kept → (i : ℕ) (d : Kept) → i < length kept
    → list_any (is_of (get_or kept i d).space (get_or kept i d).page) (take i kept) ≡ false
none_before [] apart i d less = absurd (omega arith)
none_before (x ∷ kept) apart zero d less = refl
none_before (x ∷ kept) apart (suc j) d less =
    let k = get_or kept j d in
    let within : j < length kept = omega arith in
    ap (λ (b : Bool). b || list_any (is_of k.space k.page) (take j kept))
    (is_of-sym k x ∙ not_found x.space x.page kept apart.0 j d within)
    ∙ none_before kept apart.1 j d within

has_room : (n : ℕ) → n < rule_k.capacity → nat_le rule_k.capacity n ≡ false
has_room n h = grind (arith, nat_tests)

-- so each fill puts one more behind them
pub fill_next : (kept : List Kept) → Apart kept → length kept ≤ rule_k.capacity → (i : ℕ) (d : Kept) → i < length kept
    → filled_in rule_k.capacity (get_or kept i d) (take i kept) ≡ take (i + 1) kept
fill_next kept apart few i d less =
    let before = take i kept in
    let k = get_or kept i d in
    let none : list_any (is_of k.space k.page) before ≡ false = none_before kept apart i d less in
    let count : length before ≡ i = length-take-le i kept (omega arith) in
    let room : nat_le rule_k.capacity (length before) ≡ false = has_room (length before) (omega arith) in
    rw (none, room) (sym (take_more kept i d less))

-- ---- RAM

pub lines_lie : (size : ℕ) (lines : List RamLine) → All (IsLine size) lines → All (LiesBelow size) (contents_of lines)
lines_lie size lines all =
    All-map (LiesBelow size) content_of lines
    (λ k d within some. let line = all k d within in let inside = line.inside in let count = line.count in omega arith)

-- the guest's RAM, and all around it, once zeros and lines are written
pub record LinesLaid (base size : ℕ) (contents : Contents) (ram after : List ℕ) : Type 0 where
  pub within : OnlyBetween base (base + size) ram after
  pub ram_is : part after base size ≡ with_contents (zeros size) contents

pub lines_laid : (base size : ℕ) (contents : Contents) (ram after : List ℕ) → base + size ≤ length ram → All (LiesBelow size) contents
    → after ≡ with_contents (overwritten ram base (zeros size)) (contents_from base contents) → LinesLaid base size contents ram after
lines_laid base size contents ram after room lie is =
    let cleared = overwritten ram base (zeros size) in
    let count_zeros : length (zeros size) ≡ size = length-zeros size in
    let zero = only_over ram (zeros size) base (base + size) base (omega arith) (omega (arith, count_zeros)) (omega arith) in
    let same : length cleared ≡ length ram = cleared_count ram base size room in
    let loads = loads_all cleared base size contents (omega (arith, same)) lie in
    let full = with_contents cleared (contents_from base contents) in
    record {
      within = subst (OnlyBetween base (base + size) ram) (sym is) (only_both base (base + size) ram cleared full zero loads.0);
      ram_is =
          ap (λ (m : List ℕ). part m base size) is ∙ loads.1
          ∙ ap (λ (m : List ℕ). with_contents m contents) (part_zeros ram base size room);
    }

-- ---- the guest

-- a guest in whose place another machine stands
abbrev pub adopted_seat : Seat → Cpu → Mmu → DeviceState → List Kept → (steps : ℕ) → RunState → Tally → Seat
adopted_seat g cpu mmu devices kept steps state tally =
    record g { cpu = cpu; mmu = mmu; devices = devices; kept = kept; steps = steps; state = state; tally = tally }

-- nothing of its tables has changed
pub tables_stay : (g : Seat) (x y : List ℕ) → IsSeated g x → OnlyBetween g.base (g.base + g.size) x y
    → Maps g.slots y × (shadowed g.slots y ≡ shadowed g.slots x)
tables_stay g x y s w =
    let area = s.area in
    let bytes : take AREA_BYTES (drop g.slots.area y) ≡ take AREA_BYTES (drop g.slots.area x) =
    ap (λ (at : ℕ). take AREA_BYTES (drop at y)) area ∙ ap (take AREA_BYTES) w.above
    ∙ ap (λ (at : ℕ). take AREA_BYTES (drop at x)) (sym area) in
    tables_are_of_the_area g.slots x y s.maps (let inside = s.inside in let count = w.count in omega arith) bytes

pub adopted_seated : (g : Seat) (x y : List ℕ) (cpu : Cpu) (mmu : Mmu) (devices : DeviceState) (kept : List Kept) (steps : ℕ) (state : RunState) (tally : Tally)
    → IsSeated g x → shadow_on g x ≡ nothing → OnlyBetween g.base (g.base + g.size) x y
    → IsSeated (adopted_seat g cpu mmu devices kept steps state tally) y
adopted_seated g x y cpu mmu devices kept steps state tally s none w =
    let stay = tables_stay g x y s w in
    record {
      aligned = s.aligned;
      whole = s.whole;
      behind = s.behind;
      inside = let inside = s.inside in let count = w.count in omega arith;
      area = s.area;
      maps = stay.0;
      tables = stay.1 ∙ s.tables ∙ ap (λ (z : Shadowed). on_board g.base (own g.base z)) (sym stay.1);
      truthful =
          subst (λ (z : Shadowed). Truthful g.size (record {
            world = record { ram = part y g.base g.size; mmu = mmu; devices = devices; kept = kept ∷ [] };
            shadow = z;
          }))
          (sym (ap (own g.base) stay.1 ∙ none))
          (nothing_truthful g.size (record { ram = part y g.base g.size; mmu = mmu; devices = devices; kept = kept ∷ [] }));
    }

-- where no table stands nothing is in the shadow
none_there : (tables : List Table) → tables ≡ [] → (table : Table) → Has tables table → ⊥
none_there tables none table has = let count : length tables ≡ 0 = ap (λ (t : List Table). length t) none in omega arith

entry_gone : (shadow : Shadowed) → AreNeeded shadow → shadow.tables ≡ [] → (space : Space) (page : ℕ) → shadow.entries space page ≡ None
entry_gone shadow needs none space page = elim (cases_Bool (is_some (shadow.entries space page))) [
  | inl some ↦ absurd (none_there shadow.tables none (pointers_of space page)
      (needs.needed (pointers_of space page) (record { space = space; page = page; entry = some; two = inl refl })))
  | inr fails ↦ none_of (shadow.entries space page) fails
]
  where
    none_of : (o : Option (ℕ × Bool)) → is_some o ≡ false → o ≡ None
    none_of None h = refl
    none_of (Some e) h = absurd (cc h)

pub empty_on : (g : Seat) (x : List ℕ) → IsSeated g x → g.slots.tables ≡ [] → shadow_on g x ≡ nothing
empty_on g x s none =
    let shadow = shadowed g.slots x in
    let needs = tables_are_needed g.slots x s.maps in
    ap (λ (entries : EntryMap). own g.base (record { entries = entries; tables = g.slots.tables }))
    (fun_ext (λ space. fun_ext (λ page. entry_gone shadow needs none space page)))
    ∙ ap (λ (tables : List Table). own g.base (record { entries = λ space page. None; tables = tables })) none
    ∙ own_nothing g.base

abbrev with_parts : Cpu → List ℕ → Mmu → DeviceState → List Kept → (steps : ℕ) → RunState → Shadowed → Tally → Turned
with_parts cpu ram mmu devices kept steps state shadow tally = record {
  guest = record {
    machine = record {
      cpu = cpu;
      world = record { ram = ram; mmu = mmu; devices = devices; kept = kept ∷ [] };
      steps = steps;
      state = state;
    };
    shadow = shadow;
  };
  tally = tally;
  marks = [];
  exceptions = 0;
}

-- the parts are the saved ones
pub record AreSaved (disk : Option DiskState) (saved : Saved)
    (cpu : Cpu) (mmu : Mmu) (devices : DeviceState) (kept : List Kept) (steps : ℕ) (state : RunState) (tally : Tally) : Type 0 where
  pub cpu_is : cpu ≡ saved.cpu
  pub mmu_is : mmu ≡ saved.mmu
  pub devices_are : devices ≡ devices_of disk saved
  pub kept_is : kept ≡ saved.kept
  pub steps_are : steps ≡ saved.steps
  pub state_is : state ≡ saved.state
  pub uncounted : tally ≡ no_steps

pub adopted_begins : (g : Seat) (x y : List ℕ) (disk : Option DiskState) (saved : Saved)
    (cpu : Cpu) (mmu : Mmu) (devices : DeviceState) (kept : List Kept) (steps : ℕ) (state : RunState) (tally : Tally)
    → AreSaved disk saved cpu mmu devices kept steps state tally → saved.ram ≡ g.size
    → IsSeated g x → shadow_on g x ≡ nothing → LinesLaid g.base g.size (contents_of saved.lines) x y
    → turned_on (adopted_seat g cpu mmu devices kept steps state tally) y [] 0 ≡ beginning (machine_of disk saved)
adopted_begins g x y disk saved cpu mmu devices kept steps state tally are sized s none laid =
    let stay = tables_stay g x y s laid.within in
    let ram : part y g.base g.size ≡ ram_by saved.ram saved.lines =
    laid.ram_is ∙ ap (λ (n : ℕ). with_contents (zeros n) (contents_of saved.lines)) (sym sized) in
    let tables = own g.base (shadowed g.slots y) in
    let empty : tables ≡ nothing = ap (own g.base) stay.1 ∙ none in
    let to = ram_by saved.ram saved.lines in
    let d = devices_of disk saved in
    ap (λ (c : Cpu). with_parts c (part y g.base g.size) mmu devices kept steps state tables tally) are.cpu_is
    ∙ ap (λ (r : List ℕ). with_parts saved.cpu r mmu devices kept steps state tables tally) ram
    ∙ ap (λ (m : Mmu). with_parts saved.cpu to m devices kept steps state tables tally) are.mmu_is
    ∙ ap (λ (e : DeviceState). with_parts saved.cpu to saved.mmu e kept steps state tables tally) are.devices_are
    ∙ ap (λ (k : List Kept). with_parts saved.cpu to saved.mmu d k steps state tables tally) are.kept_is
    ∙ ap (λ (n : ℕ). with_parts saved.cpu to saved.mmu d saved.kept n state tables tally) are.steps_are
    ∙ ap (λ (q : RunState). with_parts saved.cpu to saved.mmu d saved.kept saved.steps q tables tally) are.state_is
    ∙ ap (λ (z : Shadowed). with_parts saved.cpu to saved.mmu d saved.kept saved.steps saved.state z tally) empty
    ∙ ap (λ (t : Tally). with_parts saved.cpu to saved.mmu d saved.kept saved.steps saved.state nothing t) are.uncounted
