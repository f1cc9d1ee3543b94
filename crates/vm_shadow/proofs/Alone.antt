-- The tables are of the area's bytes alone.
use Rattle.std.proofs.Common.{◌≡◌, ◌∙◌, ℕ, ◌+◌, ◌*◌, ◌/◌, ◌%◌, ◌^◌, ◌<◌, List, length, take, drop, get_or, refl, ap, sym, subst, arith, inl, inr}
use Rattle.std.proofs.lemmas.Bool.{cases_lt}
use Rattle.std.proofs.lemmas.List.{get_or-take, get_or-drop}
use Rattle.mb_port.specs.declared.types.Space.{Space}
use Rattle.mb_walk.proofs.LongLemmas.{same_from}
use Rattle.vm_shadow.specs.declared.table.Table.{Table}
use Rattle.vm_shadow.specs.declared.table.Table.TheVariants.{Pointers, Pages}
use Rattle.vm_shadow.specs.Slots.{placed, number_of, pages_of}
use Rattle.vm_shadow.specs.Shadows.{EntryMap}
use Rattle.vm_shadow.specs.Area.{longs, in_root, in_slot, entry_of, IsPageLong, AreTables, Maps}
use Rattle.vm_shadow.specs.Laws.{TablesAreOfTheArea, TablesStand}
use Rattle.vm_shadow.proofs.Changes.{root_low, held, held_yes, held_no}
use Rattle.vm_shadow.proofs.Walks.{both_stand}
use Rattle.vm_shadow.proofs.Uses.{used_same}
use Rattle.vm_shadow.proofs.Held.{entries_stay}
use Rattle.vm_shadow.proofs.Maps.{laid, used_stays}

byte_in : (ram : List ℕ) (area size k : ℕ) → k < size → get_or (take size (drop area ram)) k 0 ≡ get_or ram (area + k) 0
byte_in ram area size k h = get_or-take size (drop area ram) k 0 h ∙ get_or-drop area ram k 0

long_in : (ram after : List ℕ) (area index : ℕ) → take 65536 (drop area after) ≡ take 65536 (drop area ram) → index < 16384
    → longs after area index ≡ longs ram area index
long_in ram after area index e h = same_from after ram (area + 4 * index) 0 4 (λ j l.
    let at : area + 4 * index + j ≡ area + (4 * index + j) = omega arith in
    ap (λ (n : ℕ). get_or after n 0) at
    ∙ sym (byte_in after area 65536 (4 * index + j) (omega arith))
    ∙ ap (λ (bytes : List ℕ). get_or bytes (4 * index + j) 0) e
    ∙ byte_in ram area 65536 (4 * index + j) (omega arith)
    ∙ ap (λ (n : ℕ). get_or ram n 0) (sym at))

module _ (area : ℕ) (tables : List Table) (slot : Table → ℕ) (t u : ℕ → ℕ) (w : AreTables area tables slot t)
    (same : (at : ℕ) → at < 16384 → u at ≡ t at) where
  in_slots : (number index : ℕ) → number < 126 → index < 128 → u (in_slot number index) ≡ t (in_slot number index)
  in_slots number index h k = same (in_slot number index) (omega arith)

  pub tables_stay : AreTables area tables slot u
  tables_stay = record {
    once = w.once;
    named = w.named;
    inside = w.inside;
    apart = w.apart;
    roots = λ space index h. let low = root_low space index h in same (in_root space index) (omega arith) ∙ w.roots space index h;
    pointers = λ space index h has.
        in_slots (slot (Pointers space (index / 128))) (index % 128) (w.inside (Pointers space (index / 128)) has) (omega arith)
        ∙ w.pointers space index h has;
    pages = λ space index at h k has. subst (λ (n : ℕ). IsPageLong n)
        (sym (in_slots (slot (Pages space index)) at (w.inside (Pages space index) has) (omega arith))) (w.pages space index at h k has);
    half = λ space index at h k l has. in_slots (slot (Pages space index)) at (w.inside (Pages space index) has) l ∙ w.half space index at h k l has;
    reached = w.reached;
    free = λ number index h f l. in_slots number index h l ∙ w.free number index h f l;
  }

  pub held_stays : (space : Space) (page : ℕ) → held tables slot u space page ≡ held tables slot t space page
  held_stays space page = elim (cases_lt (number_of (pages_of space page) tables) (length tables)) [
    | inl has ↦
        held_yes tables slot u space page has
        ∙ ap entry_of (in_slots (slot (pages_of space page)) (page % 2 ^ 6) (w.inside (pages_of space page) has) (omega arith))
        ∙ sym (held_yes tables slot t space page has)
    | inr k ↦ held_no tables slot u space page k ∙ sym (held_no tables slot t space page k)
  ]

pub tables_are_of_the_area : TablesAreOfTheArea
tables_are_of_the_area s ram after m room e =
    let p = placed s in
    let t = longs ram s.area in
    let u = longs after s.area in
    let same = λ (at : ℕ) (h : at < 16384). long_in ram after s.area at e h in
    let stay : (n i : ℕ) → n < 126 → i < 128 → u (in_slot n i) ≡ t (in_slot n i) = in_slots s.area s.tables p.slot t u m.tables same in
    let maps : Maps s after = record {
      aligned = m.aligned;
      inside = room;
      tables = tables_stay s.area s.tables p.slot t u m.tables same;
      counted = λ n h. m.counted n h ∙ sym (used_same t u n 128 (λ i k. stay n i h k));
      full = λ a has. used_stays t u (p.slot a) (p.slot a) (λ i k. stay (p.slot a) i (m.tables.inside a has) k) (m.full a has);
    } in (
      maps,
      ap (λ (f : EntryMap). record { entries = f; tables = s.tables }) (
          entries_stay p p ram after (laid p ram m) (laid p after maps) refl (held_stays s.area s.tables p.slot t u m.tables same)
          ),
    )

pub tables_stand : TablesStand
tables_stand s ram m = both_stand (placed s) ram (laid (placed s) ram m)
