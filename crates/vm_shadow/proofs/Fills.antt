-- What the steps of a fill make of a shadow.
use Rattle.std.proofs.Common.{◌≡◌, ◌≢◌, ◌∙◌, ℕ, ◌+◌, ◌*◌, ◌≤◌, Bool, true, false, List, length}
use Rattle.std.proofs.Common.{ap, arith, inl, inr}
use Rattle.std.specs.Prelude.{Some}
use Rattle.std.proofs.lemmas.Bool.{cases_lt}
use Rattle.mb_model.specs.declared.pages.TheConstants.{PAGE_SIZE}
use Rattle.mb_port.specs.declared.types.Space.{Space}
use Rattle.vm_shadow.specs.declared.table.Table.{Table}
use Rattle.vm_shadow.specs.Slots.{number_of, with_table, pointers_of, pages_of}
use Rattle.vm_shadow.specs.Shadows.{EntryMap, Shadowed, with_entry, with_page, with_tables, room_for, with_page_put}
use Rattle.vm_shadow.specs.Area.{page_long}
use Rattle.vm_shadow.proofs.Positions.{pushed_length}
use Rattle.vm_shadow.proofs.Maps.{with_old, with_new}

pub with_more : (a : Table) (xs : List Table) → length xs ≤ length (with_table a xs)
with_more a xs = elim (cases_lt (number_of a xs) (length xs)) [
  | inl h ↦ let e = ap length (with_old a xs h) in omega (arith, e)
  | inr h ↦ let e = ap length (with_new a xs h) in let l = pushed_length xs a in omega (arith, e, l)
]

pub long_some : (frame : ℕ) (writable : Bool) → page_long frame writable ≢ 0
long_some frame true = λ e. let f : PAGE_SIZE * frame + 25 ≡ 0 = e in absurd (omega (arith, f))
long_some frame false = λ e. let f : PAGE_SIZE * frame + 29 ≡ 0 = e in absurd (omega (arith, f))

abbrev pub shadow_of : EntryMap → List Table → Shadowed
shadow_of entries tables = record { entries = entries; tables = tables }

-- entries and tables, step by step
pub shadow_filled : (space : Space) (page frame : ℕ) (writable : Bool) (old : Shadowed) (e0 e1 e2 e3 : EntryMap) (t0 t1 t2 t3 : List Table)
    → shadow_of e0 t0 ≡ room_for space page old
    → e1 ≡ e0 → t1 ≡ with_table (pointers_of space page) t0 → e2 ≡ e1 → t2 ≡ with_table (pages_of space page) t1
    → e3 ≡ with_entry space page (Some (frame, writable)) e2 → t3 ≡ t2
    → shadow_of e3 t3 ≡ with_page_put space page frame writable old
shadow_filled space page frame writable old e0 e1 e2 e3 t0 t1 t2 t3 room p1 q1 p2 q2 p3 q3 =
    ap (λ (f : EntryMap). shadow_of f t3)
    (p3 ∙ ap (with_entry space page (Some (frame, writable))) (p2 ∙ p1))
    ∙ ap (shadow_of (with_entry space page (Some (frame, writable)) e0))
    (q3 ∙ q2 ∙ ap (with_table (pages_of space page)) q1)
    ∙ ap (λ (r : Shadowed). with_page space page (Some (frame, writable)) (with_tables space page r)) room
