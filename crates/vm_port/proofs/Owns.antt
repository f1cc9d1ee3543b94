-- Shadows with the guest's frames, and with the board's: what each call of the shadow's code makes of them.
use Rattle.std.proofs.Common.{◌≡◌, ◌∙◌, ℕ, ◌+◌, ◌*◌, ◌-◌, ◌/◌, ◌^◌, zero, suc, ◌||◌, refl, ap, sym, Bool, true, false, cond, List, filter, arith}
use Rattle.std.specs.Prelude.{Option, Some, None, is_some}
use Rattle.std.proofs.Math.Path.{fun_ext}
use Rattle.mb_port.specs.declared.types.Space.{Space}
use Rattle.vm_shadow.specs.declared.table.Table.{Table}
use Rattle.vm_shadow.specs.declared.table.Table.TheVariants.{Pointers, Pages}
use Rattle.vm_shadow.specs.Slots.{is_full_for, tables_for}
use Rattle.vm_shadow.specs.Shadows.{Shadowed, EntryMap, nothing, is_at, room_for, with_page_put, dropped, has_entry, is_needed}
use Rattle.def_guests.specs.Seats.{board_entry, on_board, own, own_entry}
use Rattle.def_guests.specs.Guests.{allows, lets}
use Rattle.def_machine.specs.declared.reference.Reference.{Reference}
use Rattle.mb_model.specs.Pages.{page_of}
use Rattle.vm_port.specs.Own.{IsPlaced}

-- ---- other frames in each entry

-- an entry stays one
abbrev Keeps : (Option (ℕ × Bool) → Option (ℕ × Bool)) → Type 0
Keeps f = (e : Option (ℕ × Bool)) → is_some (f e) ≡ is_some e

abbrev each : (Option (ℕ × Bool) → Option (ℕ × Bool)) → Shadowed → Shadowed
each f shadow = record { entries = λ space page. f (shadow.entries space page); tables = shadow.tables }

two_ext : (f h : EntryMap) → ((space : Space) (page : ℕ) → f space page ≡ h space page) → f ≡ h
two_ext f h e = fun_ext (λ space. fun_ext (λ page. e space page))

same_shadow : (s t : Shadowed) → s.entries ≡ t.entries → s.tables ≡ t.tables → s ≡ t
same_shadow s t e h =
    ap (λ (n : EntryMap). (let a : Shadowed = record { entries = n; tables = s.tables } in a)) e
    ∙ ap (λ (n : List Table). (let a : Shadowed = record { entries = t.entries; tables = n } in a)) h

of_if : (f : Option (ℕ × Bool) → Option (ℕ × Bool)) (b : Bool) (e other : Option (ℕ × Bool)) → f (cond b e other) ≡ cond b (f e) (f other)
of_if f true e other = refl
of_if f false e other = refl

module _ (f : Option (ℕ × Bool) → Option (ℕ × Bool)) (keeps : Keeps f) where
  none : f None ≡ None
  none = is_none (f None) (keeps None)
    where
      is_none : (o : Option (ℕ × Bool)) → is_some o ≡ false → o ≡ None
      is_none None h = refl
      is_none (Some e) h = absurd (let z : ⊥ = cc in z)

  has_same : (entries : EntryMap) (space : Space) (first n : ℕ)
      → has_entry (λ space page. f (entries space page)) space first n ≡ has_entry entries space first n
  unfolding has_entry
  has_same entries space first zero = refl
  has_same entries space first (suc n) =
      ap (λ (b : Bool). b || has_entry (λ space page. f (entries space page)) space first n) (keeps (entries space (first + n)))
      ∙ ap (λ (b : Bool). is_some (entries space (first + n)) || b) (has_same entries space first n)

  needed_same : (entries : EntryMap) (table : Table) → is_needed (λ space page. f (entries space page)) table ≡ is_needed entries table
  needed_same entries (Pointers space index) = has_same entries space (2 ^ 13 * index) (2 ^ 13)
  needed_same entries (Pages space index) = has_same entries space (2 ^ 6 * index) (2 ^ 6)

  pub each_nothing : each f nothing ≡ nothing
  each_nothing = same_shadow (each f nothing) nothing (two_ext _ _ (λ of number. none)) refl

  pub each_dropped : (space : Space) (page : ℕ) (shadow : Shadowed) → each f (dropped space page shadow) ≡ dropped space page (each f shadow)
  each_dropped space page shadow =
      let without : EntryMap = λ of number. cond (is_at space page of number) None (shadow.entries of number) in
      let entries : (λ (of : Space) (number : ℕ). f (without of number)) ≡ (dropped space page (each f shadow)).entries =
      two_ext _ _ (λ of number. of_if f (is_at space page of number) None (shadow.entries of number)
      ∙ ap (λ (e : Option (ℕ × Bool)). cond (is_at space page of number) e (f (shadow.entries of number))) none) in
      same_shadow (each f (dropped space page shadow)) (dropped space page (each f shadow)) entries
      (ap (λ (n : Table → Bool). filter n shadow.tables)
      (fun_ext (λ table. sym (needed_same without table) ∙ ap (λ (n : EntryMap). is_needed n table) entries)))

  room_same : (full : Bool) (shadow : Shadowed) → each f (cond full nothing shadow) ≡ cond full nothing (each f shadow)
  room_same true shadow = each_nothing
  room_same false shadow = refl

  pub each_filled : (space : Space) (page frame own_frame : ℕ) (writable : Bool) (shadow : Shadowed) → f (Some (frame, writable)) ≡ Some (own_frame, writable)
      → each f (with_page_put space page frame writable shadow) ≡ with_page_put space page own_frame writable (each f shadow)
  each_filled space page frame own_frame writable shadow e =
      let room = room_same (is_full_for space page shadow.tables) shadow in
      same_shadow (each f (with_page_put space page frame writable shadow)) (with_page_put space page own_frame writable (each f shadow))
      (two_ext _ _ (λ of number.
      of_if f (is_at space page of number) (Some (frame, writable)) ((room_for space page shadow).entries of number)
      ∙ ap (λ (o : Option (ℕ × Bool)). cond (is_at space page of number) o (f ((room_for space page shadow).entries of number))) e
      ∙ ap (λ (s : Shadowed). cond (is_at space page of number) (Some (own_frame, writable)) (s.entries of number)) room))
      (ap (λ (s : Shadowed). tables_for space page s.tables) room)

-- ---- the guest's frames, and the board's

own_keeps : (base : ℕ) → Keeps (own_entry base)
own_keeps base None = refl
own_keeps base (Some (frame, writable)) = refl

moved_keeps : (base : ℕ) → Keeps (board_entry base)
moved_keeps base None = refl
moved_keeps base (Some (frame, writable)) = refl

own_frame : (base frame : ℕ) (writable : Bool) → own_entry base (Some (page_of base + frame, writable)) ≡ Some (frame, writable)
own_frame base frame writable = ap (λ (n : ℕ). Some (n, writable)) (let e : base / 4096 + frame - base / 4096 ≡ frame = omega arith in e)

pub own_nothing : (base : ℕ) → own base nothing ≡ nothing
own_nothing base = each_nothing (own_entry base) (own_keeps base)

pub own_filled : (base : ℕ) (shadow : Shadowed) (space : Space) (page frame : ℕ) (writable : Bool)
    → own base (with_page_put space page (page_of base + frame) writable shadow) ≡ with_page_put space page frame writable (own base shadow)
own_filled base shadow space page frame writable =
    each_filled (own_entry base) (own_keeps base) space page (page_of base + frame) frame writable shadow (own_frame base frame writable)

pub own_dropped : (base : ℕ) (shadow : Shadowed) (space : Space) (page : ℕ) → own base (dropped space page shadow) ≡ dropped space page (own base shadow)
own_dropped base shadow space page = each_dropped (own_entry base) (own_keeps base) space page shadow

-- ---- each entry leads to the guest's part

own_moved : (base : ℕ) (e : Option (ℕ × Bool)) → own_entry base (board_entry base e) ≡ e
own_moved base None = refl
own_moved base (Some (frame, writable)) = own_frame base frame writable

own_on_board : (base : ℕ) (shadow : Shadowed) → own base (on_board base shadow) ≡ shadow
own_on_board base shadow =
    same_shadow (own base (on_board base shadow)) shadow (two_ext _ _ (λ of number. own_moved base (shadow.entries of number))) refl

-- the board's view of some shadow is placed
placed_by : (base : ℕ) (shadow own_shadow : Shadowed) → shadow ≡ on_board base own_shadow → IsPlaced base shadow
placed_by base shadow own_shadow e = e ∙ ap (on_board base) (sym (own_on_board base own_shadow) ∙ ap (own base) (sym e))

pub placed_nothing : (base : ℕ) → IsPlaced base nothing
placed_nothing base = placed_by base nothing nothing (sym (each_nothing (board_entry base) (moved_keeps base)))

pub placed_filled : (base : ℕ) (shadow : Shadowed) (space : Space) (page frame : ℕ) (writable : Bool) → IsPlaced base shadow
    → IsPlaced base (with_page_put space page (page_of base + frame) writable shadow)
placed_filled base shadow space page frame writable e =
    placed_by base (with_page_put space page (page_of base + frame) writable shadow) (with_page_put space page frame writable (own base shadow))
    (ap (with_page_put space page (page_of base + frame) writable) e
    ∙ sym (each_filled (board_entry base) (moved_keeps base) space page frame (page_of base + frame) writable (own base shadow) refl))

pub placed_dropped : (base : ℕ) (shadow : Shadowed) (space : Space) (page : ℕ) → IsPlaced base shadow → IsPlaced base (dropped space page shadow)
placed_dropped base shadow space page e =
    placed_by base (dropped space page shadow) (dropped space page (own base shadow))
    (ap (dropped space page) e ∙ sym (each_dropped (board_entry base) (moved_keeps base) space page (own base shadow)))

-- ---- what the shadow allows

own_lets : (base : ℕ) (e : Option (ℕ × Bool)) (write : Bool) → lets (own_entry base e) write ≡ lets e write
own_lets base None write = refl
own_lets base (Some (frame, writable)) write = refl

pub own_allows : (base : ℕ) (shadow : Shadowed) (r : Reference) → allows (own base shadow) r ≡ lets (shadow.entries r.space (page_of r.at)) r.write
own_allows base shadow r = own_lets base (shadow.entries r.space (page_of r.at)) r.write

pub ruleset letting = (own_allows)
