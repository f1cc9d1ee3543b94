-- What the loop of a flush comes to, and the put of an entry.
use Rattle.std.proofs.Common.{◌≡◌, ◌∙◌, ℕ, zero, suc, ◌+◌, Bool, true, false, List, [], ◌∷◌, length, drop, refl, ap, sym, add-one, ◌&&◌, not, if◌then◌else◌}
use Rattle.std.specs.Prelude.{Option, Some, None, slice_get}
use Rattle.std.proofs.lemmas.Option.{get_or_from_slice_get, slice_get_within}
use Rattle.std.proofs.Math.Seq.{drop-cons}
use Rattle.mb_port.specs.declared.types.Flush.{Flush}
use Rattle.mb_model.specs.declared.kept.Kept.{Kept}
use Rattle.mb_model.specs.Keeping.{covers}
use Rattle.mb_model.specs.Pages.{page_of}
use Rattle.def_machine.specs.World.{World}
use Rattle.def_machine.specs.declared.reference.Reference.{Reference}
use Rattle.vm_shadow.specs.Shadows.{Shadowed, with_page_put, dropped}
use Rattle.def_guests.specs.Guests.{allows}
use Rattle.def_guests.specs.Bus.{dropped_all, is_in_ram, is_split, is_writable, put_entry_of}

entry_first : (ks : List Kept) (place : ℕ) (k : Kept) → slice_get ks place ≡ Some k → drop place ks ≡ k ∷ drop (place + 1) ks
entry_first ks place k h =
    drop-cons ks place k (slice_get_within ks place k h) ∙ ap (λ (e : Kept). e ∷ drop (suc place) ks) (get_or_from_slice_get ks place k k h)
    ∙ ap (λ (n : ℕ). k ∷ drop n ks) (sym (add-one place))

-- one entry more
pub next_dropped : (what : Flush) (ks : List Kept) (place : ℕ) (k : Kept) (shadow after : Shadowed) → slice_get ks place ≡ Some k
    → after ≡ (if covers what k then dropped k.space k.page shadow else shadow)
    → dropped_all what (drop (place + 1) ks) after ≡ dropped_all what (drop place ks) shadow
next_dropped what ks place k shadow after h e =
    ap (dropped_all what (drop (place + 1) ks)) e ∙ sym (ap (λ (list : List Kept). dropped_all what list shadow) (entry_first ks place k h))

-- no entry is left
none_left : (ks : List Kept) (place : ℕ) → slice_get ks place ≡ None → drop place ks ≡ []
none_left [] zero h = refl
none_left [] (suc place) h = refl
none_left (k ∷ ks) zero h = absurd (let z : Some k ≡ None = h in let y : ⊥ = cc in y)
none_left (k ∷ ks) (suc place) h = none_left ks place h

pub all_dropped : (what : Flush) (ks : List Kept) (place : ℕ) (shadow : Shadowed) → slice_get ks place ≡ None → dropped_all what (drop place ks) shadow ≡ shadow
all_dropped what ks place shadow h = ap (λ (list : List Kept). dropped_all what list shadow) (none_left ks place h)

so_put : (here split allowed : Bool) → here ≡ true → split ≡ false → allowed ≡ false → (here && (not split && not allowed)) ≡ true
so_put here split allowed h s a = rw (h, s, a) refl

-- an access that puts an entry, as the code finds it
pub put_is : (w : World) (r : Reference) (shadow : Shadowed) (place : Option ℕ) (at : ℕ) → place ≡ Some at → is_in_ram (length w.ram) at ≡ true
    → is_split w.mmu r.space (page_of r.at) ≡ false → allows shadow r ≡ false → {page frame : ℕ} → {writable : Bool} → page ≡ page_of r.at → frame ≡ page_of at
    → writable ≡ is_writable w r.space (page_of r.at) → put_entry_of w r shadow place ≡ with_page_put r.space page frame writable shadow
put_is w r shadow place at is here whole new {page = page} {frame = frame} p f b =
    let new_one = with_page_put r.space (page_of r.at) (page_of at) (is_writable w r.space (page_of r.at)) shadow in
    ap (put_entry_of w r shadow) is
    ∙ ap (λ (so : Bool). if so then new_one else shadow)
    (so_put (is_in_ram (length w.ram) at) (is_split w.mmu r.space (page_of r.at)) (allows shadow r) here whole new)
    ∙ ap (λ (n : ℕ). with_page_put r.space n (page_of at) (is_writable w r.space (page_of r.at)) shadow) (sym p)
    ∙ ap (λ (n : ℕ). with_page_put r.space page n (is_writable w r.space (page_of r.at)) shadow) (sym f)
    ∙ ap (λ (w : Bool). with_page_put r.space page frame w shadow) (sym b)
