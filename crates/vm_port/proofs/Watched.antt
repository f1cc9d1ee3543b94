-- The watched bus is the guest's, and tells where a run leaves the shadow.
use Rattle.std.proofs.Common.{◌≡◌, ◌∙◌, ℕ, Bool, true, false, cond, refl, ap}
use Rattle.std.specs.Prelude.{Option, Some, None}
use Rattle.mb_port.specs.Routine.{Call, Fetch, Read, Write, ReadLine, WriteLine, Probe, Get, Put, ReadMmu, SetMmu, FlushKept, Test, ResetDevices}
use Rattle.mb_port.specs.Routine.{Routine, Return, Ask, Then, run}
use Rattle.mb_model.specs.declared.kept.Kept.{Kept}
use Rattle.mb_model.specs.Keeping.{rule_k}
use Rattle.def_machine.specs.declared.reference.Reference.{Reference}
use Rattle.def_machine.specs.World.{World}
use Rattle.def_machine.specs.Access.{translated}
use Rattle.vm_shadow.specs.Shadows.{Shadowed, nothing, with_page_put}
use Rattle.def_guests.specs.Guests.{Guest}
use Rattle.def_guests.specs.Bus.{accessed, gone, guest_bus, is_writable, put_entry_of, puts_entry, shadow_after, without_kept}
use Rattle.mb_model.specs.Pages.{page_of}
use Rattle.vm_port.specs.Watched.{Watched, changed_by_fill, changed_by_put, changed_by_access, changed_after, watched_bus}

-- it answers as the guest's bus
pub unwatched : {A : Type 0} (m : Routine A) (s : Watched)
    → run guest_bus m s.guest ≡ (let (a, t) = run watched_bus m s in (a, t.guest))
unwatched (Return a) s = refl
unwatched (Ask c) s = refl
unwatched (Then {A = B} m f) s =
    ap (λ (r : B × Guest). run guest_bus (f (r.0)) (r.1)) (unwatched m s)
    ∙ unwatched (f ((run watched_bus m s).0)) ((run watched_bus m s).1)

-- ---- what is not told to have changed has not

-- nor had it before, and the shadow is what it was
abbrev Stays : (before after : Bool) (shadow next : Shadowed) → Type 0
Stays before after shadow next = after ≡ false → (before ≡ false) × (next ≡ shadow)

by_fill : (o : Option Kept) (before : Bool) (shadow : Shadowed) → Stays before (changed_by_fill o before) shadow (without_kept o shadow)
by_fill None before shadow h = (h, refl)
by_fill (Some k) before shadow h = absurd (let z : ⊥ = cc in z)

by_test : (b before : Bool) (shadow next : Shadowed) → Stays before (cond b true before) shadow (cond b next shadow)
by_test true before shadow next h = absurd (let z : ⊥ = cc in z)
by_test false before shadow next h = (h, refl)

by_put : (w : World) (r : Reference) (shadow : Shadowed) (at : Option ℕ) (before : Bool)
    → Stays before (changed_by_put w r shadow at before) shadow (put_entry_of w r shadow at)
by_put w r shadow None before h = (h, refl)
by_put w r shadow (Some at) before h =
    by_test (puts_entry w r shadow at) before shadow
    (with_page_put r.space (page_of r.at) (page_of at) (is_writable w r.space (page_of r.at)) shadow) h

by_access : (r : Reference) (w : World) (shadow : Shadowed) (before : Bool)
    → Stays before (changed_by_access r w shadow before) shadow (accessed r w shadow)
by_access r w shadow before h =
    let next = translated rule_k r w in
    let (filled, put) = by_put (next.1) r (without_kept (gone w r) shadow) (next.0) (changed_by_fill (gone w r) before) h in
    let (was, gone) = by_fill (gone w r) before shadow filled in
    (was, put ∙ gone)

by_call : (c : Call) (w : World) (shadow : Shadowed) (before : Bool)
    → Stays before (changed_after c w shadow before) shadow (shadow_after c w shadow)
by_call (Fetch space at) w shadow before h = by_access _ w shadow before h
by_call (Read space p) w shadow before h = by_access _ w shadow before h
by_call (Write space p value) w shadow before h = by_access _ w shadow before h
by_call (ReadLine space at) w shadow before h = by_access _ w shadow before h
by_call (WriteLine space at line) w shadow before h = by_access _ w shadow before h
by_call (Probe space p) w shadow before h = by_access _ w shadow before h
by_call (Get place) w shadow before h = (h, refl)
by_call (Put place value) w shadow before h = (h, refl)
by_call ReadMmu w shadow before h = (h, refl)
by_call (SetMmu which value) w shadow before h = by_test (rule_k.forgets which) before shadow nothing h
by_call (FlushKept what) w shadow before h = absurd (let z : ⊥ = cc in z)
by_call (Test space at write) w shadow before h = absurd (let z : ⊥ = cc in z)
by_call ResetDevices w shadow before h = (h, refl)

-- so after a run
pub stays : {A : Type 0} (m : Routine A) (s : Watched) → let (a, t) = run watched_bus m s in
    t.changed ≡ false → (s.changed ≡ false) × (t.guest.shadow ≡ s.guest.shadow)
stays (Return a) s h = (h, refl)
stays (Ask c) s h = by_call c s.guest.world s.guest.shadow s.changed h
stays (Then m f) s h =
    let (later, next) = stays (f ((run watched_bus m s).0)) ((run watched_bus m s).1) h in
    let (was, same) = stays m s later in
    (was, next ∙ same)
