-- The held guest's calls.
use Rattle.std.proofs.Common.{◌≡◌, ℕ, ◌+◌, ◌*◌, ◌%◌, ◌^◌, ◌≤◌, ◌<◌, Bool, true, false, nat_le, List, [], ◌∷◌, length, refl, ap, sym, ◌∙◌, subst, arith, inl}
use Rattle.std.proofs.Common.{inr, Option, Some, None, Result, Ok, take, length-take}
use Rattle.std.specs.Prelude.{unwrap_or}
use Rattle.std.proofs.lemmas.Bool.{cases_Bool}
use Rattle.std.proofs.lemmas.Bool.Decides.{nat_tests}
use Rattle.mb_port.specs.Routine.{Call, Fetch, Read, Write, ReadLine, WriteLine, Probe, Get, Put, ReadMmu, SetMmu, FlushKept, Test, ResetDevices}
use Rattle.mb_port.specs.declared.types.Space.{Space}
use Rattle.mb_port.specs.declared.types.Fault.{Fault}
use Rattle.mb_model.specs.Keeping.{rule_k}
use Rattle.mb_walk.specs.Memory.{number_at}
use Rattle.mb_walk.proofs.MemoryLemmas.{length-with_number}
use Rattle.def_machine.specs.declared.reference.Reference.{Reference}
use Rattle.def_machine.specs.World.{World}
use Rattle.def_machine.specs.Places.{in_ram, taken, stored, checked, line_at, taken_line, stored_line}
use Rattle.mb_model.specs.Pages.{page_of}
use Rattle.def_machine.specs.Access.{translated}
use Rattle.def_machine.specs.Bus.{place_at, Take, Store, read_by, written_by}
use Rattle.def_machine.proofs.Bytes.{bytes-with_number}
use Rattle.def_machine.proofs.BusLemmas.{taken_memory, stored_memory}
use Rattle.law_tells.specs.Guarded.{IsReading}
use Rattle.def_guests.specs.Guests.{Guest, Truthful, ref, lets, allows, placed_at}
use Rattle.law_held.specs.Lawful.{IsAttemptCall}
use Rattle.def_guests.specs.Held.{or_refused, held_bus}
use Rattle.law_held.specs.Sound.{Sound}
use Rattle.law_held.proofs.Allowed.{guest_access, wrote_guest, of_guest, line_guest, held_is, held_not}
use Rattle.law_held.proofs.Stages.{piece_fits, word_fits, line_fits, writes_found, line_read, line_written}
use Rattle.def_machine.proofs.Enters.{checked_is, reads_found}

-- ---- an allowed access

pub record Led (size : ℕ) (g : Guest) (code : Bool) (space : Space) (at : ℕ) (write : Bool) : Type 0 where
  pub frame : ℕ
  pub writable : Bool
  pub entry : g.shadow.entries space (page_of at) ≡ Some (frame, writable)
  pub lets_it : lets (Some (frame, writable)) write ≡ true
  pub inside : 4096 * frame + 4096 ≤ size
  pub leads : translated rule_k (ref code space at write) g.world ≡ (Some (placed_at frame at), g.world)

led_by : (size : ℕ) (g : Guest) (code : Bool) (space : Space) (at : ℕ) (write : Bool) → Truthful size g → (write ≡ true → code ≡ false)
    → (o : Option (ℕ × Bool)) → g.shadow.entries space (page_of at) ≡ o → lets o write ≡ true → Led size g code space at write
led_by size g code space at write t side None s h = absurd (let z : ⊥ = cc in z)
led_by size g code space at write t side (Some (frame, writable)) s h = record {
  frame = frame;
  writable = writable;
  entry = s;
  lets_it = h;
  inside = t.inside space (page_of at) frame writable s;
  leads = guest_access size g code space at write frame writable t side s h;
}

pub led : (size : ℕ) (g : Guest) (code : Bool) (space : Space) (at : ℕ) (write : Bool) → Truthful size g → (write ≡ true → code ≡ false)
    → allows g.shadow (ref code space at write) ≡ true → Led size g code space at write
led size g code space at write t side h = led_by size g code space at write t side (g.shadow.entries space (page_of at)) refl h

pub led_room : (frame at len size : ℕ) → 4096 * frame + 4096 ≤ size → at % 4096 + len ≤ 4096 → placed_at frame at + len ≤ size
led_room frame at len size h k = omega arith

in_ram_of : (size p len : ℕ) → p + len ≤ size → in_ram size p len ≡ true
in_ram_of size p len h = let b : nat_le (p + len) size ≡ true = grind (arith, nat_tests) in b

-- the guest's RAM holds the place
pub holds : (size : ℕ) (g : Guest) (p len : ℕ) → Sound size g → p + len ≤ size → in_ram (length g.world.ram) p len ≡ true
holds size g p len s h = in_ram_of (length g.world.ram) p len (let e = s.count in omega arith)

-- ---- reads

-- what a read of a place in RAM is
abbrev pub ReadsAt : {A : Type 0} → ℕ → Guest → ℕ → Take A → Type 0
ReadsAt {A} size g len take = (p : ℕ) → p + len ≤ size → (a : A) × (take (place_at p len) g.world ≡ (Some a, g.world))

abbrev pub held_read : {A : Type 0} → Guest → Reference → ℕ → Take A → Result A Fault × Guest
held_read g r len take = or_refused (allows g.shadow r) (of_guest g (read_by rule_k r len take g.world)) r len g

pub read_held : {A : Type 0} (size : ℕ) (g : Guest) (code : Bool) (space : Space) (at len : ℕ) (write : Bool) (take : Take A) → Truthful size g → at < 2 ^ 32
    → (write ≡ true → code ≡ false) → at % 4096 + len ≤ 4096 → ReadsAt size g len take → allows g.shadow (ref code space at write) ≡ true
    → (a : A) × (held_read g (ref code space at write) len take ≡ (Ok a, g))
read_held size g code space at len write take t l on_data fits side may =
    let r = ref code space at write in
    let here : Led size g code space at write = led size g code space at write t on_data may in
    let (a, is) = side (placed_at here.frame at) (led_room here.frame at len size here.inside fits) in (
      a,
      held_is (allows g.shadow r) (of_guest g (read_by rule_k r len take g.world)) r len g may
          ∙ ap (of_guest g) (reads_found rule_k r len take g.world g.world (placed_at here.frame at) a here.leads is),
    )

-- a read leaves the guest as it is, allowed or not
pub read_leaves : {A : Type 0} (size : ℕ) (g : Guest) (code : Bool) (space : Space) (at len : ℕ) (write : Bool) (take : Take A) → Truthful size g → at < 2 ^ 32
    → (write ≡ true → code ≡ false) → at % 4096 + len ≤ 4096 → ReadsAt size g len take → (held_read g (ref code space at write) len take).1 ≡ g
read_leaves {A} size g code space at len write take t l on_data fits side =
    let r = ref code space at write in
    elim (cases_Bool (allows g.shadow r)) [
      | inl may ↦ ap (λ (q : Result A Fault × Guest). q.1) (read_held size g code space at len write take t l on_data fits side may).1
      | inr may_not ↦ ap (λ (q : Result A Fault × Guest). q.1) (held_not (allows g.shadow r) (of_guest g (read_by rule_k r len take g.world)) r len g may_not)
    ]

pub taken_reads : (size : ℕ) (g : Guest) (len : ℕ) → Sound size g → ReadsAt size g len taken
taken_reads size g len s p h = (number_at g.world.ram p len, taken_memory g.world (place_at p len) (holds size g p len s h))

pub line_reads : (size : ℕ) (g : Guest) → Sound size g → ReadsAt size g 16 taken_line
line_reads size g s p h = (line_at g.world.ram p, line_read g.world p (holds size g p 16 s h))

pub checked_reads : (size : ℕ) (g : Guest) (len : ℕ) → Sound size g → ReadsAt size g len checked
checked_reads size g len s p h = (place_at p len, checked_is g.world p len (holds size g p len s h))

pub held_leaves : (size : ℕ) (space : Space) (c : Call) (g : Guest) → Sound size g → IsAttemptCall space 0 size c → IsReading c → (held_bus c g).1 ≡ g
held_leaves size space (Fetch of at) g s l r = read_leaves size g true of at 2 false taken s.truthful l.1 (λ z. cc) (word_fits at l.2) (taken_reads size g 2 s)
held_leaves size space (Read of p) g s l r = read_leaves size g false of p.at p.len false taken s.truthful l.1 (λ z. refl) (piece_fits p l.2)
    (taken_reads size g p.len s)
held_leaves size space (Write of p value) g s l r = absurd r
held_leaves size space (ReadLine of at) g s l r = read_leaves size g false of at 16 false taken_line s.truthful l.1 (λ z. refl) (line_fits at l.2)
    (line_reads size g s)
held_leaves size space (WriteLine of at line) g s l r = absurd r
held_leaves size space (Probe of p) g s l r = read_leaves size g false of p.at p.len true checked s.truthful l.1 (λ z. refl) (piece_fits p l.2)
    (checked_reads size g p.len s)
held_leaves size space (Get place) g s l r = absurd r
held_leaves size space (Put place value) g s l r = absurd r
held_leaves size space ReadMmu g s l r = absurd r
held_leaves size space (SetMmu which value) g s l r = absurd r
held_leaves size space (FlushKept what) g s l r = absurd r
held_leaves size space (Test of at write) g s l r = absurd r
held_leaves size space ResetDevices g s l r = absurd r

-- ---- writes

pub wrote_sound : (size : ℕ) (g : Guest) (p len v : ℕ) → Sound size g → p + len ≤ size → Sound size (wrote_guest g p len v)
wrote_sound size g p len v s h =
    let e : length g.world.ram ≡ size = s.count in
    record {
      truthful = record { reads = s.truthful.reads; writes = s.truthful.writes; inside = s.truthful.inside };
      count = length-with_number g.world.ram p len v (omega arith) ∙ s.count;
      bytes = bytes-with_number g.world.ram p len v s.bytes;
    }

pub line_sound : (size : ℕ) (g : Guest) (p : ℕ) (line : List ℕ) → Sound size g → p + 4 * length line ≤ size → Sound size (line_guest g p line)
line_sound size g p [] s h = s
line_sound size g p (v ∷ vs) s h = line_sound size (wrote_guest g p 4 v) (p + 4) vs (wrote_sound size g p 4 v s (omega arith)) (omega arith)

abbrev pub held_write : Guest → Reference → ℕ → Store → Result (Unit {0}) Fault × Guest
held_write g r len store = or_refused (allows g.shadow r) (of_guest g (written_by rule_k r len store g.world)) r len g

-- a write that is allowed
pub write_held : (size : ℕ) (g : Guest) (space : Space) (at len : ℕ) (store : Store) (t : Truthful size g) (l : at < 2 ^ 32) → at % 4096 + len ≤ 4096
    → (after : ℕ → World) → ((p : ℕ) → p + len ≤ size → store (place_at p len) g.world ≡ Some (after p))
    → (may : allows g.shadow (ref false space at true) ≡ true)
    → held_write g (ref false space at true) len store ≡
    (Ok tt, record g { world = after (placed_at (led size g false space at true t (λ z. refl) may).frame at) })
write_held size g space at len store t l fits after side may =
    let r = ref false space at true in
    let here : Led size g false space at true = led size g false space at true t (λ z. refl) may in
    held_is (allows g.shadow r) (of_guest g (written_by rule_k r len store g.world)) r len g may
    ∙ ap (of_guest g) (writes_found rule_k r len store g.world g.world (after (placed_at here.frame at)) (placed_at here.frame at) here.leads
    (side (placed_at here.frame at) (led_room here.frame at len size here.inside fits)))

write_sound : (size : ℕ) (g : Guest) (space : Space) (at len : ℕ) (store : Store) → Sound size g → at < 2 ^ 32 → at % 4096 + len ≤ 4096
    → (after : ℕ → World) → ((p : ℕ) → p + len ≤ size → store (place_at p len) g.world ≡ Some (after p))
    → ((p : ℕ) → p + len ≤ size → Sound size (record g { world = after p })) → Sound size (held_write g (ref false space at true) len store).1
write_sound size g space at len store s l fits after side sound =
    let r = ref false space at true in
    elim (cases_Bool (allows g.shadow r)) [
      | inl may ↦
          let here : Led size g false space at true = led size g false space at true s.truthful (λ z. refl) may in
          subst (λ (q : Result (Unit {0}) Fault × Guest). Sound size q.1) (sym (write_held size g space at len store s.truthful l fits after side may))
          (sound (placed_at here.frame at) (led_room here.frame at len size here.inside fits))
      | inr may_not ↦
          subst (λ (q : Result (Unit {0}) Fault × Guest). Sound size q.1)
          (sym (held_not (allows g.shadow r) (of_guest g (written_by rule_k r len store g.world)) r len g may_not)) s
    ]

pub stored_writes : (size : ℕ) (g : Guest) (len value : ℕ) → Sound size g → (p : ℕ) → p + len ≤ size
    → stored (place_at p len) value g.world ≡ Some (wrote_guest g p len value).world
stored_writes size g len value s p h = stored_memory g.world (place_at p len) value (holds size g p len s h)

pub line_writes : (size : ℕ) (g : Guest) (line : List ℕ) → Sound size g → (p : ℕ) → p + 16 ≤ size
    → stored_line (place_at p 16) line g.world ≡ Some (line_guest g p (take 4 line)).world
line_writes size g line s p h = line_written g.world p line (holds size g p 16 s h)

-- ---- every lawful call

pub held_sound : (size : ℕ) (space : Space) (c : Call) (g : Guest) → Sound size g → IsAttemptCall space 0 size c → Sound size (held_bus c g).1
held_sound size space (Fetch of at) g s l = subst (Sound size) (sym (held_leaves size space (Fetch of at) g s l tt)) s
held_sound size space (Read of p) g s l = subst (Sound size) (sym (held_leaves size space (Read of p) g s l tt)) s
held_sound size space (Write of p value) g s l =
    write_sound size g of p.at p.len (λ place. stored place value) s l.1 (piece_fits p l.2) (λ at. (wrote_guest g at p.len value).world)
    (stored_writes size g p.len value s)
    (λ at h. wrote_sound size g at p.len value s h)
held_sound size space (ReadLine of at) g s l = subst (Sound size) (sym (held_leaves size space (ReadLine of at) g s l tt)) s
held_sound size space (WriteLine of at line) g s l =
    write_sound size g of at 16 (λ place. stored_line place line) s l.1 (line_fits at l.2) (λ at. (line_guest g at (take 4 line)).world)
    (line_writes size g line s)
    (λ at h. line_sound size g at (take 4 line) s (omega (arith, length-take 4 line)))
held_sound size space (Probe of p) g s l = subst (Sound size) (sym (held_leaves size space (Probe of p) g s l tt)) s
held_sound size space (Get place) g s l =
    subst (λ (q : Option ℕ × World). Sound size (record g { world = q.1 }))
    (sym (taken_memory g.world place (holds size g place.at place.len s (let h = l.1 in omega arith)))) s
held_sound size space (Put place value) g s l =
    let fits : place.at + place.len ≤ size = (let h = l.1 in omega arith) in
    subst (λ (q : Option World). Sound size (record g { world = unwrap_or q g.world }))
    (sym (stored_memory g.world place value (holds size g place.at place.len s fits)))
    (wrote_sound size g place.at place.len value s fits)
held_sound size space ReadMmu g s l = absurd l
held_sound size space (SetMmu which value) g s l = absurd l
held_sound size space (FlushKept what) g s l = absurd l
held_sound size space (Test of at write) g s l = absurd l
held_sound size space ResetDevices g s l = absurd l
