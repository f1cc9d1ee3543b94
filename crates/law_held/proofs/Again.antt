-- The held bus as instructions meet it: what it refuses, what it keeps, and what can be done again.
use Rattle.std.proofs.Common.{◌≡◌, ◌⊎◌, ℕ, ◌+◌, ◌%◌, ◌^◌, ◌≤◌, ◌<◌, Bool, true, false, List, length, refl, ap, sym, ◌∙◌, subst, arith, inl, inr, Option, Some}
use Rattle.std.proofs.Common.{None, Result, Ok, Err}
use Rattle.std.proofs.lemmas.Bool.{cases_Bool}
use Rattle.std.proofs.lemmas.Option.{same_Some}
use Rattle.byteorder.specs.Endian.{big_bytes}
use Rattle.byteorder.specs.Numbers.{length-bytes_high_first}
use Rattle.mb_port.specs.Pieces.{IsPiece}
use Rattle.mb_port.specs.Routine.{Call, Fetch, Read, Write, ReadLine, WriteLine, Probe, Get, Put, ReadMmu, SetMmu, FlushKept, Test, ResetDevices}
use Rattle.mb_port.specs.declared.types.Space.{Space}
use Rattle.mb_port.specs.declared.types.Piece.{Piece}
use Rattle.mb_port.specs.declared.types.Place.{Place}
use Rattle.mb_port.specs.declared.types.Fault.{Fault}
use Rattle.law_routines.specs.Refusal.{IsFault}
use Rattle.law_routines.specs.Probing.{OpensProbed}
use Rattle.mb_model.specs.Keeping.{rule_k}
use Rattle.mb_walk.specs.Memory.{number_at, with_number}
use Rattle.def_machine.specs.declared.reference.Reference.{Reference}
use Rattle.def_machine.specs.Places.{taken, stored, checked, line_at, taken_line}
use Rattle.mb_model.specs.Pages.{page_of}
use Rattle.def_machine.specs.Bus.{fault_of, place_at, fetching_of, reading_of, writing_of, Take, read_by}
use Rattle.law_tells.specs.Guarded.{ShareNoOffset}
use Rattle.mb_walk.proofs.Parts.{over-again, over-stands}
use Rattle.def_machine.proofs.BusLemmas.{taken_memory}
use Rattle.def_guests.specs.Guests.{Guest, Truthful, ref, lets, allows, allows_call, placed_at}
use Rattle.def_guests.specs.Held.{plain_bus, or_refused, held_bus}
use Rattle.law_held.specs.Lawful.{IsAttemptCall}
use Rattle.law_held.specs.Sound.{Sound, HeldGuards}
use Rattle.law_held.proofs.Allowed.{wrote_guest, writable_is, held_is, held_not, of_guest, word_small}
use Rattle.law_held.proofs.Stages.{piece_fits, word_fits, line_fits, line_read}
use Rattle.law_held.proofs.Holding.{Led, led, led_room, held_read, held_leaves, wrote_sound, write_held, stored_writes, held_sound, holds}
use Rattle.def_machine.proofs.Enters.{checked_is, reads_found}

-- ---- refusals

abbrev Refused : (c : Call) → Guest → Type 0
Refused c g = (f : Fault) × IsFault c ((held_bus c g).0) f × ((held_bus c g).1 ≡ g)

refused : {A : Type 0} (b : Bool) (q : Result A Fault × Guest) (r : Reference) (len : ℕ) (g : Guest) → b ≡ false
    → (f : Fault) × ((or_refused b q r len g).0 ≡ Err f) × ((or_refused b q r len g).1 ≡ g)
refused {A} b q r len g h = (
  fault_of r len true,
  ap (λ (s : Result A Fault × Guest). s.0) (held_not b q r len g h),
  ap (λ (s : Result A Fault × Guest). s.1) (held_not b q r len g h),
)

true_not_false : true ≡ false → ⊥
true_not_false h = cc

call_refused : (space : Space) (size : ℕ) (c : Call) (g : Guest) → IsAttemptCall space 0 size c → allows_call c g.shadow ≡ false → Refused c g
call_refused space size (Fetch of at) g l h = refused (allows g.shadow (fetching_of of at)) (plain_bus (Fetch of at) g) (fetching_of of at) 2 g h
call_refused space size (Read of p) g l h = refused (allows g.shadow (reading_of of p.at)) (plain_bus (Read of p) g) (reading_of of p.at) p.len g h
call_refused space size (Write of p value) g l h =
    refused (allows g.shadow (writing_of of p.at)) (plain_bus (Write of p value) g) (writing_of of p.at) p.len g h
call_refused space size (ReadLine of at) g l h = refused (allows g.shadow (reading_of of at)) (plain_bus (ReadLine of at) g) (reading_of of at) 16 g h
call_refused space size (WriteLine of at line) g l h =
    refused (allows g.shadow (writing_of of at)) (plain_bus (WriteLine of at line) g) (writing_of of at) 16 g h
call_refused space size (Probe of p) g l h = refused (allows g.shadow (writing_of of p.at)) (plain_bus (Probe of p) g) (writing_of of p.at) p.len g h
call_refused space size (Get place) g l h = absurd (true_not_false h)
call_refused space size (Put place value) g l h = absurd (true_not_false h)
call_refused space size ReadMmu g l h = absurd l
call_refused space size (SetMmu which value) g l h = absurd l
call_refused space size (FlushKept what) g l h = absurd l
call_refused space size (Test of at write) g l h = absurd l
call_refused space size ResetDevices g l h = absurd l

-- ---- answers

answered : {A : Type 0} (size : ℕ) (g : Guest) (code : Bool) (space : Space) (at len : ℕ) (write : Bool) (take : Take A) (Holds : A → Type 0) → Truthful size g
    → at < 2 ^ 32
    → (write ≡ true → code ≡ false) → at % 4096 + len ≤ 4096
    → ((p : ℕ) → p + len ≤ size → (a : A) × (take (place_at p len) g.world ≡ (Some a, g.world)) × Holds a)
    → (a : A) → (held_read g (ref code space at write) len take).0 ≡ Ok a → allows g.shadow (ref code space at write) ≡ true → Holds a
answered {A} size g code space at len write take Holds t l on_data fits side a e may =
    let here : Led size g code space at write = led size g code space at write t on_data may in
    let r = ref code space at write in
    let (c, is_c, holds_c) = side (placed_at here.frame at) (led_room here.frame at len size here.inside fits) in
    let whole : held_read g r len take ≡ (Ok c, g) = held_is (allows g.shadow r) (of_guest g (read_by rule_k r len take g.world)) r len g may
    ∙ ap (of_guest g) (reads_found rule_k r len take g.world g.world (placed_at here.frame at) c here.leads is_c) in
    let f : Ok c ≡ Ok a = sym (ap (λ (q : Result A Fault × Guest). q.0) whole) ∙ e in
    let same : c ≡ a = cc in
    subst Holds same holds_c

probe_inside : (space : Space) (size : ℕ) (p : Piece) (g : Guest) (place : Place) → Sound size g → IsAttemptCall space 0 size (Probe space p)
    → allows_call (Probe space p) g.shadow ≡ true
    → (held_bus (Probe space p) g).0 ≡ Ok place → (0 ≤ place.at) × (place.at + place.len ≤ 0 + size) × (place.len ≡ p.len)
probe_inside space size p g place s l may e =
    answered size g false space p.at p.len true checked (λ (q : Place). (0 ≤ q.at) × (q.at + q.len ≤ 0 + size)
    × (q.len ≡ p.len)) s.truthful l.1 (λ z. refl) (piece_fits p l.2)
    (λ k h. (place_at k p.len, checked_is g.world k p.len (holds size g k p.len s h), (omega arith, omega arith, refl))) place e may

pub fetched_small : (space : Space) (size at word : ℕ) (g : Guest) → Sound size g → IsAttemptCall space 0 size (Fetch space at)
    → allows_call (Fetch space at) g.shadow ≡ true
    → (held_bus (Fetch space at) g).0 ≡ Ok word → word < 2 ^ 16
fetched_small space size at word g s l may e =
    answered size g true space at 2 false taken (λ (n : ℕ). n < 2 ^ 16) s.truthful l.1 (λ z. cc) (word_fits at l.2)
    (λ k h. (number_at g.world.ram k 2, taken_memory g.world (place_at k 2) (holds size g k 2 s h), word_small g.world.ram k s.bytes)) word e may

four_read : (space : Space) (size at : ℕ) (line : List ℕ) (g : Guest) → Sound size g → IsAttemptCall space 0 size (ReadLine space at)
    → allows_call (ReadLine space at) g.shadow ≡ true
    → (held_bus (ReadLine space at) g).0 ≡ Ok line → length line ≡ 4
four_read space size at line g s l may e =
    answered size g false space at 16 false taken_line (λ (xs : List ℕ). length xs ≡ 4) s.truthful l.1 (λ z. refl) (line_fits at l.2)
    (λ k h. (line_at g.world.ram k, line_read g.world k (holds size g k 16 s h), refl)) line e may

-- ---- writes again

-- where a write is allowed, this is the frame
writable_entry : (g : Guest) (space : Space) (at : ℕ) (o : Option (ℕ × Bool)) → g.shadow.entries space (page_of at) ≡ o → lets o true ≡ true
    → (frame : ℕ) × (g.shadow.entries space (page_of at) ≡ Some (frame, true))
writable_entry g space at None e h = absurd (let z : ⊥ = cc in z)
writable_entry g space at (Some (frame, writable)) e h =
    (frame, e ∙ ap (λ (w : Bool). (let p : Option (ℕ × Bool) = Some (frame, w) in p)) (writable_is frame writable h))

same_frame : (frame other : ℕ) (w v : Bool) → (let a : Option (ℕ × Bool) = Some (frame, w) in let b : Option (ℕ × Bool) = Some (other, v) in a ≡ b)
    → frame ≡ other
same_frame frame other w v h = let a : ℕ × Bool = (frame, w) in let b : ℕ × Bool = (other, v) in ap (λ (p : ℕ × Bool). p.0) (same_Some a b h)

pub write_to : (size : ℕ) (g : Guest) (space : Space) (p : Piece) (value frame : ℕ) → Sound size g → IsAttemptCall space 0 size (Write space p value)
    → g.shadow.entries space (page_of p.at) ≡ Some (frame, true) → held_bus (Write space p value) g ≡ (Ok tt, wrote_guest g (placed_at frame p.at) p.len value)
write_to size g space p value frame s l e =
    let may : allows g.shadow (ref false space p.at true) ≡ true = ap (λ (o : Option (ℕ × Bool)). lets o true) e in
    let here : Led size g false space p.at true = led size g false space p.at true s.truthful (λ z. refl) may in
    write_held size g space p.at p.len (λ place. stored place value) s.truthful l.1 (piece_fits p l.2) (λ at. (wrote_guest g at p.len value).world)
    (stored_writes size g p.len value s) may
    ∙ ap (λ (n : ℕ). (let q : Result (Unit {0}) Fault × Guest = (Ok tt, wrote_guest g (placed_at n p.at) p.len value) in q))
    (same_frame here.frame frame here.writable true (sym here.entry ∙ e))

frame_inside : (size : ℕ) (g : Guest) (space : Space) (p : Piece) (frame : ℕ) → Sound size g → IsPiece p
    → g.shadow.entries space (page_of p.at) ≡ Some (frame, true)
    → placed_at frame p.at + p.len ≤ length g.world.ram
frame_inside size g space p frame s is e =
    let h = s.truthful.inside space (page_of p.at) frame true e in
    let k = led_room frame p.at p.len size h (piece_fits p is) in
    let c : length g.world.ram ≡ size = s.count in omega arith

written_twice : (g : Guest) (at len value : ℕ) → at + len ≤ length g.world.ram
    → wrote_guest (wrote_guest g at len value) at len value ≡ wrote_guest g at len value
written_twice g at len value h =
    let count : length (big_bytes len value) ≡ len = length-bytes_high_first len value in
    ap (λ (m : List ℕ). record g { world = record g.world { ram = m } }) (over-again g.world.ram (big_bytes len value) at (omega arith))

abbrev pub Stands : Space → ℕ → Piece → ℕ → Guest → Type 0
Stands space size p value g = IsAttemptCall space 0 size (Write space p value) × (allows_call (Write space p value) g.shadow ≡ true)
    × (held_bus (Write space p value) g ≡ (Ok tt, g))

pub stands_again : (space : Space) (size : ℕ) (p : Piece) (value : ℕ) (g : Guest) → Sound size g → IsAttemptCall space 0 size (Write space p value)
    → allows_call (Write space p value) g.shadow ≡ true → Stands space size p value (held_bus (Write space p value) g).1
stands_again space size p value g s l may =
    let (frame, e) = writable_entry g space p.at (g.shadow.entries space (page_of p.at)) refl may in
    let room = frame_inside size g space p frame s l.2 e in
    let after = wrote_guest g (placed_at frame p.at) p.len value in
    let sound : Sound size after = wrote_sound size g (placed_at frame p.at) p.len value s (let c : length g.world.ram ≡ size = s.count in omega arith) in
    subst (λ (q : Result (Unit {0}) Fault × Guest). Stands space size p value q.1) (sym (write_to size g space p value frame s l e)) (
      l,
      may,
      write_to size after space p value frame sound l e
          ∙ ap (λ (h : Guest). (let q : Result (Unit {0}) Fault × Guest = (Ok tt, h) in q)) (written_twice g (placed_at frame p.at) p.len value room),
    )

above_by : (f f' a b la lb : ℕ) → a % 4096 + la ≤ 4096 → b % 4096 + lb ≤ 4096 → 0 < lb → (a % 4096 + la ≤ b % 4096) ⊎ (b % 4096 + lb ≤ a % 4096)
    → placed_at f a ≤ placed_at f' b → placed_at f a + la ≤ placed_at f' b
above_by f f' a b la lb x y z (inl h) k = omega arith
above_by f f' a b la lb x y z (inr h) k = omega arith

swapped : (p q : Piece) → ShareNoOffset p q → ShareNoOffset q p
swapped p q (inl h) = inr h
swapped p q (inr h) = inl h

ram_same : (g h : Guest) (u v : Result (Unit {0}) Fault) → (let a : Result (Unit {0}) Fault × Guest = (u, g) in a) ≡ (v, h) → g.world.ram ≡ h.world.ram
ram_same g h u v e = ap (λ (q : Result (Unit {0}) Fault × Guest). q.1.world.ram) e

stands_beside : (space : Space) (size : ℕ) (p q : Piece) (value more : ℕ) (g : Guest) → ShareNoOffset p q → Sound size g
    → IsAttemptCall space 0 size (Write space q more)
    → allows_call (Write space q more) g.shadow ≡ true → Stands space size p value g → Stands space size p value (held_bus (Write space q more) g).1
stands_beside space size p q value more g apart s l may (lp, may_p, is) =
    let (f, e) = writable_entry g space p.at (g.shadow.entries space (page_of p.at)) refl may_p in
    let (f', e') = writable_entry g space q.at (g.shadow.entries space (page_of q.at)) refl may in
    let room = frame_inside size g space p f s lp.2 e in
    let room' = frame_inside size g space q f' s l.2 e' in
    let at = placed_at f p.at in let to = placed_at f' q.at in
    let after = wrote_guest g to q.len more in
    let sound : Sound size after = wrote_sound size g to q.len more s (let c : length g.world.ram ≡ size = s.count in omega arith) in
    let count : length (big_bytes p.len value) ≡ p.len = length-bytes_high_first p.len value in
    let count' : length (big_bytes q.len more) ≡ q.len = length-bytes_high_first q.len more in
    let above : at ≤ to → at + p.len ≤ to = above_by f f' p.at q.at p.len q.len (piece_fits p lp.2) (piece_fits q l.2) l.2.0 apart in
    let below : to ≤ at → to + q.len ≤ at = above_by f' f q.at p.at q.len p.len (piece_fits q l.2) (piece_fits p lp.2) lp.2.0 (swapped p q apart) in
    let still : with_number g.world.ram at p.len value ≡ g.world.ram =
    ram_same (wrote_guest g at p.len value) g (Ok tt) (Ok tt) (sym (write_to size g space p value f s lp e) ∙ is) in
    subst (λ (r : Result (Unit {0}) Fault × Guest). Stands space size p value r.1) (sym (write_to size g space q more f' s l e')) (
      lp,
      may_p,
      write_to size after space p value f sound lp e
          ∙ ap (λ (m : List ℕ). (let r : Result (Unit {0}) Fault × Guest = (Ok tt, record g { world = record g.world { ram = m } }) in r))
          (over-stands g.world.ram (big_bytes p.len value) (big_bytes q.len more) at to (omega arith) (omega arith)
          (λ h. let k = above h in omega arith) (λ h. let k = below h in omega arith) still),
    )

-- ---- the guard

paired_by : {A : Type 0} (q : Result A Fault × Guest) (a : Result A Fault) (g : Guest) → q.0 ≡ a → q.1 ≡ g → q ≡ (a, g)
paired_by {A} q a g e h = ap (λ (o : Result A Fault). (let p : Result A Fault × Guest = (o, q.1) in p)) e
    ∙ ap (λ (k : Guest). (let p : Result A Fault × Guest = (a, k) in p)) h

opens : (space : Space) (size : ℕ) (begun : Guest) → OpensProbed (Sound size) (λ c (g : Guest). IsAttemptCall space 0 size c) held_bus
opens space size begun = record {
  call = λ c g s l. held_sound size space c g s l;
  probed = λ of p g place s l e.
      let here : of ≡ space = l.0 in
      let l' : IsAttemptCall space 0 size (Probe space p) = (refl, l.1, l.2) in
      let f : (held_bus (Probe space p) g).0 ≡ Ok place = subst (λ (of : Space). (held_bus (Probe of p) g).0 ≡ Ok place) here e in
      elim (cases_Bool (allows_call (Probe space p) g.shadow)) [
        | inl may ↦ let (low, high, long) = probe_inside space size p g place s l' may f in ((λ u q. ((low, high), λ value. (low, high))), long)
        | inr may_not ↦ absurd (let (fault, is, same) = call_refused space size (Probe space p) g l' may_not in
            let z : Err fault ≡ Ok place = sym is ∙ f in let y : ⊥ = cc in y)
      ];
}

-- the fault of a refused line
line_fault : (space : Space) (at : ℕ) (line : List ℕ) (g : Guest) (fault : Fault) → allows g.shadow (writing_of space at) ≡ false
    → (held_bus (WriteLine space at line) g).0 ≡ Err fault → fault.at ≡ at
line_fault space at line g fault denied e =
    let r = writing_of space at in
    let is : Err fault ≡ Err (fault_of r 16 true) =
    sym e ∙ ap (λ (q : Result (Unit {0}) Fault × Guest). q.0) (held_not (allows g.shadow r) (plain_bus (WriteLine space at line) g) r 16 g denied) in
    let same : fault ≡ fault_of r 16 true = cc in ap (λ (f : Fault). f.at) same

pub held_guards : HeldGuards
held_guards space size begun = record {
  refuses = record { fault = λ c g l h. call_refused space size c g l h };
  opens = opens space size begun;
  fetches = λ at s q even lt. (refl, lt, even);
  reads = λ piece s q is. (refl, is.1, is.0);
  writes = λ piece value s q is. (refl, is.1, is.0);
  reads_lines = λ at s q is. (refl, is.1, is.0);
  writes_lines = λ at line s q is four. (refl, is.1, is.0, four);
  probes = λ piece s q is. (refl, is.1, is.0);
  words = λ at word s go e. fetched_small space size at word s go.0 go.1 go.2 e;
  lines = λ at line s go e. four_read space size at line s go.0 go.1 go.2 e;
  line_faults = λ at line s fault denied e. line_fault space at line s fault denied.2 e;
  still = λ c s r go u. held_leaves size space c s go.0 go.1 r ∙ u;
  reads_keep = λ c s d answer r go k.
      subst (λ (g : Guest). IsAttemptCall space 0 size d × (allows_call d g.shadow ≡ true)
      × (held_bus d g ≡ (answer, g))) (sym (held_leaves size space c s go.0 go.1 r)) k;
  writes_keep = λ p q value more s apart go k. stands_beside space size p q value more s apart go.0 go.1 go.2 k;
  read_again = λ piece value s go e.
      let same = held_leaves size space (Read space piece) s go.0 go.1 tt in
      subst (λ (g : Guest). IsAttemptCall space 0 size (Read space piece) × (allows_call (Read space piece) g.shadow ≡ true)
      × (held_bus (Read space piece) g ≡ (Ok value, g))) (sym same)
      (go.1, go.2, paired_by (held_bus (Read space piece) s) (Ok value) s e same);
  written_again = λ piece value s go e. stands_again space size piece value s go.0 go.1 go.2;
}
