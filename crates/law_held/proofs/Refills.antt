-- An attempt that begins again once the read that it was denied is filled and put.
use Rattle.std.proofs.Common.{◌≡◌, ◌⊎◌, ◌∙◌, ℕ, ◌+◌, ◌*◌, ◌%◌, ◌^◌, ◌<◌, ◌&&◌, not, Bool, true, false, cond, length, refl, ap, sym, subst, arith}
use Rattle.std.proofs.Common.{inl, inr, Option, Some, None, Result, Ok, Err, List}
use Rattle.std.specs.Prelude.{is_none}
use Rattle.std.specs.Str.{bytes_eq}
use Rattle.std.proofs.lemmas.Bool.{cases_Bool}
use Rattle.std.proofs.lemmas.Option.{same_Some}
use Rattle.std.proofs.lemmas.Slice.Eq.{bytes_eq-Decides}
use Rattle.mb_port.specs.Routine.{Call, Routine, run, Fetch, Read, Write, ReadLine, WriteLine, Probe, Get, Put, ReadMmu, SetMmu, FlushKept, Test, ResetDevices}
use Rattle.mb_port.specs.declared.types.Space.{Space}
use Rattle.mb_port.specs.declared.types.Fault.{Fault}
use Rattle.law_routines.specs.Alike.{Meets}
use Rattle.law_routines.specs.Between.{between}
use Rattle.law_routines.specs.Refusal.{IsFault, Fact, Told}
use Rattle.law_routines.specs.Twin.{Twin, Results}
use Rattle.law_routines.specs.Until.{Until, Ended, Stopped, first_call, finish, run_until, AtRefused, AlongUntil}
use Rattle.law_routines.proofs.Finished.{finish_until, stops_at_refused}
use Rattle.law_routines.proofs.Simulated.{simulates, met_meets}
use Rattle.mb_instr.specs.declared.instruction.Instr.{Instr}
use Rattle.mb_instr.specs.declared.instruction.Instr.TheVariants as instr
use Rattle.mb_instr.specs.declared.registers.Plain.{Plain}
use Rattle.mb_instr.specs.Codes.{IsInstr}
use Rattle.mb_ea.specs.declared.reading.ReadFault.{ReadFault}
use Rattle.mb_writes.specs.declared.transfers.Movem.{Movem}
use Rattle.mb_writes.specs.declared.ends.Ended.{Ended as End}
use Rattle.mb_writes.specs.declared.ends.Ended.TheVariants as ended
use Rattle.def_instructions.specs.Ends.{Carried as Done, OtherEnd as Stop, Performed}
use Rattle.def_instructions.specs.Rows.{perform_of}
use Rattle.def_instructions.specs.Attempt.{Unfound, NoInstruction, Unfetched, FoundInstr, fetched_of, past}
use Rattle.law_attempts.proofs.Attempts.{attempts_perform, attempts_find_none}
use Rattle.law_twins.specs.Twins.{SamePerformed, MayRefuse}
use Rattle.law_twins.proofs.Step.{SameFound, SameUnfound, fetched_twins, perform_twins}
use Rattle.law_tells.specs.Left.{Answered, LeftBy}
use Rattle.law_tells.specs.Laws.{HasLongs, moves}
use Rattle.law_tells.proofs.Step.{FoundLeft, fetched_tells, perform_tells}
use Rattle.mb_model.specs.Keeping.{rule_k}
use Rattle.mb_model.specs.Pages.{page_of}
use Rattle.mb_model.specs.declared.kept.Kept.{Kept}
use Rattle.mb_model.proofs.ApartLemmas.{both}
use Rattle.mb_walk.specs.declared.found.Found.{Found as Sought}
use Rattle.mb_walk.specs.declared.found.Found.TheVariants.{Entry, Invalid, BusError}
use Rattle.def_machine.specs.declared.reference.Reference.{Reference}
use Rattle.def_machine.specs.declared.reference.Settled.{Settled}
use Rattle.def_machine.specs.declared.reference.Settled.TheVariants.{To, Refused, Unsettled}
use Rattle.def_machine.specs.World.{World}
use Rattle.def_machine.specs.Places.{taken, taken_line}
use Rattle.def_machine.specs.Access.{search_for, settled, by_found, by_settled, translated}
use Rattle.def_machine.specs.Bus.{fetching_of, reading_of, writing_of, reference_of, fault_of, read_at}
use Rattle.vm_shadow.specs.Shadows.{Shadowed, is_at, nothing, room_for, with_page_put}
use Rattle.vm_shadow.specs.Slots.{is_full_for}
use Rattle.vm_shadow.proofs.Held.{at_is, at_self}
use Rattle.def_guests.specs.Guests.{Guest, lets, allows, allows_any, allows_call, placed_at, IsReference}
use Rattle.def_guests.specs.Bus.{gone, without_kept, is_split, is_in_ram, is_writable, puts_entry, put_entry_of, accessed, guest_bus}
use Rattle.def_guests.specs.Held.{plain_bus, or_refused, held_bus}
use Rattle.def_guests.specs.Refills.{told_by, read_in, denied_read, shows_nothing, can_refill, after_access, refilled_at}
use Rattle.def_guests.proofs.Judged.{allowed_accesses_are_still}
use Rattle.law_held.specs.Lawful.{IsAttemptCall}
use Rattle.law_held.specs.Sound.{Sound, held_guard}
use Rattle.law_held.specs.Denied.{HasNone, IsFaultless, IsFound, by_held, by_guest}
use Rattle.law_held.specs.Truth.{Fine}
use Rattle.law_held.specs.Refills.{IsAhead, IsUnprivileged, BeginsAgain, AttemptsBeginAgain}
use Rattle.law_held.proofs.Keys.{contradicts, is_not}
use Rattle.law_held.proofs.Allowed.{held_not}
use Rattle.law_held.proofs.Again.{held_guards}
use Rattle.law_held.proofs.Holding.{Led, led}
use Rattle.law_held.proofs.Stages.{translated_by}
use Rattle.law_held.proofs.Accesses.{Carried}
use Rattle.law_held.proofs.Puts.{access_carried, accesses_keep_truth}
use Rattle.law_held.proofs.Own.{Beside, held_alike, same_over}
use Rattle.law_held.proofs.Clean.{faultless, performed_clean}
use Rattle.law_held.proofs.Rows.{Alone, stands_alone, fetches_go_on}
use Rattle.law_held.proofs.Ahead.{More, moved, first_same, Ahead, ahead_alike, AtStop, holds_at_stop, ended_at, stopped_at}

-- ---- the read that was denied

same_fault : {A : Type 0} (b : Bool) (q : Result A Fault × Guest) (r : Reference) (len : ℕ) (g : Guest) (f : Fault) → b ≡ false
    → (or_refused b q r len g).0 ≡ Err f → told_by f ≡ r
same_fault {A} b q r len g f denied e =
    let is : Err (fault_of r len true) ≡ Err f = sym (ap (λ (a : Result A Fault × Guest). a.0) (held_not b q r len g denied)) ∙ e in
    let same : fault_of r len true ≡ f = cc in sym (ap told_by same)

some_reference : (r s : Reference) → s ≡ r → (let o : Option Reference = Some r in o) ≡ Some s
some_reference r s e = ap (λ (x : Reference). (let o : Option Reference = Some x in o)) (sym e)

-- the fault of a call that is not allowed tells its reference
pub call_told : (space : Space) (size : ℕ) (c : Call) (g : Guest) (f : Fault) → IsAttemptCall space 0 size c → allows_call c g.shadow ≡ false
    → IsFault c ((held_bus c g).0) f → reference_of c ≡ Some (told_by f)
call_told space size (Fetch of at) g f l h e =
    some_reference (fetching_of of at) (told_by f) (same_fault (allows g.shadow (fetching_of of at)) (plain_bus (Fetch of at) g) (fetching_of of at) 2 g f h e)
call_told space size (Read of p) g f l h e =
    some_reference (reading_of of p.at) (told_by f)
    (same_fault (allows g.shadow (reading_of of p.at)) (plain_bus (Read of p) g) (reading_of of p.at) p.len g f h e)
call_told space size (Write of p value) g f l h e =
    some_reference (writing_of of p.at) (told_by f)
    (same_fault (allows g.shadow (writing_of of p.at)) (plain_bus (Write of p value) g) (writing_of of p.at) p.len g f h e)
call_told space size (ReadLine of at) g f l h e =
    some_reference (reading_of of at) (told_by f) (same_fault (allows g.shadow (reading_of of at)) (plain_bus (ReadLine of at) g) (reading_of of at) 16 g f h e)
call_told space size (WriteLine of at line) g f l h e =
    some_reference (writing_of of at) (told_by f)
    (same_fault (allows g.shadow (writing_of of at)) (plain_bus (WriteLine of at line) g) (writing_of of at) 16 g f h e)
call_told space size (Probe of p) g f l h e =
    some_reference (writing_of of p.at) (told_by f)
    (same_fault (allows g.shadow (writing_of of p.at)) (plain_bus (Probe of p) g) (writing_of of p.at) p.len g f h e)
call_told space size (Get place) g f l h e = absurd e
call_told space size (Put place value) g f l h e = absurd e
call_told space size ReadMmu g f l h e = absurd e
call_told space size (SetMmu which value) g f l h e = absurd e
call_told space size (FlushKept what) g f l h e = absurd e
call_told space size (Test of at write) g f l h e = absurd e
call_told space size ResetDevices g f l h e = absurd e

-- ---- what is known of a read that is refilled

pub record Refillable (g : Guest) (r : Reference) : Type 0 where
  pub reads : r.write ≡ false
  pub place : ℕ
  pub leads : (translated rule_k r g.world).0 ≡ Some place
  pub in_ram : is_in_ram (length (translated rule_k r g.world).1.ram) place ≡ true
  pub whole : is_split (translated rule_k r g.world).1.mmu r.space (page_of r.at) ≡ false
  pub still : (translated rule_k r g.world).1.ram ≡ g.world.ram
  pub none : gone g.world r ≡ None
  pub room : is_full_for r.space (page_of r.at) g.shadow.tables ≡ false

none_is : (o : Option Kept) → is_none o ≡ true → o ≡ None
none_is None h = refl
none_is (Some k) h = absurd (let z : ⊥ = cc in z)

by_place : (g : Guest) (r : Reference) → r.write ≡ false → (t : Option ℕ × World) → translated rule_k r g.world ≡ t → shows_nothing g r t ≡ true
    → Refillable g r
by_place g r reads (None, w) e h = absurd (let z : false ≡ true = h in let y : ⊥ = cc in y)
by_place g r reads (Some at, w) e h =
    let split = not (is_split w.mmu r.space (page_of r.at)) in
    let same = bytes_eq w.ram g.world.ram in
    let none = is_none (gone g.world r) in
    let room = not (is_full_for r.space (page_of r.at) g.shadow.tables) in
    let (a, h1) = both (is_in_ram (length w.ram) at) (split && (same && (none && room))) h in
    let (b, h2) = both split (same && (none && room)) h1 in
    let (c, h3) = both same (none && room) h2 in
    let (d, f) = both none room h3 in
    let back = sym e in record {
      reads = reads;
      place = at;
      leads = ap (λ (t : Option ℕ × World). t.0) e;
      in_ram = subst (λ (t : Option ℕ × World). is_in_ram (length t.1.ram) at ≡ true) back a;
      whole = subst (λ (t : Option ℕ × World). is_split t.1.mmu r.space (page_of r.at) ≡ false) back (is_not (is_split w.mmu r.space (page_of r.at)) b);
      still = subst (λ (t : Option ℕ × World). t.1.ram ≡ g.world.ram) back ((bytes_eq-Decides w.ram g.world.ram).0 c);
      none = none_is (gone g.world r) d;
      room = is_not (is_full_for r.space (page_of r.at) g.shadow.tables) f;
    }

pub refillable : (g : Guest) (r : Reference) → can_refill g r ≡ true → Refillable g r
refillable g r h =
    let (a, b) = both (not r.write) (shows_nothing g r (translated rule_k r g.world)) h in
    by_place g r (is_not r.write a) (translated rule_k r g.world) refl b

-- ---- the guest behind it

-- nothing of the world changes but RAM and what is kept
abbrev OnlyKept : World → World → Type 0
OnlyKept w v = v ≡ record w { ram = v.ram; kept = v.kept }

found_only : (w : World) (r : Reference) (ram : List ℕ) (f : Sought) → OnlyKept w (by_found rule_k (record w { ram = ram }) r f).1
found_only w r ram (Entry k status) = refl
found_only w r ram Invalid = refl
found_only w r ram BusError = refl

settled_only : (w : World) (r : Reference) (s : Settled) → OnlyKept w (by_settled rule_k w r s).1
settled_only w r (To at) = refl
settled_only w r Refused = refl
settled_only w r Unsettled =
    let s = search_for w r in found_only w r s.ram s.found

access_only : (w : World) (r : Reference) → OnlyKept w (translated rule_k r w).1
access_only w r = subst (λ (t : Option ℕ × World). OnlyKept w t.1) (sym (translated_by rule_k w r (settled rule_k w.mmu w.kept r) refl))
    (settled_only w r (settled rule_k w.mmu w.kept r))

module _ (size : ℕ) (g : Guest) (r : Reference) (is : IsReference r) (fine : Fine size g) (denied : allows g.shadow r ≡ false) (can : Refillable g r) where
  abbrev after : World
  after = (translated rule_k r g.world).1

  abbrev page : ℕ
  page = page_of r.at

  abbrev h : Guest
  h = after_access r g

  abbrev writable : Bool
  writable = is_writable after r.space page

  abbrev new : Shadowed
  new = with_page_put r.space page (page_of can.place) writable g.shadow

  put_there : puts_entry after r g.shadow can.place ≡ true
  put_there = rw (can.in_ram, can.whole, denied) refl

  shadow_is : h.shadow ≡ new
  shadow_is =
      ap (λ (k : Option Kept). put_entry_of after r (without_kept k g.shadow) (translated rule_k r g.world).0) can.none
      ∙ ap (put_entry_of after r g.shadow) can.leads
      ∙ ap (λ (b : Bool). cond b new g.shadow) put_there

  entry_is : h.shadow.entries r.space page ≡ Some (page_of can.place, writable)
  entry_is = ap (λ (s : Shadowed). s.entries r.space page) shadow_is
      ∙ ap (λ (b : Bool). cond b (Some (page_of can.place, writable)) ((room_for r.space page g.shadow).entries r.space page)) (at_self r.space page)

  -- the page of a read that was denied had no entry
  no_entry_there : (entry : ℕ × Bool) → g.shadow.entries r.space page ≡ Some entry → ⊥
  no_entry_there entry e =
      let z : allows g.shadow r ≡ true = ap (λ (o : Option (ℕ × Bool)). lets o r.write) e ∙ ap (λ (w : Bool). lets (Some entry) w) can.reads in
      contradicts (allows g.shadow r) z denied

  more : More g.shadow h.shadow
  more space number entry e = elim (cases_Bool (is_at r.space page space number)) [
    | inl here ↦
        let (s, p) = at_is r.space page space number here in
        absurd (no_entry_there entry (ap (λ (x : Space). g.shadow.entries x page) (sym s) ∙ ap (g.shadow.entries space) (sym p) ∙ e))
    | inr other ↦
        ap (λ (s : Shadowed). s.entries space number) shadow_is
        ∙ ap (λ (b : Bool). cond b (Some (page_of can.place, writable)) ((room_for r.space page g.shadow).entries space number)) other
        ∙ ap (λ (b : Bool). (cond b nothing g.shadow).entries space number) can.room ∙ e
  ]

  pub is_ahead : IsAhead size g h
  is_ahead = record {
    fine = accesses_keep_truth size r g fine;
    world = access_only g.world r ∙ ap (λ (ram : List ℕ). record g.world { ram = ram; kept = after.kept }) can.still;
    more = more;
  }

  -- ---- the same access again

  carried : Carried after r can.place
  carried =
      let s = settled rule_k g.world.mmu g.world.kept r in
      let t = translated_by rule_k g.world r s refl in
      subst (λ (w : World). Carried w r can.place) (sym (ap (λ (t : Option ℕ × World). t.1) t))
      (access_carried size g r fine s refl can.place (sym (ap (λ (t : Option ℕ × World). t.0) t) ∙ can.leads))

  own_place : placed_at (page_of can.place) r.at ≡ can.place
  own_place = elim carried [
    | inl (protected, u, e) ↦ let x : can.place ≡ r.at = e in omega arith
    | inr (k, u, found, may, e) ↦ let x : can.place ≡ 4096 * k.frame + r.at % 4096 = e in omega arith
  ]

  allowed_there : allows h.shadow r ≡ true
  allowed_there = ap (λ (o : Option (ℕ × Bool)). lets o r.write) entry_is
      ∙ ap (λ (w : Bool). lets (Some (page_of can.place, writable)) w) can.reads

  leads_again : translated rule_k r after ≡ translated rule_k r g.world
  leads_again =
      let there : Led size h r.code r.space r.at r.write = led size h r.code r.space r.at r.write is_ahead.fine.sound.truthful is allowed_there in
      let frame : there.frame ≡ page_of can.place =
      let a : ℕ × Bool = (there.frame, there.writable) in let b : ℕ × Bool = (page_of can.place, writable) in
      ap (λ (p : ℕ × Bool). p.0) (same_Some a b (sym there.entry ∙ entry_is)) in
      there.leads
      ∙ ap (λ (p : ℕ). (let t : Option ℕ × World = (Some p, after) in t)) (ap (λ (f : ℕ). placed_at f r.at) frame ∙ own_place)
      ∙ ap (λ (o : Option ℕ). (let t : Option ℕ × World = (o, after) in t)) (sym can.leads)

  still_there : accessed r after h.shadow ≡ h.shadow
  still_there = (allowed_accesses_are_still size h r is_ahead.fine.sound.truthful is allowed_there).shadow

  abbrev By : {A : Type 0} → (Option ℕ → World → Result A Fault × World) → World → Shadowed → Result A Fault × Guest
  By f w shadow = let t = translated rule_k r w in ((f t.0 t.1).0, record { world = (f t.0 t.1).1; shadow = accessed r w shadow })

  by_again : {A : Type 0} (f : Option ℕ → World → Result A Fault × World) → By f g.world g.shadow ≡ By f after h.shadow
  by_again {A} f =
      sym (ap (λ (t : Option ℕ × World). (let q : Result A Fault × Guest =
      ((f t.0 t.1).0, record { world = (f t.0 t.1).1; shadow = accessed r after h.shadow }) in q))
      leads_again
      ∙ ap (λ (s : Shadowed). (let t = translated rule_k r g.world in let q : Result A Fault × Guest =
      ((f t.0 t.1).0, record { world = (f t.0 t.1).1; shadow = s }) in q)) still_there)

-- the call that was denied does the same once it is
abbrev Again : ℕ → Call → Guest → Reference → Type 0
Again size c g r = IsReference r → Fine size g → allows g.shadow r ≡ false → Refillable g r → guest_bus c g ≡ guest_bus c (after_access r g)

no_write : (size : ℕ) (c : Call) (g : Guest) (r : Reference) → r.write ≡ true → Again size c g r
no_write size c g r w is fine denied can = contradicts r.write w can.reads

call_again : (size : ℕ) (c : Call) (g : Guest) (r : Reference) → reference_of c ≡ Some r → Again size c g r
call_again size (Fetch of at) g r e =
    subst (Again size (Fetch of at) g) (same_Some (fetching_of of at) r e)
    (λ is fine denied can. by_again size g (fetching_of of at) is fine denied can (read_at (fetching_of of at) 2 taken))
call_again size (Read of p) g r e =
    subst (Again size (Read of p) g) (same_Some (reading_of of p.at) r e)
    (λ is fine denied can. by_again size g (reading_of of p.at) is fine denied can (read_at (reading_of of p.at) p.len taken))
call_again size (ReadLine of at) g r e =
    subst (Again size (ReadLine of at) g) (same_Some (reading_of of at) r e)
    (λ is fine denied can. by_again size g (reading_of of at) is fine denied can (read_at (reading_of of at) 16 taken_line))
call_again size (Write of p value) g r e = no_write size (Write of p value) g r (sym (ap (λ (s : Reference). s.write) (same_Some (writing_of of p.at) r e)))
call_again size (WriteLine of at line) g r e =
    no_write size (WriteLine of at line) g r (sym (ap (λ (s : Reference). s.write) (same_Some (writing_of of at) r e)))
call_again size (Probe of p) g r e = no_write size (Probe of p) g r (sym (ap (λ (s : Reference). s.write) (same_Some (writing_of of p.at) r e)))
call_again size (Get place) g r e = absurd (let z : ⊥ = cc in z)
call_again size (Put place value) g r e = absurd (let z : ⊥ = cc in z)
call_again size ReadMmu g r e = absurd (let z : ⊥ = cc in z)
call_again size (SetMmu which value) g r e = absurd (let z : ⊥ = cc in z)
call_again size (FlushKept what) g r e = absurd (let z : ⊥ = cc in z)
call_again size (Test of at write) g r e = absurd (let z : ⊥ = cc in z)
call_again size ResetDevices g r e = absurd (let z : ⊥ = cc in z)

is_reference : (c : Call) (r : Reference) → reference_of c ≡ Some r → IsReference r
is_reference (Fetch of at) r e = subst IsReference (same_Some (fetching_of of at) r e) (λ w. absurd (let z : ⊥ = cc in z))
is_reference (Read of p) r e = subst IsReference (same_Some (reading_of of p.at) r e) (λ w. refl)
is_reference (Write of p value) r e = subst IsReference (same_Some (writing_of of p.at) r e) (λ w. refl)
is_reference (ReadLine of at) r e = subst IsReference (same_Some (reading_of of at) r e) (λ w. refl)
is_reference (WriteLine of at line) r e = subst IsReference (same_Some (writing_of of at) r e) (λ w. refl)
is_reference (Probe of p) r e = subst IsReference (same_Some (writing_of of p.at) r e) (λ w. refl)
is_reference (Get place) r e = absurd (let z : ⊥ = cc in z)
is_reference (Put place value) r e = absurd (let z : ⊥ = cc in z)
is_reference ReadMmu r e = absurd (let z : ⊥ = cc in z)
is_reference (SetMmu which value) r e = absurd (let z : ⊥ = cc in z)
is_reference (FlushKept what) r e = absurd (let z : ⊥ = cc in z)
is_reference (Test of at write) r e = absurd (let z : ⊥ = cc in z)
is_reference ResetDevices r e = absurd (let z : ⊥ = cc in z)

-- whether a call is allowed is whether its reference is
denied_reference : (c : Call) (shadow : Shadowed) (r : Reference) → reference_of c ≡ Some r → allows_call c shadow ≡ false → allows shadow r ≡ false
denied_reference c shadow r e h = sym (ap (allows_any shadow) e) ∙ h

-- ---- where a routine is refused a call

abbrev Allowed : Call → Guest → Bool
Allowed c g = allows_call c g.shadow

abbrev Calls : Space → ℕ → Call → Guest → Type 0
Calls space size c g = IsAttemptCall space 0 size c

-- the fault value that it ended with, of which the fact holds, and the call
pub record Denied {A E : Type 0} (space : Space) (size : ℕ) (fact : Fact Guest A E) (held : Result A E) : Type 1 where
  pub rest : Routine (Result A E)
  pub now : Guest
  pub value : E
  pub ended : held ≡ Err value
  pub told : fact rest now value
  pub call : Call
  pub first : first_call rest ≡ Some call
  pub lawful : IsAttemptCall space 0 size call
  pub refused : allows_call call now.shadow ≡ false

-- a routine that tells, from this guest on
pub record Telling {A E : Type 0} (space : Space) (size : ℕ) (g : Guest) (m : Routine (Result A E)) (fact : Fact Guest A E) (after : A → Guest → Type 0)
    (Rel : Result A E → Result A E → Type 0) : Type 1 where
  pub free : Bool
  pub told : Told (λ (a : Guest) b. b ≡ a) held_bus fact after (run_until Allowed held_bus m g)
  pub along : AlongUntil (Calls space size) Allowed held_bus m g
  pub twins : Twin (between (faultless free space)) (Result A E) (Result A E) Rel m m

module _ {A E : Type 0} (space : Space) (size : ℕ) (g : Guest) (m : Routine (Result A E)) (fact : Fact Guest A E) (after : A → Guest → Type 0)
    (Rel : Result A E → Result A E → Type 0) where
  abbrev Held : Result A E × Guest
  Held = run held_bus m g

  abbrev Denial : Type 1
  Denial = Denied space size fact Held.0

  -- what is known of how far the held one came
  abbrev Known : Until Guest (Result A E) → Type 0
  Known u = Told (λ (a : Guest) b. b ≡ a) held_bus fact after u × Alone Rel u × AtRefused Allowed u
      × AtStop u (λ (rest : Routine (Result A E)) (t : Guest). (c : Call) → first_call rest ≡ Some c → IsAttemptCall space 0 size c)
      × (finish held_bus u ≡ Held)

  abbrev denial : (rest : Routine (Result A E)) (t : Guest) → Known (Stopped rest t) → Denial
  denial rest t ((y, last, told, run_is, same), clean, (c, first, refusal), lawful, e) = record {
    rest = rest;
    now = t;
    value = y;
    ended = ap (λ (q : Result A E × Guest). q.0) (sym e ∙ run_is);
    told = told;
    call = c;
    first = first;
    lawful = lawful c first;
    refused = refusal;
  }

  clean_or : (u : Until Guest (Result A E)) → Known u → Rel Held.0 Held.0 ⊎ Denial
  clean_or (Ended a t) (told, clean, refusal, lawful, e) = inl (subst (λ (q : Result A E × Guest). Rel q.0 q.0) e clean)
  clean_or (Stopped rest t) known = inr (denial rest t known)

  known : Telling space size g m fact after Rel → Sound size g → Known (run_until Allowed held_bus m g)
  known t s = (
    t.told,
    stands_alone t.free space size Rel m t.twins g s t.along,
    stops_at_refused Allowed held_bus m g,
    holds_at_stop (Calls space size) Allowed held_bus m g t.along,
    finish_until Allowed held_bus m g,
  )

  pub clean_or_denied : Telling space size g m fact after Rel → Sound size g → Rel Held.0 Held.0 ⊎ Denial
  clean_or_denied t s = clean_or (run_until Allowed held_bus m g) (known t s)

  -- ---- the same routine from the guest behind the refill

  module _ (r : Reference) (is : IsReference r) (fine : Fine size g) (denied : allows g.shadow r ≡ false) (can : Refillable g r) where
    abbrev later : Guest
    later = after_access r g

    ahead : IsAhead size g later
    ahead = is_ahead size g r is fine denied can

    later_is : later ≡ moved later.world.kept later.shadow g
    later_is = ap (λ (w : World). (let h : Guest = record { world = w; shadow = later.shadow } in h)) ahead.world

    starts : Ahead size later.world.kept later.shadow g.shadow g later
    starts = record { sound = fine.sound; there = subst (Sound size) later_is ahead.fine.sound; same = refl; is = later_is }

    -- with other translations kept and another shadow
    abbrev moved_on : Guest → Guest
    moved_on s = moved later.world.kept later.shadow s

    -- Where it stops at the read that was denied, it does the same there; else it came to its end, and so it does there.
    abbrev Meant : Type 1
    Meant = (Denial × (run guest_bus m later ≡ run guest_bus m g))
        ⊎ (Rel Held.0 Held.0 × (run guest_bus m g ≡ Held) × (run guest_bus m later ≡ (Held.0, moved_on Held.1)))

    -- where it was refused a call, that is the read, and nothing has changed
    abbrev Tell : Type 1
    Tell = (d : Denial) → (reference_of d.call ≡ Some r) × (d.now ≡ g)

    meant_by : (u v w : Until Guest (Result A E)) → Known u → Meets (Beside size) u v → Meets (Ahead size later.world.kept later.shadow g.shadow) u w → Tell
        → finish guest_bus v ≡ run guest_bus m g → finish guest_bus w ≡ run guest_bus m later → Meant
    meant_by (Ended a s) (Ended b t) w (told, clean, refusal, lawful, e) (same, beside) other tell f k = inr (
      subst (λ (q : Result A E × Guest). Rel q.0 q.0) e clean,
      sym f ∙ ap (λ (x : Result A E). (let q : Result A E × Guest = (x, t) in q)) (sym same)
          ∙ ap (λ (x : Guest). (let q : Result A E × Guest = (a, x) in q)) (sym beside.0) ∙ e,
      sym k ∙ ended_at size later.world.kept later.shadow g.shadow a s w other
          ∙ ap (λ (q : Result A E × Guest). (let x : Result A E × Guest = (q.0, moved_on q.1) in x)) e,
    )
    meant_by (Ended a s) (Stopped n t) w all meets other tell f k = absurd meets
    meant_by (Stopped rest now) (Ended b t) w all meets other tell f k = absurd meets
    meant_by (Stopped rest now) (Stopped n t) w all (same, beside) other tell f k =
        let d : Denial = denial rest now all in
        let (told, begun) = tell d in
        let stop : now ≡ g = begun in inl (
          d,
          sym k ∙ stopped_at size later.world.kept later.shadow g.shadow rest now w other
              ∙ ap (λ (x : Guest). run guest_bus rest (moved_on x)) stop ∙ ap (run guest_bus rest) (sym later_is)
              ∙ sym (first_same guest_bus rest d.call g later d.first (call_again size d.call g r told is fine denied can))
              ∙ ap (run guest_bus rest) (sym stop ∙ beside.0) ∙ same_over guest_bus rest n t same ∙ f,
        )

    pub meant : Telling space size g m fact after Rel → Tell → Meant
    meant t tell =
        let u = run_until Allowed held_bus m g in
        let v = run_until Allowed guest_bus m g in
        let w = run_until (λ c (h : Guest). allows_call c g.shadow) guest_bus m later in
        meant_by u v w (known t fine.sound) (met_meets u v (simulates (held_alike space size) m g g (refl, fine.sound) t.along))
        (met_meets u w (simulates (ahead_alike size later.world.kept later.shadow g.shadow ahead.more space) m g later starts t.along))
        tell (finish_until Allowed guest_bus m g) (finish_until (λ c (h : Guest). allows_call c g.shadow) guest_bus m later)

-- ---- what is refused is told

-- the fault is of the call that was refused
answered_told : {A : Type 0} (space : Space) (size : ℕ) (g now : Guest) (rest : Routine A) (c : Call) (f : Fault) → first_call rest ≡ Some c
    → IsAttemptCall space 0 size c → allows_call c now.shadow ≡ false → Answered (held_guard space size g) rest now f → reference_of c ≡ Some (told_by f)
answered_told space size g now rest c f first l refused (d, other, is) =
    let same : d ≡ c = same_Some d c (sym other ∙ first) in
    call_told space size c now f l refused (subst (λ (x : Call). IsFault x ((held_bus x now).0) f) same is)

-- of a refill: the read that was denied, and that it can be
refill_is : (g h : Guest) (r : Reference) → refilled_at g (Some r) ≡ Some h → (can_refill g r ≡ true) × (h ≡ after_access r g)
refill_is g h r e = elim (cases_Bool (can_refill g r)) [
  | inl can ↦ (can, sym (same_Some (after_access r g) h (sym (ap (λ (b : Bool). cond b (Some (after_access r g)) None) can) ∙ e)))
  | inr cannot ↦ absurd (let z : None ≡ Some h = sym (ap (λ (b : Bool). cond b (Some (after_access r g)) None) cannot) ∙ e in let y : ⊥ = cc in y)
]

pub some_read : (g h : Guest) (o : Option Reference) → refilled_at g o ≡ Some h → (r : Reference) × (o ≡ Some r)
some_read g h None e = absurd (let z : None ≡ Some h = e in let y : ⊥ = cc in y)
some_read g h (Some r) e = (r, refl)

faultless_end : (end : End) (r : Reference) → HasNone end → read_in end ≡ Some r → ⊥
faultless_end (ended.Done flow) r h e = let z : ⊥ = cc in z
faultless_end (ended.Trap vector) r h e = let z : ⊥ = cc in z
faultless_end (ended.Refused vector) r h e = let z : ⊥ = cc in z
faultless_end (ended.ReadFault refused) r h e = h
faultless_end (ended.WriteFault refused) r h e = h
faultless_end (ended.LineFault fault line) r h e = h
faultless_end (ended.Movem refused) r h e = h

faultless_reads_none : (q : Performed) (r : Reference) → IsFaultless q → denied_read q ≡ Some r → ⊥
faultless_reads_none (Ok done) r h e = let z : ⊥ = cc in z
faultless_reads_none (Err stop) r h e = faultless_end stop.ended r h e

-- the fault of a refused read, by what is left
left_read : (space : Space) (size : ℕ) (g now : Guest) (before after : Plain) (moves : Movem → Type 0) (rest : Routine Performed) (end : End) (r : Reference)
    (c : Call) → first_call rest ≡ Some c → IsAttemptCall space 0 size c → allows_call c now.shadow ≡ false
    → LeftBy (held_guard space size g) space before moves rest now end after → read_in end ≡ Some r → (reference_of c ≡ Some r) × (now ≡ g)
left_read space size g now before after moves rest (ended.ReadFault refused) r c first l no_leave (answered, again) e =
    (answered_told space size g now rest c refused.fault first l no_leave answered ∙ e, again.0)
left_read space size g now before after moves rest (ended.Done flow) r c first l no_leave left e = absurd left
left_read space size g now before after moves rest (ended.Trap vector) r c first l no_leave left e = absurd left
left_read space size g now before after moves rest (ended.Refused vector) r c first l no_leave left e = absurd left
left_read space size g now before after moves rest (ended.WriteFault refused) r c first l no_leave left e = absurd (let z : ⊥ = cc in z)
left_read space size g now before after moves rest (ended.LineFault fault line) r c first l no_leave left e = absurd (let z : ⊥ = cc in z)
left_read space size g now before after moves rest (ended.Movem refused) r c first l no_leave left e = absurd (let z : ⊥ = cc in z)

-- ---- a fetch

found_left : (space : Space) (size : ℕ) (g now : Guest) (rest : Routine FoundInstr) (y : Unfound) (f : ReadFault) (c : Call) → y ≡ Unfetched f
    → first_call rest ≡ Some c → IsAttemptCall space 0 size c → allows_call c now.shadow ≡ false → FoundLeft (held_guard space size g) rest now y
    → (reference_of c ≡ Some (told_by f.fault)) × (now ≡ g)
found_left space size g now rest (NoInstruction vector) f c e first l no_leave told = absurd told
found_left space size g now rest (Unfetched y) f c e first l no_leave (answered, unwritten) =
    let same : y ≡ f = cc in (
      answered_told space size g now rest c y.fault first l no_leave answered
          ∙ ap (λ (x : ReadFault). (let o : Option Reference = Some (told_by x.fault) in o)) same,
      unwritten,
    )

abbrev SameFetch : Space → FoundInstr → FoundInstr → Type 0
SameFetch space = Results SameFound (SameUnfound (faultless true space))

fetch_tells : (space : Space) (size pc : ℕ) (g : Guest) → pc < 2 ^ 32 → Sound size g
    → Telling space size g (fetched_of space pc) (FoundLeft (held_guard space size g)) (λ found h. (Sound size h × (h ≡ g)) × IsInstr found.0) (SameFetch space)
fetch_tells space size pc g lt s =
    let tells = fetched_tells (held_guard space size g) space (held_guards space size g) pc lt in record {
      free = true;
      told = tells.told g (s, refl);
      along = tells.lawfully g (s, refl);
      twins = fetched_twins (faultless true space) pc refl;
    }

row_tells : (space : Space) (size : ℕ) (i : Instr) (at : ℕ) (p : Plain) (g : Guest) → MayRefuse (faultless false space) i → IsInstr i → HasLongs p
    → Sound size g → Telling space size g (perform_of i at space p)
    (λ rest t stop. LeftBy (held_guard space size g) space p (moves i) rest t stop.ended stop.plain) (λ done h. Sound size h)
    (SamePerformed (faultless false space))
row_tells space size i at p g may is longs s =
    let tells = perform_tells (held_guard space size g) space (held_guards space size g) i at p is longs in record {
      free = false;
      told = tells.told g (s, refl);
      along = tells.lawfully g (s, refl);
      twins = perform_twins (faultless false space) i at p is may;
    }

-- an attempt is by its fetch
attempt_by_fetch : (space : Space) (p : Plain) (g h : Guest) → run guest_bus (fetched_of space p.pc) h ≡ run guest_bus (fetched_of space p.pc) g
    → by_guest space p h ≡ by_guest space p g
attempt_by_fetch space p g h e = by_found_one (run guest_bus (fetched_of space p.pc) g).0 refl
  where
    at : (f : FoundInstr) → (run guest_bus (fetched_of space p.pc) g).0 ≡ f
        → run guest_bus (fetched_of space p.pc) g ≡ (f, (run guest_bus (fetched_of space p.pc) g).1)
    at f same = ap (λ (x : FoundInstr). (let q : FoundInstr × Guest = (x, (run guest_bus (fetched_of space p.pc) g).1) in q)) same

    by_found_one : (f : FoundInstr) → (run guest_bus (fetched_of space p.pc) g).0 ≡ f → by_guest space p h ≡ by_guest space p g
    by_found_one (Ok (i, n)) same =
        attempts_perform guest_bus space p h (run guest_bus (fetched_of space p.pc) g).1 i n (e ∙ at (Ok (i, n)) same)
        ∙ sym (attempts_perform guest_bus space p g (run guest_bus (fetched_of space p.pc) g).1 i n (at (Ok (i, n)) same))
    by_found_one (Err unfound) same =
        attempts_find_none guest_bus space p h (run guest_bus (fetched_of space p.pc) g).1 unfound (e ∙ at (Err unfound) same)
        ∙ sym (attempts_find_none guest_bus space p g (run guest_bus (fetched_of space p.pc) g).1 unfound (at (Err unfound) same))

found_not_denied : (i : Instr) (n : ℕ) (k : FoundInstr) (y : Unfound) → k ≡ Ok (i, n) → k ≡ Err y → ⊥
found_not_denied i n k y e f = let z : (let o : FoundInstr = Ok (i, n) in o) ≡ Err y = sym e ∙ f in let w : ⊥ = cc in w

-- ---- an attempt

module _ (space : Space) (size : ℕ) (p : Plain) (g : Guest) (longs : HasLongs p) (lt : p.pc < 2 ^ 32) (fine : Fine size g) (r : Reference)
    (can : can_refill g r ≡ true) where
  abbrev Again_ : Guest → Type 0
  Again_ h = IsAhead size g h × BeginsAgain space p g h

  abbrev fetch : Routine FoundInstr
  fetch = fetched_of space p.pc

  abbrev FetchDenial : Type 1
  FetchDenial = Denied space size (FoundLeft (held_guard space size g)) (run held_bus fetch g).0

  abbrev Then_ : Guest
  Then_ = after_access r g

  refill : Refillable g r
  refill = refillable g r can

  -- a fetch was denied
  unfetched : (f : ReadFault) → (run held_bus fetch g).0 ≡ Err (Unfetched f) → told_by f.fault ≡ r → Again_ Then_
  unfetched f e same =
      let tells = fetch_tells space size p.pc g lt fine.sound in
      let told : (d : FetchDenial) → (reference_of d.call ≡ Some r) × (d.now ≡ g) = λ d.
      let value : d.value ≡ Unfetched f = (let z : Err d.value ≡ Err (Unfetched f) = sym d.ended ∙ e in let y : d.value ≡ Unfetched f = cc in y) in
      let (a, b) = found_left space size g d.now d.rest d.value f d.call value d.first d.lawful d.refused d.told in
      (a ∙ ap (λ (x : Reference). (let o : Option Reference = Some x in o)) same, b) in
      elim (clean_or_denied space size g fetch (FoundLeft (held_guard space size g)) _ (SameFetch space) tells fine.sound) [
        | inl clean ↦ absurd (unclean ((run held_bus fetch g).0) f e clean)
        | inr d ↦
            let (reference, begun) = told d in
            let is = is_reference d.call r reference in
            let denied : allows g.shadow r ≡ false =
            denied_reference d.call g.shadow r reference (ap (λ (x : Guest). allows_call d.call x.shadow) (sym begun) ∙ d.refused) in
            elim (meant space size g fetch (FoundLeft (held_guard space size g)) _ (SameFetch space) r is fine denied refill tells told) [
              | inl (stop, same_run) ↦ (
                is_ahead size g r is fine denied refill,
                record { attempt = attempt_by_fetch space p g Then_ same_run; fetch = inl same_run },
              )
              | inr (clean, own, other) ↦ absurd (unclean ((run held_bus fetch g).0) f e clean)
            ]
      ]
    where
      unclean : (k : FoundInstr) (f : ReadFault) → k ≡ Err (Unfetched f) → SameFetch space k k → ⊥
      unclean (Ok found) f e same = let z : ⊥ = cc in z
      unclean (Err (NoInstruction vector)) f e same = let z : ⊥ = cc in z
      unclean (Err (Unfetched refused)) f e same = let z : false ≡ true = same.fault.0 in let y : ⊥ = cc in y

  -- an instruction was found, and a read of its was denied
  module _ (i : Instr) (n : ℕ) (is_instr : IsInstr i) (may : MayRefuse (faultless false space) i) (un : IsUnprivileged i)
      (held_found : run held_bus fetch g ≡ (Ok (i, n), g)) (own_found : run guest_bus fetch g ≡ (Ok (i, n), g)) where
    abbrev row : Routine Performed
    row = perform_of i p.pc space (past n p)

    abbrev RowLeft : Fact Guest Done Stop
    RowLeft = λ rest t stop. LeftBy (held_guard space size g) space (past n p) (moves i) rest t stop.ended stop.plain

    row_denied : denied_read (run held_bus row g).0 ≡ Some r → Again_ Then_
    row_denied reads =
        let after = λ (done : Done) (h : Guest). Sound size h in
        let tells = row_tells space size i p.pc (past n p) g may is_instr longs fine.sound in
        let told : (d : Denied space size RowLeft (run held_bus row g).0) → (reference_of d.call ≡ Some r) × (d.now ≡ g) = λ d.
        let end : read_in d.value.ended ≡ Some r = sym (ap denied_read d.ended) ∙ reads in
        left_read space size g d.now (past n p) d.value.plain (moves i) d.rest d.value.ended r d.call d.first d.lawful d.refused d.told end in
        let unclean : SamePerformed (faultless false space) (run held_bus row g).0 (run held_bus row g).0 → ⊥ = λ clean.
        faultless_reads_none (run held_bus row g).0 r (performed_clean false space (run held_bus row g).0 clean) reads in
        elim (clean_or_denied space size g row RowLeft after (SamePerformed (faultless false space)) tells fine.sound) [
          | inl clean ↦ absurd (unclean clean)
          | inr d ↦
              let (reference, begun) = told d in
              let is = is_reference d.call r reference in
              let denied : allows g.shadow r ≡ false =
              denied_reference d.call g.shadow r reference (ap (λ (x : Guest). allows_call d.call x.shadow) (sym begun) ∙ d.refused) in
              let ahead = is_ahead size g r is fine denied refill in
              let stays : moved Then_.world.kept Then_.shadow g ≡ Then_ =
              sym (ap (λ (w : World). (let h : Guest = record { world = w; shadow = Then_.shadow } in h)) ahead.world) in
              let none : FetchDenial
              → ⊥ = λ f. found_not_denied i n (run held_bus fetch g).0 f.value (ap (λ (q : FoundInstr × Guest). q.0) held_found) f.ended in
              let found_there : run guest_bus fetch Then_ ≡ (Ok (i, n), Then_) =
              elim (meant space size g fetch (FoundLeft (held_guard space size g)) _ (SameFetch space) r is fine denied refill
              (fetch_tells space size p.pc g lt fine.sound) (λ f. absurd (none f))) [
                | inl (f, same) ↦ absurd (none f)
                | inr (clean, own, other) ↦
                    other ∙ ap (λ (q : FoundInstr × Guest). (let x : FoundInstr × Guest = (q.0, moved Then_.world.kept Then_.shadow q.1) in x)) held_found
                    ∙ ap (λ (h : Guest). (let x : FoundInstr × Guest = (Ok (i, n), h) in x)) stays
              ] in
              let same_row : run guest_bus row Then_ ≡ run guest_bus row g =
              elim (meant space size g row RowLeft after (SamePerformed (faultless false space)) r is fine denied refill tells told) [
                | inl (stop, same) ↦ same
                | inr (clean, own, other) ↦ absurd (unclean clean)
              ] in (
                ahead,
                record {
                  attempt = attempts_perform guest_bus space p Then_ Then_ i n found_there ∙ same_row
                      ∙ sym (attempts_perform guest_bus space p g g i n own_found);
                  fetch = inr (i, n, un, ap (λ (q : FoundInstr × Guest). q.0) own_found, ap (λ (q : FoundInstr × Guest). q.0) found_there);
                },
              )
        ]

  -- a privileged instruction is refused, and reads nothing
  by_instr : (i : Instr) (n : ℕ) → IsInstr i → run held_bus fetch g ≡ (Ok (i, n), g) → run guest_bus fetch g ≡ (Ok (i, n), g)
      → denied_read (run held_bus (perform_of i p.pc space (past n p)) g).0 ≡ Some r → Again_ Then_
  by_instr (instr.Move i) n is held own reads = row_denied (instr.Move i) n is tt tt held own reads
  by_instr (instr.Arith i) n is held own reads = row_denied (instr.Arith i) n is tt tt held own reads
  by_instr (instr.Flow i) n is held own reads = row_denied (instr.Flow i) n is tt tt held own reads
  by_instr (instr.System i) n is held own reads = absurd (let z : None ≡ Some r = reads in let y : ⊥ = cc in y)

  by_fetch : (f : FoundInstr) → run held_bus fetch g ≡ (f, g)
      → ((run guest_bus fetch g ≡ (f, g)) × IsFound f) ⊎ ((refused : ReadFault) × (f ≡ Err (Unfetched refused)))
      → denied_read (by_held space p g).0 ≡ Some r → Again_ Then_
  by_fetch (Ok (i, n)) held (inl (own, is)) reads =
      by_instr i n is held own (sym (ap (λ (q : Performed × Guest). denied_read q.0) (attempts_perform held_bus space p g g i n held)) ∙ reads)
  by_fetch (Ok (i, n)) held (inr (refused, is)) reads =
      absurd (let z : (let o : FoundInstr = Ok (i, n) in o) ≡ Err (Unfetched refused) = is in let y : ⊥ = cc in y)
  by_fetch (Err (NoInstruction vector)) held own reads =
      let none : None ≡ Some r =
      sym (ap (λ (q : Performed × Guest). denied_read q.0) (attempts_find_none held_bus space p g g (NoInstruction vector) held)) ∙ reads in
      absurd (let y : ⊥ = cc in y)
  by_fetch (Err (Unfetched refused)) held own reads =
      unfetched refused (ap (λ (q : FoundInstr × Guest). q.0) held)
      (same_Some (told_by refused.fault) r
      (sym (ap (λ (q : Performed × Guest). denied_read q.0) (attempts_find_none held_bus space p g g (Unfetched refused) held)) ∙ reads))

  pub attempt_again : denied_read (by_held space p g).0 ≡ Some r → Again_ Then_
  attempt_again reads =
      let (still, outcome) = fetches_go_on space size p.pc g lt fine.sound in
      let held = run held_bus fetch g in
      let at : held ≡ (held.0, g) = ap (λ (h : Guest). (let q : FoundInstr × Guest = (held.0, h) in q)) still in
      by_fetch held.0 at (elim outcome [
        | inl (own, is) ↦ inl (own ∙ at, is)
        | inr refused ↦ inr refused
      ]) reads

pub attempts_begin_again : AttemptsBeginAgain
attempts_begin_again space size p g h longs lt fine e =
    let (r, reads) = some_read g h (denied_read (by_held space p g).0) e in
    let (can, is) = refill_is g h r (sym (ap (refilled_at g) reads) ∙ e) in
    subst (λ (x : Guest). IsAhead size g x × BeginsAgain space p g x) (sym is) (attempt_again space size p g longs lt fine r can reads)
