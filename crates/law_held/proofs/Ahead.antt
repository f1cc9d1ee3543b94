-- A guest beside one that keeps other translations and whose shadow has more entries.
use Rattle.std.proofs.Common.{◌≡◌, ℕ, ◌^◌, ◌<◌, Bool, true, false, refl, ap, sym, ◌∙◌, subst, Option, Some, None, Result}
use Rattle.std.proofs.lemmas.Option.{same_Some}
use Rattle.mb_port.specs.Routine.{Call, Answer, Routine, Return, Ask, Then, Bus, run, Fetch, Read, Write, ReadLine, WriteLine, Probe, Get, Put, ReadMmu}
use Rattle.mb_port.specs.Routine.{SetMmu, FlushKept, Test, ResetDevices}
use Rattle.mb_port.specs.declared.types.Space.{Space}
use Rattle.mb_port.specs.declared.types.Fault.{Fault}
use Rattle.law_routines.specs.Alike.{Alike, Meets}
use Rattle.law_routines.specs.Until.{Until, Ended, Stopped, then_until, ask_until, run_until, finish, first_call, GoesOn, AlongUntil}
use Rattle.mb_model.specs.Keeping.{KeptLists, rule_k}
use Rattle.mb_model.specs.Pages.{page_of}
use Rattle.def_machine.specs.declared.reference.Reference.{Reference}
use Rattle.def_machine.specs.World.{World}
use Rattle.def_machine.specs.Places.{taken, stored, checked, taken_line, stored_line}
use Rattle.def_machine.specs.Access.{translated}
use Rattle.def_machine.specs.Bus.{fetching_of, reading_of, writing_of, reference_of, read_at, written_at}
use Rattle.def_runs.proofs.Blind.{IsBlind, taken-blind, taken_line-blind, checked-blind, read-blind, stored-blind, stored_line-blind, write-blind, get-blind}
use Rattle.def_runs.proofs.Blind.{put-blind}
use Rattle.vm_shadow.specs.Shadows.{Shadowed}
use Rattle.def_guests.specs.Guests.{Guest, ref, lets, allows, allows_any, allows_call, placed_at}
use Rattle.def_guests.specs.Bus.{guest_bus}
use Rattle.def_guests.specs.Held.{or_refused, held_bus}
use Rattle.law_held.specs.Lawful.{IsAttemptCall}
use Rattle.law_held.specs.Sound.{Sound}
use Rattle.law_held.proofs.Allowed.{guest_access, of_guest, held_is}
use Rattle.law_held.proofs.Holding.{Led, led, held_sound}
use Rattle.law_held.proofs.Keeps.{held_keeps}
use Rattle.law_held.proofs.Own.{guest_is_held, same_over}

-- ---- a routine's first call

-- Where the call that it begins with does the same in two states, a routine does.
pub first_same : {S A : Type 0} (bus : Bus S) (m : Routine A) (c : Call) (s t : S) → first_call m ≡ Some c → bus c s ≡ bus c t → run bus m s ≡ run bus m t
first_same bus (Return a) c s t e h = absurd (let z : None ≡ Some c = e in let y : ⊥ = cc in y)
first_same bus (Ask d) c s t e h = subst (λ (d : Call). bus d s ≡ bus d t) (sym (same_Some d c e)) h
first_same {S = S} bus (Then {A = A} m f) c s t e h = ap (λ (q : A × S). run bus (f q.0) q.1) (first_same bus m c s t e h)

-- ---- another list and another shadow

abbrev pub moved : KeptLists → Shadowed → Guest → Guest
moved kept shadow s = record { world = record s.world { kept = kept }; shadow = shadow }

-- a shadow with all entries of another
abbrev pub More : Shadowed → Shadowed → Type 0
More shadow other = (space : Space) (page : ℕ) (entry : ℕ × Bool) → shadow.entries space page ≡ Some entry → other.entries space page ≡ Some entry

-- an answer, with the same of the state
abbrev pub answer_moved : {A : Type 0} → KeptLists → Shadowed → A × Guest → A × Guest
answer_moved kept shadow q = (q.0, moved kept shadow q.1)

-- an access through its translation
abbrev Through : Type 0 → Type 0
Through A = Option ℕ → World → Result A Fault × World

abbrev held_through : {A : Type 0} → Guest → Reference → ℕ → Through A → Result A Fault × Guest
held_through g r len f = or_refused (allows g.shadow r) (of_guest g (f (translated rule_k r g.world).0 (translated rule_k r g.world).1)) r len g

module _ (size : ℕ) (kept : KeptLists) (shadow : Shadowed) where
  access_moved : {A : Type 0} (s : Guest) (code : Bool) (space : Space) (at : ℕ) (write : Bool) (len : ℕ) (f : Through A) → ((o : Option ℕ) → IsBlind (f o))
      → Sound size s → Sound size (moved kept shadow s) → More s.shadow shadow → at < 2 ^ 32 → (write ≡ true → code ≡ false)
      → allows s.shadow (ref code space at write) ≡ true
      → let r = ref code space at write in
      held_through (moved kept shadow s) r len f ≡ answer_moved kept shadow (held_through s r len f)
  access_moved {A} s code space at write len f blind sound there more l side may =
      let r = ref code space at write in
      let t = moved kept shadow s in
      let here : Led size s code space at write = led size s code space at write sound.truthful side may in
      let entry : shadow.entries space (page_of at) ≡ Some (here.frame, here.writable) = more space (page_of at) (here.frame, here.writable) here.entry in
      let leads : translated rule_k r t.world ≡ (Some (placed_at here.frame at), t.world) =
      guest_access size t code space at write here.frame here.writable there.truthful side entry here.lets_it in
      let may_there : allows shadow r ≡ true = ap (λ (o : Option (ℕ × Bool)). lets o write) entry ∙ here.lets_it in
      let by : Option ℕ × World → Result A Fault × World = λ p. f p.0 p.1 in
      held_is (allows shadow r) (of_guest t (by (translated rule_k r t.world))) r len t may_there
      ∙ ap (λ (p : Option ℕ × World). of_guest t (by p)) leads
      ∙ ap (of_guest t) (blind (Some (placed_at here.frame at)) s.world kept)
      ∙ ap (λ (q : Result A Fault × Guest). answer_moved kept shadow q)
      (sym (held_is (allows s.shadow r) (of_guest s (by (translated rule_k r s.world))) r len s may
      ∙ ap (λ (p : Option ℕ × World). of_guest s (by p)) here.leads))

  -- what the shadow allows does the same, whatever else is kept and allowed
  held_moved : (space : Space) (c : Call) (s : Guest) → Sound size s → Sound size (moved kept shadow s) → More s.shadow shadow → IsAttemptCall space 0 size c
      → allows_call c s.shadow ≡ true → held_bus c (moved kept shadow s) ≡ answer_moved kept shadow (held_bus c s)
  held_moved space (Fetch of at) s sound there more l may =
      access_moved s true of at false 2 (read_at (fetching_of of at) 2 taken) (read-blind (fetching_of of at) 2 taken taken-blind) sound there more l.1
      (λ z. cc) may
  held_moved space (Read of p) s sound there more l may =
      access_moved s false of p.at false p.len (read_at (reading_of of p.at) p.len taken)
      (read-blind (reading_of of p.at) p.len taken taken-blind) sound there more
      l.1 (λ z. refl) may
  held_moved space (Write of p value) s sound there more l may =
      access_moved s false of p.at true p.len (written_at (writing_of of p.at) p.len (λ place. stored place value))
      (write-blind (writing_of of p.at) p.len (λ place. stored place value) (λ place. stored-blind place value)) sound there more l.1 (λ z. refl) may
  held_moved space (ReadLine of at) s sound there more l may =
      access_moved s false of at false 16 (read_at (reading_of of at) 16 taken_line)
      (read-blind (reading_of of at) 16 taken_line taken_line-blind) sound there more
      l.1 (λ z. refl) may
  held_moved space (WriteLine of at line) s sound there more l may =
      access_moved s false of at true 16 (written_at (writing_of of at) 16 (λ place. stored_line place line))
      (write-blind (writing_of of at) 16 (λ place. stored_line place line) (λ place. stored_line-blind place line)) sound there more l.1 (λ z. refl) may
  held_moved space (Probe of p) s sound there more l may =
      access_moved s false of p.at true p.len (read_at (writing_of of p.at) p.len checked)
      (read-blind (writing_of of p.at) p.len checked checked-blind) sound there
      more l.1 (λ z. refl) may
  held_moved space (Get place) s sound there more l may =
      ap (λ (q : ℕ × World). (let a : ℕ × Guest = (q.0, record { world = q.1; shadow = shadow }) in a)) (get-blind place s.world kept)
  held_moved space (Put place value) s sound there more l may =
      ap (λ (q : Unit {0} × World). (let a : Unit {0} × Guest = (q.0, record { world = q.1; shadow = shadow }) in a)) (put-blind place value s.world kept)
  held_moved space ReadMmu s sound there more l may = absurd l
  held_moved space (SetMmu which value) s sound there more l may = absurd l
  held_moved space (FlushKept what) s sound there more l may = absurd l
  held_moved space (Test of at write) s sound there more l may = absurd l
  held_moved space ResetDevices s sound there more l may = absurd l

  -- ---- the runs of both

  pub record Ahead (begun : Shadowed) (s t : Guest) : Type 0 where
    pub sound : Sound size s
    pub there : Sound size (moved kept shadow s)
    pub same : s.shadow ≡ begun
    pub is : t ≡ moved kept shadow s

  any_more : (s : Guest) (o : Option Reference) → More s.shadow shadow → allows_any s.shadow o ≡ true → allows_any shadow o ≡ true
  any_more s None more may = refl
  any_more s (Some r) more may = by_entry (s.shadow.entries r.space (page_of r.at)) refl may
    where
      by_entry : (o : Option (ℕ × Bool)) → s.shadow.entries r.space (page_of r.at) ≡ o → lets o r.write ≡ true → allows shadow r ≡ true
      by_entry None e h = absurd (let z : false ≡ true = h in let y : ⊥ = cc in y)
      by_entry (Some entry) e h = ap (λ (o : Option (ℕ × Bool)). lets o r.write) (more r.space (page_of r.at) entry e) ∙ h

  -- the guest's own bus there
  guest_moved : (space : Space) (c : Call) (s : Guest) → Sound size s → Sound size (moved kept shadow s) → More s.shadow shadow → IsAttemptCall space 0 size c
      → allows_call c s.shadow ≡ true → guest_bus c (moved kept shadow s) ≡ answer_moved kept shadow (held_bus c s)
  guest_moved space c s sound there more l may =
      guest_is_held space size c (moved kept shadow s) there l (any_more s (reference_of c) more may) ∙ held_moved space c s sound there more l may

  shadow_stays : (space : Space) (c : Call) (s : Guest) → Sound size s → IsAttemptCall space 0 size c → (held_bus c s).1.shadow ≡ s.shadow
  shadow_stays space c s sound l = ap (λ (h : Guest). h.shadow) (held_keeps space size c s sound l)

  ahead_kept : (begun : Shadowed) → More begun shadow → (space : Space) (c : Call) (s t : Guest) → Ahead begun s t → IsAttemptCall space 0 size c
      → allows_call c s.shadow ≡ true → Ahead begun (held_bus c s).1 (guest_bus c t).1
  ahead_kept begun more space c s t a l may =
      let more_here : More s.shadow shadow = subst (λ (b : Shadowed). More b shadow) (sym a.same) more in
      let both = held_moved space c s a.sound a.there more_here l may in
      record {
        sound = held_sound size space c s a.sound l;
        there = subst (λ (q : Answer c × Guest). Sound size q.1) both (held_sound size space c (moved kept shadow s) a.there l);
        same = shadow_stays space c s a.sound l ∙ a.same;
        is = ap (λ (g : Guest). (guest_bus c g).1) a.is
            ∙ ap (λ (q : Answer c × Guest). q.1) (guest_moved space c s a.sound a.there more_here l may);
      }

  -- up to the first call that the first shadow does not allow, both do the same
  pub ahead_alike : (begun : Shadowed) → More begun shadow → (space : Space)
      → Alike (Ahead begun) (λ c (g : Guest). IsAttemptCall space 0 size c) (λ c (g : Guest). allows_call c g.shadow) (λ c (g : Guest). allows_call c begun)
      held_bus guest_bus
  ahead_alike begun more space = record {
    leave = λ c s t a l. ap (λ (b : Shadowed). allows_call c b) a.same;
    answer = λ c s t a l may.
        let more_here : More s.shadow shadow = subst (λ (b : Shadowed). More b shadow) (sym a.same) more in
        sym (ap (λ (g : Guest). (guest_bus c g).0) a.is
        ∙ ap (λ (q : Answer c × Guest). q.0) (guest_moved space c s a.sound a.there more_here l may));
    kept = λ c s t a l may. ahead_kept begun more space c s t a l may;
  }

-- ---- a refused call

abbrev pub AtStop : {S A : Type 0} → Until S A → (Routine A → S → Type 0) → Type 0
AtStop (Ended a s) P = Unit {0}
AtStop (Stopped rest s) P = P rest s

abbrev FirstIs : {S A : Type 0} → (Call → S → Type 0) → Routine A → S → Type 0
FirstIs P rest t = (c : Call) → first_call rest ≡ Some c → P c t

stop_then : {S A B : Type 0} (P : Call → S → Type 0) (f : A → Routine B) (go : A → S → Until S B) (u : Until S A) (Q : A → S → Type 0) → AtStop u (FirstIs P)
    → GoesOn u Q → ((a : A) (t : S) → Q a t → AtStop (go a t) (FirstIs P)) → AtStop (then_until u go f) (FirstIs P)
stop_then P f go (Ended a t) Q h q more = more a t q
stop_then P f go (Stopped rest t) Q h q more = h

stop_ask : {S : Type 0} (P : Call → S → Type 0) (bus : Bus S) (c : Call) (s : S) (b : Bool) → P c s → AtStop (ask_until b (bus c s) (Ask c) s) (FirstIs P)
stop_ask P bus c s true h = tt
stop_ask P bus c s false h = λ d e. subst (λ (x : Call). P x s) (same_Some c d e) h

-- what holds of each call that is made, holds of the refused one
pub holds_at_stop : {S A : Type 0} (P : Call → S → Type 0) (allowed : Call → S → Bool) (bus : Bus S) (m : Routine A) (s : S) → AlongUntil P allowed bus m s
    → AtStop (run_until allowed bus m s) (λ (rest : Routine A) (t : S). (c : Call) → first_call rest ≡ Some c → P c t)
holds_at_stop P allowed bus (Return a) s h = tt
holds_at_stop P allowed bus (Ask c) s h = stop_ask P bus c s (allowed c s) h
holds_at_stop P allowed bus (Then m f) s h =
    stop_then P f (λ a t. run_until allowed bus (f a) t) (run_until allowed bus m s) (λ a t. AlongUntil P allowed bus (f a) t)
    (holds_at_stop P allowed bus m s h.0) h.1 (λ a t more. holds_at_stop P allowed bus (f a) t more)

-- ---- how the other run comes to its end

module _ {A : Type 0} (size : ℕ) (kept : KeptLists) (shadow begun : Shadowed) where
  pub ended_at : (a : A) (s : Guest) (w : Until Guest A) → Meets (Ahead size kept shadow begun) (Ended a s) w → finish guest_bus w ≡ (a, moved kept shadow s)
  ended_at a s (Ended b t) (same, r) = ap (λ (x : A). (let q : A × Guest = (x, t) in q)) (sym same) ∙ ap (λ (x : Guest). (let q : A × Guest = (a, x) in q)) r.is
  ended_at a s (Stopped n t) meets = absurd meets

  pub stopped_at : (rest : Routine A) (now : Guest) (w : Until Guest A) → Meets (Ahead size kept shadow begun) (Stopped rest now) w
      → finish guest_bus w ≡ run guest_bus rest (moved kept shadow now)
  stopped_at rest now (Ended b t) meets = absurd meets
  stopped_at rest now (Stopped n t) (same, r) = sym (same_over guest_bus rest n t same) ∙ ap (run guest_bus rest) r.is
