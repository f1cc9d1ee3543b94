-- What is never denied ends with no fault.
use Rattle.std.proofs.Common.{Bool, ◌≡◌, ℕ, ◌+◌, true, false, refl, ap, sym, ◌∙◌, subst, arith, Result, Ok, Err, take, ◌^◌, ◌<◌}
use Rattle.mb_port.specs.Routine.{Call, Fetch, Read, Write, ReadLine, WriteLine, Probe, Get, Put, ReadMmu, SetMmu, FlushKept, Test, ResetDevices}
use Rattle.mb_port.specs.declared.types.Space.{Space}
use Rattle.mb_port.specs.declared.types.Place.{Place}
use Rattle.mb_port.specs.declared.types.Fault.{Fault}
use Rattle.law_routines.specs.Between.{Setting, between, call_here, IsThere, like, Equal, SameWord, SameFault, IsRaised, raised}
use Rattle.law_routines.specs.Twin.{Results, AlikeOn}
use Rattle.mb_writes.specs.declared.ends.Ended.{Ended as End}
use Rattle.mb_writes.specs.declared.ends.Ended.TheVariants as ended
use Rattle.def_instructions.specs.Ends.{Performed}
use Rattle.law_twins.specs.Twins.{SamePerformed, SameEnd}
use Rattle.def_machine.specs.Places.{taken, checked, taken_line, stored, stored_line}
use Rattle.def_guests.specs.Guests.{Guest, allows_call}
use Rattle.law_held.specs.Lawful.{IsAttemptCall}
use Rattle.def_guests.specs.Held.{held_bus}
use Rattle.law_held.specs.Sound.{Sound}
use Rattle.law_held.specs.Denied.{IsFaultless, HasNone}
use Rattle.law_held.proofs.Again.{fetched_small}
use Rattle.law_held.proofs.Allowed.{wrote_guest, line_guest}
use Rattle.law_held.proofs.Stages.{piece_fits, word_fits, line_fits}
use Rattle.law_held.proofs.Holding.{read_held, write_held, taken_reads, line_reads, checked_reads, stored_writes, line_writes, held_sound}

-- a bus beside itself, where no call is refused
abbrev pub faultless : Bool → Space → Setting
faultless free space = record { here = space; there = space; base = 0; faults = false; refuses = free }

answers_ok : {A : Type 0} (Ill : Fault → Fault → Type 0) (r : Result A Fault) (a : A) → r ≡ Ok a → Results Equal Ill r r
answers_ok Ill r a e = subst (λ q. Results Equal Ill q q) (sym e) refl

answers_word : (Ill : Fault → Fault → Type 0) (r : Result ℕ Fault) (a : ℕ) → r ≡ Ok a → a < 2 ^ 16 → Results SameWord Ill r r
answers_word Ill r a e small = subst (λ q. Results SameWord Ill q q) (sym e) (refl, small)

raised_none : (q : Place) → raised 0 q ≡ q
raised_none q = ap (λ (n : ℕ). (let p : Place = record q { at = n } in p)) (let e : 0 + q.at ≡ q.at = omega arith in e)

answers_place : (Ill : Fault → Fault → Type 0) (free : Bool) (space : Space) (r : Result Place Fault) (q : Place) → r ≡ Ok q
    → Results (IsRaised (faultless free space)) Ill r r
answers_place Ill free space r q e = subst (λ r. Results (IsRaised (faultless free space)) Ill r r) (sym e) (sym (raised_none q))

abbrev pub R : ℕ → Guest → Guest → Type 0
R size g h = (g ≡ h) × Sound size g

-- the same calls, on either side
same_call : (free : Bool) (space : Space) (d : Call) → IsThere (faultless free space) d → call_here (faultless free space) d ≡ d
same_call free space (Fetch of at) e = ap (λ (s : Space). Fetch s at) (sym e)
same_call free space (Read of p) e = ap (λ (s : Space). Read s p) (sym e)
same_call free space (Write of p value) e = ap (λ (s : Space). Write s p value) (sym e)
same_call free space (ReadLine of at) e = ap (λ (s : Space). ReadLine s at) (sym e)
same_call free space (WriteLine of at line) e = ap (λ (s : Space). WriteLine s at line) (sym e)
same_call free space (Probe of p) e = ap (λ (s : Space). Probe s p) (sym e)
same_call free space (Get place) e = ap (λ (q : Place). Get q) (raised_none place)
same_call free space (Put place value) e = ap (λ (q : Place). Put q value) (raised_none place)
same_call free space ReadMmu e = absurd e
same_call free space (SetMmu which value) e = absurd e
same_call free space (FlushKept what) e = absurd e
same_call free space (Test of at write) e = absurd e
same_call free space ResetDevices e = absurd e

-- an allowed call answers no fault
answers : (free : Bool) (space : Space) (size : ℕ) (d : Call) (g : Guest) → Sound size g → IsThere (faultless free space) d
    → IsAttemptCall space 0 size (call_here (faultless free space) d)
    → allows_call d g.shadow ≡ true → like (faultless free space) d ((held_bus (call_here (faultless free space) d) g).0) ((held_bus d g).0)
answers free space size (Fetch of at) g s e l may =
    subst (λ (t : Space). allows_call (Fetch t at) g.shadow ≡ true
    → Results SameWord (SameFault (faultless free space)) ((held_bus (Fetch space at) g).0) ((held_bus (Fetch t at) g).0)) (sym e)
    (λ may. let (a, is) = read_held size g true space at 2 false taken s.truthful l.1 (λ z. cc) (word_fits at l.2) (taken_reads size g 2 s) may in
    let word : (held_bus (Fetch space at) g).0 ≡ Ok a = ap (λ (q : Result ℕ Fault × Guest). q.0) is in
    answers_word (SameFault (faultless free space)) ((held_bus (Fetch space at) g).0) a word (fetched_small space size at a g s l may word)) may
answers free space size (Read of p) g s e l may =
    subst (λ (t : Space). allows_call (Read t p) g.shadow ≡ true
    → Results Equal (SameFault (faultless free space)) ((held_bus (Read space p) g).0) ((held_bus (Read t p) g).0)) (sym e)
    (λ may. let (a, is) = read_held size g false space p.at p.len false taken s.truthful l.1 (λ z. refl) (piece_fits p l.2) (taken_reads size g p.len s) may in
    answers_ok (SameFault (faultless free space)) ((held_bus (Read space p) g).0) a (ap (λ (q : Result ℕ Fault × Guest). q.0) is)) may
answers free space size (Write of p value) g s e l may =
    subst (λ (t : Space). allows_call (Write t p value) g.shadow ≡ true
    → Results Equal (SameFault (faultless free space)) ((held_bus (Write space p value) g).0) ((held_bus (Write t p value) g).0)) (sym e)
    (λ may. answers_ok (SameFault (faultless free space)) ((held_bus (Write space p value) g).0) tt (ap (λ (q : Result (Unit {0}) Fault × Guest). q.0)
    (write_held size g space p.at p.len (λ place. stored place value) s.truthful l.1 (piece_fits p l.2) (λ at. (wrote_guest g at p.len value).world)
    (stored_writes size g p.len value s) may))) may
answers free space size (ReadLine of at) g s e l may =
    subst (λ (t : Space). allows_call (ReadLine t at) g.shadow ≡ true
    → Results Equal (SameFault (faultless free space)) ((held_bus (ReadLine space at) g).0) ((held_bus (ReadLine t at) g).0)) (sym e)
    (λ may. let (a, is) = read_held size g false space at 16 false taken_line s.truthful l.1 (λ z. refl) (line_fits at l.2) (line_reads size g s) may in
    answers_ok (SameFault (faultless free space)) ((held_bus (ReadLine space at) g).0) a (ap (λ q. q.0) is)) may
answers free space size (WriteLine of at line) g s e l may =
    subst (λ (t : Space). allows_call (WriteLine t at line) g.shadow ≡ true
    → Results Equal (SameFault (faultless free space)) ((held_bus (WriteLine space at line) g).0) ((held_bus (WriteLine t at line) g).0)) (sym e)
    (λ may. answers_ok (SameFault (faultless free space)) ((held_bus (WriteLine space at line) g).0) tt (ap (λ (q : Result (Unit {0}) Fault × Guest). q.0)
    (write_held size g space at 16 (λ place. stored_line place line) s.truthful l.1 (line_fits at l.2) (λ at. (line_guest g at (take 4 line)).world)
    (line_writes size g line s) may))) may
answers free space size (Probe of p) g s e l may =
    subst (λ (t : Space). allows_call (Probe t p) g.shadow ≡ true
    → Results (IsRaised (faultless free space)) (SameFault (faultless free space)) ((held_bus (Probe space p) g).0) ((held_bus (Probe t p) g).0)) (sym e)
    (λ may. let (a, is) = read_held size g false space p.at p.len true checked s.truthful l.1 (λ z. refl) (piece_fits p l.2) (checked_reads size g p.len s) may
    in
    answers_place (SameFault (faultless free space)) free space ((held_bus (Probe space p) g).0) a (ap (λ (q : Result Place Fault × Guest). q.0) is)) may
answers free space size (Get place) g s e l may = ap (λ (q : Place). (held_bus (Get q) g).0) (raised_none place)
answers free space size (Put place value) g s e l may = refl
answers free space size ReadMmu g s e l may = absurd e
answers free space size (SetMmu which value) g s e l may = absurd e
answers free space size (FlushKept what) g s e l may = absurd e
answers free space size (Test of at write) g s e l may = absurd e
answers free space size ResetDevices g s e l may = absurd e

pub held_itself : (free : Bool) (space : Space) (size : ℕ) → AlikeOn (between (faultless free space)) (R size) (λ c (g : Guest). IsAttemptCall space 0 size c)
    (λ c (g : Guest). allows_call c g.shadow) (λ c (g : Guest). allows_call c g.shadow) held_bus held_bus
held_itself free space size = record {
  leave = λ d g h r e l. ap (λ (c : Call). allows_call c g.shadow) (same_call free space d e) ∙ ap (λ (k : Guest). allows_call d k.shadow) r.0;
  answer = λ d g h r e l may.
      subst (λ (k : Guest). like (faultless free space) d ((held_bus (call_here (faultless free space) d) g).0) ((held_bus d k).0)) r.0
      (answers free space size d g r.1 e l (sym (ap (λ (c : Call). allows_call c g.shadow) (same_call free space d e)) ∙ may));
  kept = λ d g h r e l may. (
    ap (λ (c : Call). (held_bus c g).1) (same_call free space d e) ∙ ap (λ (k : Guest). (held_bus d k).1) r.0,
    held_sound size space (call_here (faultless free space) d) g r.1 l,
  );
}

pub end_clean : (free : Bool) (space : Space) (end : End) → SameEnd (faultless free space) end end → HasNone end
end_clean free space (ended.Done flow) e = tt
end_clean free space (ended.Trap vector) e = tt
end_clean free space (ended.Refused vector) e = tt
end_clean free space (ended.ReadFault f) e = let z : false ≡ true = e.fault.0 in let y : ⊥ = cc in y
end_clean free space (ended.WriteFault f) e = let z : false ≡ true = e.fault.0 in let y : ⊥ = cc in y
end_clean free space (ended.LineFault f line) e = let z : false ≡ true = e.0.0 in let y : ⊥ = cc in y
end_clean free space (ended.Movem f) e = let z : false ≡ true = e.fault.0 in let y : ⊥ = cc in y

pub performed_clean : (free : Bool) (space : Space) (a : Performed) → SamePerformed (faultless free space) a a → IsFaultless a
performed_clean free space (Ok done) e = tt
performed_clean free space (Err stop) e = end_clean free space stop.ended e.0
