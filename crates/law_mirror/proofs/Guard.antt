-- The board as a bus that never refuses: what its calls keep, and what they answer.
use Rattle.std.proofs.Common.{◌≡◌, ℕ, ◌+◌, ◌-◌, ◌%◌, ◌^◌, ◌≤◌, ◌<◌, Bool, true, false, List, length, refl, ap, sym, ◌∙◌, subst, arith, inl, inr, Some, None}
use Rattle.std.proofs.Common.{Result, Ok, Err}
use Rattle.std.proofs.lemmas.Bool.{cases_Bool}
use Rattle.mb_port.specs.Routine.{Call, Fetch, Read, Write, ReadLine, WriteLine, Probe, Get, Put, ReadMmu, SetMmu, FlushKept, Test, ResetDevices}
use Rattle.mb_port.specs.declared.types.Space.{Space}
use Rattle.mb_port.specs.declared.types.Space.TheVariants.{User}
use Rattle.mb_port.specs.declared.types.Piece.{Piece}
use Rattle.mb_port.specs.declared.types.Place.{Place}
use Rattle.mb_port.specs.declared.types.Fault.{Fault}
use Rattle.law_routines.specs.Between.{call_here, IsThere}
use Rattle.law_routines.specs.Probing.{OpensProbed}
use Rattle.mb_model.specs.Keeping.{rule_a}
use Rattle.mb_walk.specs.Memory.{number_at}
use Rattle.def_machine.specs.World.{World}
use Rattle.def_machine.specs.Places.{taken, checked, taken_line, line_at}
use Rattle.def_machine.specs.Access.{translated}
use Rattle.def_machine.specs.Bus.{fault_of, place_at, Take, read_by}
use Rattle.law_tells.specs.Guarded.{Guarded, Guards}
use Rattle.def_machine.proofs.BusLemmas.{taken_memory}
use Rattle.def_guests.specs.Guests.{Guest, ref, allows}
use Rattle.law_held.specs.Lawful.{IsAttemptCall}
use Rattle.def_guests.specs.Held.{held_bus}
use Rattle.law_mirror.specs.Related.{Site, setting, Related, Serves}
use Rattle.law_mirror.specs.Laws.{board_bus, lawful, always, IsAlike}
use Rattle.law_mirror.proofs.Mirrors.{Allowed, allowed_access, refused_access, board_in_ram}
use Rattle.law_mirror.proofs.Calls.{mirrors_calls}
use Rattle.law_held.proofs.Stages.{piece_fits, word_fits, line_fits, in_guest, reads_refused, line_read, paired}
use Rattle.law_held.proofs.Allowed.{word_small}
use Rattle.def_machine.proofs.Enters.{checked_is, reads_found}

pub is_alike : IsAlike
is_alike x = record {
  leave = λ d b g r s l. refl;
  answer = λ d b g r s l h. (mirrors_calls x d b g r s l).0;
  kept = λ d b g r s l h. (mirrors_calls x d b g r s l).1;
}

-- ---- each lawful call is the board's for a call of the guest

abbrev pub OfGuest : Site → Call → Type 0
OfGuest x c = (d : Call) × IsThere (setting x) d × (call_here (setting x) d ≡ c)

lowered : Site → Place → Place
lowered x place = record place { at = place.at - x.base }

pub of_guest_call : (x : Site) (c : Call) → IsAttemptCall User x.base x.size c → OfGuest x c
unfolding lowered
of_guest_call x (Fetch of at) l = (Fetch x.space at, refl, ap (λ (s : Space). Fetch s at) (sym l.0))
of_guest_call x (Read of p) l = (Read x.space p, refl, ap (λ (s : Space). Read s p) (sym l.0))
of_guest_call x (Write of p value) l = (Write x.space p value, refl, ap (λ (s : Space). Write s p value) (sym l.0))
of_guest_call x (ReadLine of at) l = (ReadLine x.space at, refl, ap (λ (s : Space). ReadLine s at) (sym l.0))
of_guest_call x (WriteLine of at line) l = (WriteLine x.space at line, refl, ap (λ (s : Space). WriteLine s at line) (sym l.0))
of_guest_call x (Probe of p) l = (Probe x.space p, refl, ap (λ (s : Space). Probe s p) (sym l.0))
of_guest_call x (Get place) l =
    let low = l.0 in let high = l.1 in
    (Get (lowered x place), tt, ap (λ (n : ℕ). Get (record place { at = n })) (let e : x.base + (place.at - x.base) ≡ place.at = omega arith in e))
of_guest_call x (Put place value) l =
    let low = l.0 in let high = l.1 in
    (Put (lowered x place) value, tt, ap (λ (n : ℕ). Put (record place { at = n }) value) (let e : x.base + (place.at - x.base) ≡ place.at = omega arith in e))
of_guest_call x ReadMmu l = absurd l
of_guest_call x (SetMmu which value) l = absurd l
of_guest_call x (FlushKept what) l = absurd l
of_guest_call x (Test of at write) l = absurd l
of_guest_call x ResetDevices l = absurd l

pub stays_serving : (x : Site) (c : Call) (b : World) → Serves x b → lawful x c b → Serves x (board_bus c b).1
stays_serving x c b (g, r) l =
    let (d, there, e) = of_guest_call x c l in (
      (held_bus d g).1,
      subst (λ (c : Call). Related x (board_bus c b).1 (held_bus d g).1) e
          (mirrors_calls x d b g r there (subst (λ (c : Call). IsAttemptCall User x.base x.size c) (sym e) l)).1,
    )

-- ---- what is answered

-- where a read is answered, this holds of the answer
read_answer : {A : Type 0} (x : Site) (b : World) (g : Guest) (code : Bool) (at len : ℕ) (write : Bool) (take : Take A) (Holds : A → Type 0) → Related x b g
    → at < 2 ^ 32 → (write ≡ true → code ≡ false) → at % 4096 + len ≤ 4096
    → ((w : World) (p : ℕ) → Related x w g → p + len ≤ x.size → (a : A) × (take (place_at (x.base + p) len) w ≡ (Some a, w)) × Holds a)
    → (a : A) → (read_by rule_a (ref code User at write) len take b).0 ≡ Ok a → Holds a
read_answer {A} x b g code at len write take Holds r l on_data fits side a e =
    let t = translated rule_a (ref code User at write) b in
    elim (cases_Bool (allows g.shadow (ref code x.space at write))) [
      | inl may ↦
          let here : Allowed x b g code at write = allowed_access x b g code at write r l on_data may in
          let (a', on_board, holds) = side t.1 here.place here.after (in_guest here.place at len x.size here.inside here.offset fits) in
          let f = reads_found rule_a (ref code User at write) len take b t.1 (x.base + here.place) a' (paired t (Some (x.base + here.place)) here.board)
          on_board in
          let g : Ok a' ≡ Ok a = sym (ap (λ (q : Result A Fault × World). q.0) f) ∙ e in
          let same : a' ≡ a = cc in
          subst Holds same holds
      | inr may_not ↦
          let q = refused_access x b g code at write r l may_not in
          let f = reads_refused rule_a (ref code User at write) len take b t.1 (paired t None q.answer) in
          absurd (let g : Err (fault_of (ref code User at write) len true) ≡ Ok a = sym (ap (λ (q : Result A Fault × World). q.0) f) ∙ e in let z : ⊥ = cc in z)
    ]

-- ---- the guard

-- of the board's states nothing more is said: what its attempts may call is wanted alone
abbrev pub never_refusing : Site → Guarded World
never_refusing x = record {
  same = λ s u. Unit {0};
  lawful = lawful x;
  allowed = always;
  bus = board_bus;
  serving = Serves x;
  unwritten = λ b. Unit {0};
  stands = λ c answer b. Unit {0};
}

probe_place : (x : Site) (p : Piece) (b : World) (place : Place) → Serves x b → lawful x (Probe User p) b → (board_bus (Probe User p) b).0 ≡ Ok place
    → (x.base ≤ place.at) × (place.at + place.len ≤ x.base + x.size) × (place.len ≡ p.len)
probe_place x p b place (g, r) l e =
    read_answer x b g false p.at p.len true checked (λ (q : Place). (x.base ≤ q.at) × (q.at + q.len ≤ x.base + x.size)
    × (q.len ≡ p.len)) r l.1 (λ z. refl) (piece_fits p l.2)
    (λ w k at_w h. (place_at (x.base + k) p.len, checked_is w (x.base + k) p.len (board_in_ram x w g k p.len at_w h), (omega arith, omega arith, refl))) place e

opens : (x : Site) → OpensProbed (Serves x) (lawful x) board_bus
opens x = record {
  call = λ c b s l. stays_serving x c b s l;
  probed = λ space p b place s l e.
      let here : space ≡ User = l.0 in
      let l' : lawful x (Probe User p) b = (refl, l.1, l.2) in
      let f : (board_bus (Probe User p) b).0 ≡ Ok place = subst (λ (s : Space). (board_bus (Probe s p) b).0 ≡ Ok place) here e in
      let (low, high, long) = probe_place x p b place s l' f in
      ((λ u q. ((low, high), λ value. (low, high))), long);
}

fetched_word : (x : Site) (at word : ℕ) (b : World) → Serves x b → lawful x (Fetch User at) b → (board_bus (Fetch User at) b).0 ≡ Ok word → word < 2 ^ 16
fetched_word x at word b (g, r) l e =
    read_answer x b g true at 2 false taken (λ (n : ℕ). n < 2 ^ 16) r l.1 (λ z. cc) (word_fits at l.2)
    (λ w k at_w h. (
      number_at w.ram (x.base + k) 2,
      taken_memory w (place_at (x.base + k) 2) (board_in_ram x w g k 2 at_w h),
      word_small w.ram (x.base + k)
          at_w.bytes,
    )) word e

read_longs : (x : Site) (at : ℕ) (line : List ℕ) (b : World) → Serves x b → lawful x (ReadLine User at) b → (board_bus (ReadLine User at) b).0 ≡ Ok line
    → length line ≡ 4
read_longs x at line b (g, r) l e =
    read_answer x b g false at 16 false taken_line (λ (xs : List ℕ). length xs ≡ 4) r l.1 (λ z. refl) (line_fits at l.2)
    (λ w k at_w h. (line_at w.ram (x.base + k), line_read w (x.base + k) (board_in_ram x w g k 16 at_w h), refl)) line e

pub board_guards : (x : Site) → Guards (never_refusing x) User
board_guards x = record {
  refuses = record { fault = λ c s l h. absurd (let z : ⊥ = cc in z) };
  opens = opens x;
  fetches = λ at s q even lt. (refl, lt, even);
  reads = λ piece s q is. (refl, is.1, is.0);
  writes = λ piece value s q is. (refl, is.1, is.0);
  reads_lines = λ at s q is. (refl, is.1, is.0);
  writes_lines = λ at line s q is four. (refl, is.1, is.0, four);
  probes = λ piece s q is. (refl, is.1, is.0);
  words = λ at word s go e. fetched_word x at word s go.0 go.1 e;
  lines = λ at line s go e. read_longs x at line s go.0 go.1 e;
  line_faults = λ at line s fault denied e. absurd (let z : true ≡ false = denied.2 in let y : ⊥ = cc in y);
  still = λ c s r go u. tt;
  reads_keep = λ c s d answer r go k. tt;
  writes_keep = λ p q value more s apart go k. tt;
  read_again = λ piece value s go e. tt;
  written_again = λ piece value s go e. tt;
}
