-- What routines over the held bus answer: parts of instructions, whatever the guest.
use Rattle.std.proofs.Common.{◌≡◌, ℕ, ◌+◌, ◌^◌, ◌<◌, Bool, true, false, List, [], ◌∷◌, arith, refl, ap, sym, subst, ◌∙◌, drop}
use Rattle.std.proofs.Common.{Option, Some, None, Result, Ok, Err, inl, inr}
use Rattle.std.specs.Prelude.{ok_or}
use Rattle.std.proofs.lemmas.Bool.{cases_Bool}
use Rattle.std.proofs.lemmas.List.Elements.{All-drop, All-nil, All-cons}
use Rattle.mb_port.specs.Routine.{Routine, Return, ◌>>=◌, run, choose, tried, other_fault, failing, sure}
use Rattle.mb_port.specs.Routine.{Write, ReadLine, WriteLine, read, write, read_line, write_line, probe, fetch}
use Rattle.mb_port.specs.declared.types.Space.{Space}
use Rattle.mb_port.specs.declared.types.Piece.{Piece}
use Rattle.mb_port.specs.declared.types.Fault.{Fault}
use Rattle.mb_model.specs.Keeping.{rule_k}
use Rattle.mb_walk.specs.Memory.{number_at, AreBytes}
use Rattle.def_machine.specs.World.{World}
use Rattle.def_machine.specs.declared.reference.Reference.{Reference}
use Rattle.def_machine.specs.Places.{taken, stored, checked, taken_line, stored_line, line_at}
use Rattle.def_machine.specs.Access.{translated}
use Rattle.def_machine.specs.Bus.{fetching_of, reading_of, writing_of, fault_of, place_at, Take, Store, read_at, read_by, wrote, written_at}
use Rattle.law_tells.specs.Guarded.{IsLine}
use Rattle.law_tells.specs.Laws.{AreLongs}
use Rattle.def_guests.specs.Guests.{Guest, allows, placed_at}
use Rattle.def_guests.specs.Held.{plain_bus, or_refused, held_bus}
use Rattle.law_held.specs.Sound.{Sound}
use Rattle.law_held.proofs.Allowed.{of_guest, held_is, held_not}
use Rattle.law_held.proofs.Stages.{line_fits, line_read}
use Rattle.law_held.proofs.Holding.{Led, led, led_room, held_read, holds}
use Rattle.law_leave.specs.Fits.{IsLong}
use Rattle.mb_walk.proofs.LongLemmas.{byte_inside}
use Rattle.def_machine.proofs.Enters.{reads_found}

-- ---- answers

-- an answer of P, or a fault of F
abbrev pub IsAnswer : {A E : Type 0} → (A → Type 0) → (E → Type 0) → Result A E → Type 0
IsAnswer P F (Ok a) = P a
IsAnswer P F (Err e) = F e

abbrev pub any : {A : Type 0} → A → Type 0
any a = Unit {0}

-- the routine answers so, whatever the guest
pub record Answers {A E : Type 0} (P : A → Type 0) (F : E → Type 0) (m : Routine (Result A E)) : Type 0 where
  pub are : (g : Guest) → IsAnswer P F (run held_bus m g).0

pub goes_on : {A B E : Type 0} {P : A → Type 0} {Q : B → Type 0} {F : E → Type 0} (f : A → Routine (Result B E)) (r : Result A E) (g : Guest)
    → IsAnswer P F r → ((a : A) → P a → Answers Q F (f a)) → IsAnswer Q F (run held_bus (tried r f) g).0
goes_on f (Ok a) g h more = (more a h).are g
goes_on f (Err e) g h more = h

pub answers_then : {A B E : Type 0} {P : A → Type 0} {Q : B → Type 0} {F : E → Type 0} {m : Routine (Result A E)} {f : A → Routine (Result B E)}
    → Answers P F m → ((a : A) → P a → Answers Q F (f a)) → Answers Q F (m >>= f)
answers_then {P = P} {Q = Q} {F = F} {m = m} {f = f} h more =
    record { are = λ g. goes_on {P = P} {Q = Q} {F = F} f (run held_bus m g).0 (run held_bus m g).1 (h.are g) more }

pub answers_ok : {A E : Type 0} {P : A → Type 0} {F : E → Type 0} (a : A) → P a → Answers P F (Return (Ok a))
answers_ok a h = record { are = λ g. h }

pub answers_err : {A E : Type 0} {P : A → Type 0} {F : E → Type 0} (e : E) → F e → Answers P F (Return (Err e))
answers_err e h = record { are = λ g. h }

pub in_other_words : {A E G : Type 0} (P : A → Type 0) (F : E → Type 0) (H : G → Type 0) (other : E → G) (r : Result A E)
    → IsAnswer P F r → ((e : E) → F e → H (other e)) → IsAnswer P H (other_fault other r)
in_other_words P F H other (Ok a) h how = h
in_other_words P F H other (Err e) h how = how e h

pub answers_failing : {A E G : Type 0} {P : A → Type 0} {F : E → Type 0} {H : G → Type 0} {m : Routine (Result A E)} (other : E → G)
    → Answers P F m → ((e : E) → F e → H (other e)) → Answers P H (failing other m)
answers_failing {P = P} {F = F} {H = H} {m = m} other h how =
    record { are = λ g. in_other_words P F H other (run held_bus m g).0 (h.are g) how }

pub answers_choose : {A E : Type 0} {P : A → Type 0} {F : E → Type 0} (b : Bool) {m n : Routine (Result A E)}
    → Answers P F m → Answers P F n → Answers P F (choose b m n)
answers_choose true h k = h
answers_choose false h k = k

pub answers_sure : {A E : Type 0} {F : E → Type 0} (m : Routine A) → Answers {E = E} any F (sure m)
answers_sure m = record { are = λ g. tt }

-- ---- faults of calls

abbrev pub FaultFits : Fault → Type 0
FaultFits f = IsLong f.at

answered_at : {A : Type 0} (o : Option A) (r : Reference) (len : ℕ) (atc : Bool) → IsLong r.at → IsAnswer any FaultFits (ok_or o (fault_of r len atc))
answered_at (Some a) r len atc h = tt
answered_at None r len atc h = h

refused_or : {A : Type 0} (b : Bool) (q : Result A Fault × Guest) (r : Reference) (len : ℕ) (g : Guest) → IsLong r.at → IsAnswer any FaultFits q.0
    → IsAnswer any FaultFits (or_refused b q r len g).0
refused_or true q r len g h own = own
refused_or false q r len g h own = h

reads_at : {A : Type 0} (r : Reference) (len : ℕ) (take : Take A) (o : Option ℕ) (w : World) → IsLong r.at
    → IsAnswer any FaultFits (read_at r len take o w).0
reads_at r len take (Some at) w h = answered_at (take (place_at at len) w).0 r len false h
reads_at r len take None w h = h

wrote_at : (w : World) (o : Option World) (r : Reference) (len : ℕ) → IsLong r.at → IsAnswer any FaultFits (wrote w o (fault_of r len false)).0
wrote_at w (Some after) r len h = tt
wrote_at w None r len h = h

writes_at : (r : Reference) (len : ℕ) (store : Store) (o : Option ℕ) (w : World) → IsLong r.at → IsAnswer any FaultFits (written_at r len store o w).0
writes_at r len store (Some at) w h = wrote_at w (store (place_at at len) w) r len h
writes_at r len store None w h = h

read_held : {A : Type 0} (g : Guest) (r : Reference) (len : ℕ) (take : Take A) → IsLong r.at
    → IsAnswer any FaultFits (or_refused (allows g.shadow r) (of_guest g (read_by rule_k r len take g.world)) r len g).0
read_held g r len take h =
    refused_or (allows g.shadow r) (of_guest g (read_by rule_k r len take g.world)) r len g h
    (reads_at r len take (translated rule_k r g.world).0 (translated rule_k r g.world).1 h)

pub fetching_fits : (space : Space) (at : ℕ) → IsLong at → Answers any FaultFits (fetch space at)
fetching_fits space at h = record { are = λ g. read_held g (fetching_of space at) 2 taken h }

pub reading_fits : (space : Space) (p : Piece) → IsLong p.at → Answers any FaultFits (read space p)
reading_fits space p h = record { are = λ g. read_held g (reading_of space p.at) p.len taken h }

pub probing_fits : (space : Space) (p : Piece) → IsLong p.at → Answers any FaultFits (probe space p)
probing_fits space p h = record { are = λ g. read_held g (writing_of space p.at) p.len checked h }

pub writing_fits : (space : Space) (p : Piece) (value : ℕ) → IsLong p.at → Answers any FaultFits (write space p value)
writing_fits space p value h = record {
  are = λ g. let r = writing_of space p.at in refused_or (allows g.shadow r) (plain_bus (Write space p value) g) r p.len g h
      (writes_at r p.len (λ place. stored place value) (translated rule_k r g.world).0 (translated rule_k r g.world).1 h);
}

-- the fault of a line is at its own address
abbrev pub LineFits : Fault → Type 0
LineFits f = IsLine f.at

line_refused_or : {A : Type 0} (b : Bool) (q : Result A Fault × Guest) (r : Reference) (len : ℕ) (g : Guest) → IsLine r.at → IsAnswer any LineFits q.0
    → IsAnswer any LineFits (or_refused b q r len g).0
line_refused_or true q r len g h own = own
line_refused_or false q r len g h own = h

line_wrote_at : (w : World) (o : Option World) (r : Reference) (len : ℕ) → IsLine r.at → IsAnswer any LineFits (wrote w o (fault_of r len false)).0
line_wrote_at w (Some after) r len h = tt
line_wrote_at w None r len h = h

line_writes_at : (r : Reference) (len : ℕ) (store : Store) (o : Option ℕ) (w : World) → IsLine r.at
    → IsAnswer any LineFits (written_at r len store o w).0
line_writes_at r len store (Some at) w h = line_wrote_at w (store (place_at at len) w) r len h
line_writes_at r len store None w h = h

pub line_writing_fits : (space : Space) (at : ℕ) (line : List ℕ) → IsLine at → Answers any LineFits (write_line space at line)
line_writing_fits space at line h = record {
  are = λ g. let r = writing_of space at in line_refused_or (allows g.shadow r) (plain_bus (WriteLine space at line) g) r 16 g h
      (line_writes_at r 16 (λ place. stored_line place line) (translated rule_k r g.world).0 (translated rule_k r g.world).1 h);
}

-- ---- a line of a sound guest

long_small : (ram : List ℕ) (at : ℕ) → AreBytes ram → IsLong (number_at ram at 4)
long_small ram at bytes =
    let rest = All-drop (λ byte. byte < 2 ^ 8) at ram bytes in
    let a = byte_inside (drop at ram) 0 rest in
    let b = byte_inside (drop at ram) 1 rest in
    let c = byte_inside (drop at ram) 2 rest in
    let d = byte_inside (drop at ram) 3 rest in
    omega arith

line_longs : (ram : List ℕ) (at : ℕ) → AreBytes ram → AreLongs (line_at ram at)
line_longs ram at bytes =
    let one = number_at ram (at + 12) 4 ∷ [] in
    let two = number_at ram (at + 8) 4 ∷ one in
    let three = number_at ram (at + 4) 4 ∷ two in
    All-cons IsLong (number_at ram at 4) three (long_small ram at bytes) (All-cons IsLong (number_at ram (at + 4) 4) two (long_small ram (at + 4) bytes)
    (All-cons IsLong (number_at ram (at + 8) 4) one (long_small ram (at + 8) bytes)
    (All-cons IsLong (number_at ram (at + 12) 4) [] (long_small ram (at + 12) bytes) (All-nil IsLong))))

line_held : (size : ℕ) (space : Space) (at : ℕ) (g : Guest) → Sound size g → IsLine at → allows g.shadow (reading_of space at) ≡ true
    → IsAnswer AreLongs FaultFits (held_read g (reading_of space at) 16 taken_line).0
line_held size space at g s is may =
    let r = reading_of space at in
    let here : Led size g false space at false = led size g false space at false s.truthful (λ z. refl) may in
    let p = placed_at here.frame at in
    let room = led_room here.frame at 16 size here.inside (line_fits at is.0) in
    let whole : held_read g r 16 taken_line ≡ (Ok (line_at g.world.ram p), g) =
    held_is (allows g.shadow r) (of_guest g (read_by rule_k r 16 taken_line g.world)) r 16 g may
    ∙ ap (of_guest g) (reads_found rule_k r 16 taken_line g.world g.world p (line_at g.world.ram p) here.leads (line_read g.world p (holds size g p 16 s room)))
    in
    subst (λ (q : Result (List ℕ) Fault × Guest). IsAnswer AreLongs FaultFits q.0) (sym whole) (line_longs g.world.ram p s.bytes)

-- longs are read, or the fault is at the line's address
pub line_reading_fits : (size : ℕ) (space : Space) (at : ℕ) (g : Guest) → Sound size g → IsLine at
    → IsAnswer AreLongs FaultFits (run held_bus (read_line space at) g).0
line_reading_fits size space at g s is = elim (cases_Bool (allows g.shadow (reading_of space at))) [
  | inl may ↦ line_held size space at g s is may
  | inr never ↦ subst (λ (q : Result (List ℕ) Fault × Guest). IsAnswer AreLongs FaultFits q.0)
      (sym (held_not (allows g.shadow (reading_of space at)) (plain_bus (ReadLine space at) g) (reading_of space at) 16 g never)) is.1
]
