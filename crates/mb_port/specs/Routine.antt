-- The calls of a bus, their answers, and routines that make them.
use Rattle.std.specs.Prelude.{ℕ, Bool, true, false, Result, Ok, Err, List}
use Rattle.mb_port.specs.declared.types.Space.{Space}
use Rattle.mb_port.specs.declared.types.Piece.{Piece}
use Rattle.mb_port.specs.declared.types.Place.{Place}
use Rattle.mb_port.specs.declared.types.Fault.{Fault}
use Rattle.mb_port.specs.declared.types.Mmu.{Mmu}
use Rattle.mb_port.specs.declared.types.MmuReg.{MmuReg}
use Rattle.mb_port.specs.declared.types.Flush.{Flush}

-- a call of the bus
pub data Call : Type 0 where
  Fetch : Space → ℕ → Call
  Read : Space → Piece → Call
  Write : Space → Piece → ℕ → Call
  ReadLine : Space → ℕ → Call
  WriteLine : Space → ℕ → List ℕ → Call
  Probe : Space → Piece → Call
  Get : Place → Call
  Put : Place → ℕ → Call
  ReadMmu : Call
  SetMmu : MmuReg → ℕ → Call
  FlushKept : Flush → Call
  Test : Space → ℕ → Bool → Call
  ResetDevices : Call

-- what a call answers; a line is its four longs
abbrev pub Answer : Call → Type 0
Answer (Fetch space at) = Result ℕ Fault
Answer (Read space piece) = Result ℕ Fault
Answer (Write space piece value) = Result (Unit {0}) Fault
Answer (ReadLine space at) = Result (List ℕ) Fault
Answer (WriteLine space at line) = Result (Unit {0}) Fault
Answer (Probe space piece) = Result Place Fault
Answer (Get place) = ℕ
Answer (Put place value) = Unit {0}
Answer ReadMmu = Mmu
Answer (SetMmu which value) = Unit {0}
Answer (FlushKept what) = Unit {0}
Answer (Test space at write) = ℕ
Answer ResetDevices = Unit {0}

-- the meaning of a bus: what each call answers in a state, and the state after it
abbrev pub Bus : Type 0 → Type 0
Bus S = (c : Call) → S → Answer c × S

-- A routine: a tree of bus calls and what follows from their answers.
pub data Routine : Type 0 → Type 1 where
  Return : {A : Type 0} → A → Routine A
  Ask : (c : Call) → Routine (Answer c)
  Then : {A B : Type 0} → Routine A → (A → Routine B) → Routine B

-- what a routine answers over a bus, and the state after it
abbrev pub run : {S A : Type 0} → Bus S → Routine A → S → A × S
run bus (Return a) s = (a, s)
run bus (Ask c) s = bus c s
run bus (Then m f) s = let (answer, after) = run bus m s in run bus (f answer) after

-- of what a call or a routine came to: its answer, and the state after it
abbrev pub answer_in : {A S : Type 0} → A × S → A
answer_in (answer, _) = answer

abbrev pub state_in : {A S : Type 0} → A × S → S
state_in (_, after) = after

-- one of two routines
abbrev pub choose : {A : Type 0} → Bool → Routine A → Routine A → Routine A
choose true m n = m
choose false m n = n

-- goes on where the answer is no fault
abbrev pub tried : {A B E : Type 0} → Result A E → (A → Routine (Result B E)) → Routine (Result B E)
tried (Ok a) f = f a
tried (Err e) f = Return (Err e)

infixl 10 ◌>>=◌ ◌>>◌
abbrev pub ◌>>=◌ : {A B E : Type 0} → Routine (Result A E) → (A → Routine (Result B E)) → Routine (Result B E)
m >>= f = Then m (λ r. tried r f)

abbrev pub ◌>>◌ : {A B E : Type 0} → Routine (Result A E) → Routine (Result B E) → Routine (Result B E)
m >> n = m >>= λ _. n

-- goes on in either case
abbrev pub either : {A B E : Type 0} → Result A E → (E → Routine B) → (A → Routine B) → Routine B
either (Ok a) g f = f a
either (Err e) g f = g e

abbrev pub caught : {A B E : Type 0} → Routine (Result A E) → (E → Routine B) → (A → Routine B) → Routine B
caught m g f = Then m (λ r. either r g f)

-- the fault in other words
abbrev pub other_fault : {A E F : Type 0} → (E → F) → Result A E → Result A F
other_fault g (Ok a) = Ok a
other_fault g (Err e) = Err (g e)

abbrev pub failing : {A E F : Type 0} → (E → F) → Routine (Result A E) → Routine (Result A F)
failing g m = Then m (λ r. Return (other_fault g r))

-- a call that cannot fail
abbrev pub sure : {A E : Type 0} → Routine A → Routine (Result A E)
sure m = Then m (λ a. Return (Ok a))

abbrev pub fetch : Space → ℕ → Routine (Result ℕ Fault)
fetch space at = Ask (Fetch space at)

abbrev pub read : Space → Piece → Routine (Result ℕ Fault)
read space piece = Ask (Read space piece)

abbrev pub write : Space → Piece → ℕ → Routine (Result (Unit {0}) Fault)
write space piece value = Ask (Write space piece value)

abbrev pub read_line : Space → ℕ → Routine (Result (List ℕ) Fault)
read_line space at = Ask (ReadLine space at)

abbrev pub write_line : Space → ℕ → List ℕ → Routine (Result (Unit {0}) Fault)
write_line space at line = Ask (WriteLine space at line)

abbrev pub probe : Space → Piece → Routine (Result Place Fault)
probe space piece = Ask (Probe space piece)

abbrev pub get : Place → Routine ℕ
get place = Ask (Get place)

abbrev pub put : Place → ℕ → Routine (Unit {0})
put place value = Ask (Put place value)

abbrev pub mmu : Routine Mmu
mmu = Ask ReadMmu

abbrev pub set_mmu : MmuReg → ℕ → Routine (Unit {0})
set_mmu which value = Ask (SetMmu which value)

abbrev pub flush : Flush → Routine (Unit {0})
flush what = Ask (FlushKept what)

abbrev pub test : Space → ℕ → Bool → Routine ℕ
test space at for_write = Ask (Test space at for_write)

abbrev pub reset_devices : Routine (Unit {0})
reset_devices = Ask ResetDevices
