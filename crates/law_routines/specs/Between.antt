-- The same calls in two spaces, with places further up by a base.
use Rattle.std.specs.Prelude.{◌≡◌, ℕ, ◌+◌, ◌^◌, ◌<◌, Bool, true}
use Rattle.mb_port.specs.Routine.{Call, Answer, Fetch, Read, Write, ReadLine, WriteLine, Probe, Get, Put, ReadMmu}
use Rattle.mb_port.specs.Routine.{SetMmu, FlushKept, Test, ResetDevices}
use Rattle.mb_port.specs.declared.types.Space.{Space}
use Rattle.mb_port.specs.declared.types.Place.{Place}
use Rattle.mb_port.specs.declared.types.Fault.{Fault}
use Rattle.law_routines.specs.Twin.{Kin, Results}

-- the space of the first routine's calls, that of the second's, how much further up the first's places are, and whether
-- calls may be refused, and instructions
pub record Setting : Type 0 where
  pub here : Space
  pub there : Space
  pub base : ℕ
  pub faults : Bool
  pub refuses : Bool

abbrev pub raised : ℕ → Place → Place
raised base place = record place { at = base + place.at }

-- the first routine's call for a call of the second
abbrev pub call_here : Setting → Call → Call
call_here x (Fetch space at) = Fetch x.here at
call_here x (Read space piece) = Read x.here piece
call_here x (Write space piece value) = Write x.here piece value
call_here x (ReadLine space at) = ReadLine x.here at
call_here x (WriteLine space at line) = WriteLine x.here at line
call_here x (Probe space piece) = Probe x.here piece
call_here x (Get place) = Get (raised x.base place)
call_here x (Put place value) = Put (raised x.base place) value
call_here x ReadMmu = ReadMmu
call_here x (SetMmu which value) = SetMmu which value
call_here x (FlushKept what) = FlushKept what
call_here x (Test space at write) = Test space at write
call_here x ResetDevices = ResetDevices

-- The second's calls are accesses in its space; there is none of the memory management unit and of the devices.
abbrev pub IsThere : Setting → Call → Type 0
IsThere x (Fetch space at) = space ≡ x.there
IsThere x (Read space piece) = space ≡ x.there
IsThere x (Write space piece value) = space ≡ x.there
IsThere x (ReadLine space at) = space ≡ x.there
IsThere x (WriteLine space at line) = space ≡ x.there
IsThere x (Probe space piece) = space ≡ x.there
IsThere x (Get place) = Unit {0}
IsThere x (Put place value) = Unit {0}
IsThere x ReadMmu = ⊥
IsThere x (SetMmu which value) = ⊥
IsThere x (FlushKept what) = ⊥
IsThere x (Test space at write) = ⊥
IsThere x ResetDevices = ⊥

abbrev pub Equal : {A : Type 0} → A → A → Type 0
Equal a b = a ≡ b

-- the same word
abbrev pub SameWord : ℕ → ℕ → Type 0
SameWord a b = (a ≡ b) × (b < 2 ^ 16)

-- the same fault, in the second's space, where there are any
abbrev pub SameFault : Setting → Fault → Fault → Type 0
SameFault x f g = (x.faults ≡ true) × (g ≡ record f { space = x.there })

-- a place of the second, further up
abbrev pub IsRaised : Setting → Place → Place → Type 0
IsRaised x p q = p ≡ raised x.base q

-- the same answer, with the fault in the second's space, and with places further up
abbrev pub like : (x : Setting) → (d : Call) → Answer (call_here x d) → Answer d → Type 0
like x (Fetch space at) a b = Results SameWord (SameFault x) a b
like x (Read space piece) a b = Results Equal (SameFault x) a b
like x (Write space piece value) a b = Results Equal (SameFault x) a b
like x (ReadLine space at) a b = Results Equal (SameFault x) a b
like x (WriteLine space at line) a b = Results Equal (SameFault x) a b
like x (Probe space piece) a b = Results (IsRaised x) (SameFault x) a b
like x (Get place) a b = a ≡ b
like x (Put place value) a b = a ≡ b
like x ReadMmu a b = a ≡ b
like x (SetMmu which value) a b = a ≡ b
like x (FlushKept what) a b = a ≡ b
like x (Test space at write) a b = a ≡ b
like x ResetDevices a b = a ≡ b

abbrev pub between : Setting → Kin
between x = record { on = call_here x; may_be = IsThere x; like = like x }
