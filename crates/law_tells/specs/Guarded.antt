-- A bus that refuses some calls, as instructions in one space meet it.
use Rattle.std.specs.Prelude.{◌≡◌, ◌⊎◌, ℕ, ◌+◌, ◌%◌, ◌^◌, ◌<◌, ◌≤◌, Bool, true, false, Ok, Err, List, length}
use Rattle.mb_port.specs.Routine.{Call, Answer, Fetch, Read, Write, ReadLine, WriteLine, Probe, Get, Put, ReadMmu}
use Rattle.mb_port.specs.Routine.{answer_in, state_in}
use Rattle.mb_port.specs.Routine.{SetMmu, FlushKept, Test, ResetDevices, Bus}
use Rattle.mb_port.specs.Pieces.{IsAddressedPiece}
use Rattle.mb_port.specs.declared.types.Space.{Space}
use Rattle.mb_port.specs.declared.types.Piece.{Piece}
use Rattle.mb_port.specs.declared.types.Fault.{Fault}
use Rattle.mb_model.specs.Pages.{offset_of}
use Rattle.law_routines.specs.Refusal.{Refuses}
use Rattle.law_routines.specs.Probing.{OpensProbed}

-- A bus that refuses calls, with what is said of its states.
pub record Guarded (S : Type 0) : Type 1 where
  -- the states are the same in what matters
  pub same : S → S → Type 0
  pub lawful : Call → S → Type 0
  pub allowed : Call → S → Bool
  pub bus : Bus S
  -- an invariant of states
  pub serving : S → Type 0
  -- nothing was written since an instruction began
  pub unwritten : S → Type 0
  -- the call, made again, has this answer and changes nothing that matters
  pub stands : (c : Call) → Answer c → S → Type 0

-- the states in which an instruction begins, and in which it still reads
abbrev pub quiet : {S : Type 0} → Guarded S → S → Type 0
quiet x s = x.serving s × x.unwritten s

-- a call that writes nothing
abbrev pub IsReading : Call → Type 0
IsReading (Fetch space at) = Unit {0}
IsReading (Read space piece) = Unit {0}
IsReading (Write space piece value) = ⊥
IsReading (ReadLine space at) = Unit {0}
IsReading (WriteLine space at line) = ⊥
IsReading (Probe space piece) = Unit {0}
IsReading (Get place) = ⊥
IsReading (Put place value) = ⊥
IsReading ReadMmu = ⊥
IsReading (SetMmu which value) = ⊥
IsReading (FlushKept what) = ⊥
IsReading (Test space at write) = ⊥
IsReading ResetDevices = ⊥

-- no byte of one has the offset in its page of a byte of the other: so they are apart wherever their pages lead
abbrev pub ShareNoOffset : Piece → Piece → Type 0
ShareNoOffset p q = (offset_of p.at + p.len ≤ offset_of q.at) ⊎ (offset_of q.at + q.len ≤ offset_of p.at)

-- The call is lawful in a state that serves, and is not refused.
abbrev pub Goes : {S : Type 0} → Guarded S → Call → S → Type 0
Goes x c s = x.serving s × x.lawful c s × (x.allowed c s ≡ true)

-- The call is lawful in a state that serves, and is refused.
abbrev pub IsRefused : {S : Type 0} → Guarded S → Call → S → Type 0
IsRefused x c s = x.serving s × x.lawful c s × (x.allowed c s ≡ false)

-- the first address of a line of memory
abbrev pub IsLine : ℕ → Type 0
IsLine at = (at % 16 ≡ 0) × (at < 2 ^ 32)

-- What is asked of the bus, for instructions in this space. Lawful are the calls that the trait of buses has, where
-- they are in this space: a fetch at an even address, pieces, lines at multiples of 16, places that a probe named.
pub record Guards {S : Type 0} (x : Guarded S) (space : Space) : Type 0 where
  pub refuses : Refuses x.same x.lawful x.allowed x.bus
  -- each lawful call keeps the invariant, a refused one too, and a probed place is lawful
  pub opens : OpensProbed x.serving x.lawful x.bus
  pub fetches : (at : ℕ) (s : S) → x.serving s → at % 2 ≡ 0 → at < 2 ^ 32 → x.lawful (Fetch space at) s
  pub reads : (piece : Piece) (s : S) → x.serving s → IsAddressedPiece piece → x.lawful (Read space piece) s
  pub writes : (piece : Piece) (value : ℕ) (s : S) → x.serving s → IsAddressedPiece piece
      → x.lawful (Write space piece value) s
  pub reads_lines : (at : ℕ) (s : S) → x.serving s → IsLine at → x.lawful (ReadLine space at) s
  pub writes_lines : (at : ℕ) (line : List ℕ) (s : S) → x.serving s → IsLine at → length line ≡ 4
      → x.lawful (WriteLine space at line) s
  pub probes : (piece : Piece) (s : S) → x.serving s → IsAddressedPiece piece → x.lawful (Probe space piece) s
  -- what is fetched is a word, and a line is four longs
  pub words : (at word : ℕ) (s : S) → Goes x (Fetch space at) s → answer_in (x.bus (Fetch space at) s) ≡ Ok word
      → word < 2 ^ 16
  pub lines : (at : ℕ) (line : List ℕ) (s : S) → Goes x (ReadLine space at) s
      → answer_in (x.bus (ReadLine space at) s) ≡ Ok line → length line ≡ 4
  -- the fault of a refused line is at its address
  pub line_faults : (at : ℕ) (line : List ℕ) (s : S) (fault : Fault) → IsRefused x (WriteLine space at line) s
      → answer_in (x.bus (WriteLine space at line) s) ≡ Err fault → fault.at ≡ at
  -- what only reads keeps that nothing was written, and what stands
  pub still : (c : Call) (s : S) → IsReading c → Goes x c s → x.unwritten s → x.unwritten (state_in (x.bus c s))
  pub reads_keep : (c : Call) (s : S) (d : Call) (answer : Answer d) → IsReading c → Goes x c s → x.stands d answer s
      → x.stands d answer (state_in (x.bus c s))
  -- a write keeps what stands of pieces that share no offset with it
  pub writes_keep : (p q : Piece) (value more : ℕ) (s : S) → ShareNoOffset p q → Goes x (Write space q more) s
      → x.stands (Write space p value) (Ok tt) s
      → x.stands (Write space p value) (Ok tt) (state_in (x.bus (Write space q more) s))
  -- what was read or written can be read or written again
  pub read_again : (piece : Piece) (value : ℕ) (s : S) → Goes x (Read space piece) s
      → answer_in (x.bus (Read space piece) s) ≡ Ok value
      → x.stands (Read space piece) (Ok value) (state_in (x.bus (Read space piece) s))
  pub written_again : (piece : Piece) (value : ℕ) (s : S) → Goes x (Write space piece value) s
      → answer_in (x.bus (Write space piece value) s) ≡ Ok tt
      → x.stands (Write space piece value) (Ok tt) (state_in (x.bus (Write space piece value) s))
