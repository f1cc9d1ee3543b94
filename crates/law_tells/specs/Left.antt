-- What the end of an instruction says of what was left to do, where one of its calls was refused.
use Rattle.std.specs.Prelude.{◌≡◌, ◌⊎◌, ℕ, ◌<◌, ◌≤◌, Some, false, Result, Ok, List, [], ◌∷◌, length}
use Rattle.mb_port.specs.Routine.{Call, Answer, Routine, Return, ◌>>=◌, ◌>>◌, failing, write_line}
use Rattle.mb_port.specs.Routine.{answer_in}
use Rattle.mb_port.specs.Pieces.{IsAddressedPiece, span_of}
use Rattle.mb_port.specs.declared.types.Space.{Space}
use Rattle.mb_port.specs.declared.types.Fault.{Fault}
use Rattle.law_routines.specs.Until.{first_call}
use Rattle.law_routines.specs.Refusal.{IsFault, Fact, Tells}
use Rattle.law_routines.specs.Tree.{Tree, Do, tree_of}
use Rattle.mb_instr.specs.declared.registers.Plain.{Plain}
use Rattle.mb_frames.specs.declared.pend.Pend.{Pend}
use Rattle.mb_frames.specs.AccessFields.{piece_of}
use Rattle.mb_writes.specs.declared.transfers.Movem.{Movem}
use Rattle.mb_writes.specs.declared.ends.Ended.{Ended}
use Rattle.mb_writes.specs.declared.ends.Ended.TheVariants as ended
use Rattle.mb_writes.specs.declared.ends.WriteFault.{WriteFault}
use Rattle.mb_writes.specs.declared.ends.MovemFault.{MovemFault}
use Rattle.mb_writes.specs.Writing.{write_pieces_of}
use Rattle.mb_writes.specs.Moving.{Halfway, transfer_of}
use Rattle.def_instructions.specs.Ends.{Carried, OtherEnd, Performed}
use Rattle.law_tells.specs.Guarded.{Guarded, quiet}

-- The routines make the same calls, whatever is answered, and end alike: they do the same over every bus.
abbrev pub SameCalls : {A : Type 0} → Routine A → Routine A → Type 0
SameCalls m n = tree_of m ≡ tree_of n

-- The rest is what comes of the whole behind its first calls, whose answers have this property.
pub data Resumes {A : Type 0} (P : (c : Call) → Answer c → Type 0) : Tree A → Tree A → Type 0 where
  here : {whole : Tree A} → Resumes P whole whole
  later : (c : Call) (answer : Answer c) {next : Answer c → Tree A} {rest : Tree A} → P c answer
      → Resumes P (next answer) rest → Resumes P (Do c next) rest

-- The fault is what the bus answers to the call that the rest begins with, the refused one.
abbrev pub Answered : {S A : Type 0} → Guarded S → Routine A → S → Fault → Type 0
Answered x rest t fault = (c : Call) × (first_call rest ≡ Some c) × IsFault c (answer_in (x.bus c t)) fault

-- a part whose fault ends the instruction so, with these registers
abbrev pub ending : {A E : Type 0} → (E → Ended) → Plain → Routine (Result A E) → Routine (Result A OtherEnd)
ending how after m = failing (λ fault. record { ended = how fault; plain = after }) m

-- what is left where a write was refused: these pieces are written, and the instruction is carried out
abbrev pub completing_writes : Space → ℕ → List Pend → Carried → Routine Performed
completing_writes space first pieces done =
    ending (λ refused. ended.WriteFault refused) done.plain (write_pieces_of space first pieces) >> Return (Ok done)

-- what is left where the write of a line was refused: it is written, and the instruction is carried out
abbrev pub completing_line : Space → ℕ → List ℕ → Carried → Routine Performed
completing_line space at line done =
    ending (λ fault. ended.LineFault fault line) done.plain (write_line space at line) >> Return (Ok done)

-- transfers, of which a refused one ends the instruction with what was loaded so far
abbrev pub transferring : Routine (Result Plain Halfway) → Routine (Result Plain OtherEnd)
transferring m = failing (λ halfway. record { ended = ended.Movem halfway.fault; plain = halfway.plain }) m

-- a MOVEM from a transfer on, whose first one is at `first`
abbrev pub completing_transfers : Movem → ℕ → ℕ → Space → Plain → Routine Performed
completing_transfers m first done space p =
    transferring (transfer_of m first done space p) >>= λ moved. Return (Ok (record { flow = false; plain = moved }))

-- The instruction has written nothing, and its registers are as before: it can begin again.
abbrev pub Again : {S : Type 0} → Guarded S → Plain → S → Plain → Type 0
Again x before t after = x.unwritten t × (after ≡ before)

-- a piece of memory to be written, with a value that has no byte above it
pub record IsOwn (p : Pend) : Type 0 where
  pub placed : IsAddressedPiece (piece_of p)
  pub value : p.value < span_of (piece_of p)

abbrev pub AreOwn : List Pend → Type 0
AreOwn [] = Unit {0}
AreOwn (p ∷ ps) = IsOwn p × AreOwn ps

-- one to three such pieces
pub record IsRest (pieces : List Pend) : Type 0 where
  pub some : 1 ≤ length pieces
  pub few : length pieces ≤ 3
  pub own : AreOwn pieces

-- The rest is to write the pieces that the fault names, and no more.
abbrev pub Completes : Space → Routine Performed → WriteFault → Plain → Type 0
Completes space rest refused after = IsRest refused.rest.items × (done : Carried) × (done.plain ≡ after)
    × SameCalls rest (completing_writes space refused.first refused.rest.items done)

-- A refused write that names no piece wrote none, and the instruction begins again.
abbrev pub WriteLeft : {S : Type 0} → Guarded S → Space → Plain → Routine Performed → S → WriteFault → Plain
    → Type 0
WriteLeft x space before rest t refused after =
    (Again x before t after × (refused.rest.items ≡ [])) ⊎ Completes space rest refused after

-- The rest is to write the line of four longs, at the fault's address, and no more.
abbrev pub CompletesLine : Space → Routine Performed → Fault → List ℕ → Plain → Type 0
CompletesLine space rest fault line after = (length line ≡ 4) × (done : Carried) × (done.plain ≡ after)
    × SameCalls rest (completing_line space fault.at line done)

-- The rest is the MOVEM from the refused transfer on, with the registers that it has now. It begins at the refused
-- piece of that transfer: the pieces before it stand, so that the transfer can be done again from its first byte.
abbrev pub Continues : {S : Type 0} → Guarded S → Space → (Movem → Type 0) → Routine Performed → S → MovemFault
    → Plain → Type 0
Continues x space moves rest t refused after = (m : Movem) × moves m
    × Resumes (λ c answer. x.stands c answer t)
    (tree_of (completing_transfers m refused.first refused.done space after))
    (tree_of rest)

-- What each end says of the rest, for an instruction that began with the registers `before`, and has the registers
-- `after` now. `moves` says which MOVEM it is. No other end comes of a refused call.
abbrev pub LeftBy : {S : Type 0} → Guarded S → Space → Plain → (Movem → Type 0) → Routine Performed → S → Ended
    → Plain → Type 0
LeftBy x space before moves rest t (ended.Done flow) after = ⊥
LeftBy x space before moves rest t (ended.Trap vector) after = ⊥
LeftBy x space before moves rest t (ended.Refused vector) after = ⊥
LeftBy x space before moves rest t (ended.ReadFault refused) after =
    Answered x rest t refused.fault × Again x before t after
LeftBy x space before moves rest t (ended.WriteFault refused) after = Answered x rest t refused.fault
    × WriteLeft x space before rest t refused after
LeftBy x space before moves rest t (ended.LineFault fault line) after = Answered x rest t fault
    × CompletesLine space rest fault line after
LeftBy x space before moves rest t (ended.Movem refused) after = Answered x rest t refused.fault
    × Continues x space moves rest t refused after

abbrev pub Left : {S : Type 0} → Guarded S → Space → Plain → (Movem → Type 0) → Fact S Carried OtherEnd
Left x space before moves rest t stop = LeftBy x space before moves rest t stop.ended stop.plain

-- The routine tells this of a refused call. It begins in a state of `before`, and where it answers, of `after`.
abbrev pub Telling : {S A E : Type 0} → Guarded S → (S → Type 0) → Routine (Result A E) → Fact S A E
    → (A → S → Type 0) → Type 0
Telling x before m fact after = Tells x.same x.lawful x.allowed x.bus before m fact after

-- An instruction that began with these registers tells what was left of it, and keeps the invariant.
abbrev pub Row : {S : Type 0} → Guarded S → Space → Plain → (Movem → Type 0) → Routine Performed → Type 0
Row x space before moves m = Telling x (quiet x) m (Left x space before moves) (λ done s. x.serving s)

-- The same of a whole attempt that begins in this state: the registers before it are these but for PC, which is past
-- the words of the instruction where they are fetched.
abbrev pub Attempt : {S : Type 0} → Guarded S → Space → Plain → S → (Movem → Type 0) → Routine Performed → Type 0
Attempt x space p s moves m = Telling x (λ t. quiet x t × (t ≡ s)) m
    (λ rest t stop. (before : Plain) × (record before { pc = p.pc } ≡ p) × Left x space before moves rest t stop)
    (λ done t. x.serving t)
