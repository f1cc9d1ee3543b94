-- The frame of a board's exception tells the cause, and what was left to do.
use Rattle.std.specs.Prelude.{◌≡◌, ◌⊎◌, ℕ, ◌+◌, ◌-◌, ◌%◌, ◌^◌, ◌<◌, ◌≤◌, List, [], ◌∷◌, length}
use Rattle.mb_port.specs.Pieces.{span_of, IsPiece}
use Rattle.mb_instr.specs.declared.vectors.TheConstants.{ODD_COUNTER, ILLEGAL, ZERO_DIVIDE, OUT_OF_BOUNDS}
use Rattle.mb_instr.specs.declared.vectors.TheConstants.{CONDITION_MET, PRIVILEGED, LINE_A, LINE_F, FIRST_TRAP}
use Rattle.mb_frames.specs.declared.pend.Pend.{Pend}
use Rattle.mb_frames.specs.AccessFields.{piece_of, AccessCase, access_fields}
use Rattle.mb_frames.specs.AccessFields as access
use Rattle.def_processor.specs.Entry.{frame_of}
use Rattle.def_processor.specs.Raise.{cause_at}
use Rattle.def_runs.specs.declared.left.LeftOver.{LeftOver}
use Rattle.def_runs.specs.declared.left.LeftOver.TheVariants.{Again, Writes, Line, Movem}
use Rattle.def_runs.specs.Frames.{cause_in, left_in}

-- ---- causes

-- An instruction is not carried out: the PC is odd, or it is even and there is no instruction, a privileged one, or one
-- of line A or F.
abbrev pub IsRefusedAt : (vector at : ℕ) → Type 0
IsRefusedAt vector at =
    (vector ≡ ODD_COUNTER)
    ⊎ (((vector ≡ ILLEGAL) ⊎ (vector ≡ PRIVILEGED) ⊎ (vector ≡ LINE_A) ⊎ (vector ≡ LINE_F)) × (at % 2 ≡ 0))

-- An instruction traps: a zero divide, CHK or CHK2, TRAPcc or TRAPV, whose frames have its address; or TRAP #n.
abbrev pub HasTrapped : (vector at next : ℕ) → Type 0
HasTrapped vector at next =
    (vector ≡ ZERO_DIVIDE) ⊎ (vector ≡ OUT_OF_BOUNDS) ⊎ (vector ≡ CONDITION_MET)
    ⊎ ((FIRST_TRAP ≤ vector) × (vector < FIRST_TRAP + 16) × (at < 2 ^ 32) × (next ≡ (at + 2) % 2 ^ 32))

-- The frame of each tells the very cause that a step enters.
abbrev pub RefusalsTell : Type 0
RefusalsTell = (sr vector at : ℕ) → IsRefusedAt vector at
    → let c = cause_at vector at (at - at % 2) in cause_in (frame_of sr c) vector ≡ c

abbrev pub TrapsTell : Type 0
TrapsTell = (sr vector at next : ℕ) → HasTrapped vector at next
    → let c = cause_at vector next at in cause_in (frame_of sr c) vector ≡ c

-- ---- access errors

-- what is left in each of the five cases; the check of a frame leaves nothing of an instruction
abbrev pub left_by : AccessCase → LeftOver
left_by (access.Read fault first) = Again
left_by (access.Write fault first []) = Again
left_by (access.Write fault first rest) = Writes (record { items = rest }) first
left_by (access.Line fault line) = Line fault.at line
left_by (access.Movem fault first start done words next is_load) = Movem words first done next
left_by (access.Check fault) = Again

-- a piece with no byte above its value
pub record IsOwn (p : Pend) : Type 0 where
  pub piece : IsPiece (piece_of p)
  pub value : p.value < span_of (piece_of p)

abbrev pub AreOwn : List Pend → Type 0
AreOwn [] = Unit {0}
AreOwn (p ∷ ps) = IsOwn p × AreOwn ps

-- a case as steps come to it: at most three pieces, or a line of four longs
abbrev pub IsCase : AccessCase → Type 0
IsCase (access.Read fault first) = Unit {0}
IsCase (access.Write fault first rest) = (length rest ≤ 3) × AreOwn rest
IsCase (access.Line fault line) = length line ≡ 4
IsCase (access.Movem fault first start done words next is_load) = Unit {0}
IsCase (access.Check fault) = Unit {0}

-- The frame of each case tells what was left.
abbrev pub FramesTell : Type 0
FramesTell = (c : AccessCase) (page : ℕ) → IsCase c → left_in (access_fields c page) ≡ left_by c
