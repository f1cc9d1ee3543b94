-- What the frame of an access error holds, in each of its five cases. The places of the fields and of
-- their bits are the processor's; what stands in them in which case is this board's own choice.
use Rattle.std.specs.Prelude.{ℕ, ◌+◌, ◌*◌, ◌/◌, ◌%◌, ◌==◌, ◌&&◌, Bool, true, false, not, if◌then◌else◌, Option, Some, None, List, slice_get, slice_index}
use Rattle.mb_port.specs.declared.types.Space.{Space}
use Rattle.mb_port.specs.declared.types.Space.TheVariants.{User, Super}
use Rattle.mb_port.specs.declared.types.Fault.{Fault}
use Rattle.mb_port.specs.declared.types.Piece.{Piece}
use Rattle.mb_port.specs.Pieces.{laid, span_of}
use Rattle.mb_frames.specs.declared.frame.Access.{Access}
use Rattle.mb_frames.specs.declared.pend.Pend.{Pend}
use Rattle.mb_frames.specs.declared.status_bits.TheConstants.{CM, MA, ATC, LK, RW, V, SIZE, TT}

-- SIZE: 00 long, 01 byte, 10 word, 11 line
abbrev pub size_code : ℕ → ℕ
size_code len = if len == 1 then 1 else if len == 2 then 2 else if len == 16 then 3 else 0

-- TT: 01 for a line of MOVE16, 00 for every other access
abbrev pub transfer_type : ℕ → ℕ
transfer_type len = if len == 16 then 1 else 0

-- TM: 1 user data, 2 user code, 5 supervisor data, 6 supervisor code
abbrev pub transfer_modifier : Space → Bool → ℕ
transfer_modifier User false = 1
transfer_modifier User true = 2
transfer_modifier Super false = 5
transfer_modifier Super true = 6

-- the low seven bits of SSW and WBnS: SIZE, TT and TM
abbrev pub access_bits : (len : ℕ) → Space → (code : Bool) → ℕ
access_bits len space code = size_code len * SIZE + transfer_type len * TT + transfer_modifier space code

-- a bit where it is set
abbrev pub bit_if : Bool → ℕ → ℕ
bit_if set bit = if set then bit else 0

abbrev pub is_other_page : (page a b : ℕ) → Bool
is_other_page page a b = not (a / page == b / page)

-- SSW with neither CM, LK nor RW, for an operand or a transfer that begins at `start`. MA is set where the
-- translation refused another page than the one where it begins
abbrev pub status : Fault → (start page : ℕ) → ℕ
status fault start page =
    bit_if (fault.atc && is_other_page page fault.at start) MA + bit_if fault.atc ATC
    + access_bits fault.len fault.space fault.code

-- WBnS of a writeback that is still to be made: the data space of the fault
abbrev pub writeback_status : Space → (len : ℕ) → ℕ
writeback_status space len = V + access_bits len space false

-- the piece that is pending
abbrev pub piece_of : Pend → Piece
piece_of p = record { at = p.at; len = p.len }

-- its value as a register holds it: in the low bytes, the others 0
abbrev pub register_aligned : Pend → ℕ
register_aligned p = p.value % span_of (piece_of p)

-- its value as the long of memory around it holds it: at its place there, the other bytes 0
abbrev pub memory_aligned : Pend → ℕ
memory_aligned p = laid (piece_of p) p.value

-- the fields where nothing has a meaning
abbrev pub no_fields : Access
no_fields = record {
  ea = 0;
  ssw = 0;
  wb3s = 0;
  wb2s = 0;
  wb1s = 0;
  fa = 0;
  wb3a = 0;
  wb3d = 0;
  wb2a = 0;
  wb2d = 0;
  wb1a = 0;
  wb1d = 0;
  pd1 = 0;
  pd2 = 0;
  pd3 = 0;
}

-- the writebacks, where there is a piece for them
abbrev pub with_writeback_1 : Space → Option Pend → Access → Access
with_writeback_1 space None a = a
with_writeback_1 space (Some p) a =
    record a { wb1s = writeback_status space p.len; wb1a = p.at; wb1d = memory_aligned p }

abbrev pub with_writeback_2 : Space → Option Pend → Access → Access
with_writeback_2 space None a = a
with_writeback_2 space (Some p) a =
    record a { wb2s = writeback_status space p.len; wb2a = p.at; wb2d = register_aligned p }

abbrev pub with_writeback_3 : Space → Option Pend → Access → Access
with_writeback_3 space None a = a
with_writeback_3 space (Some p) a =
    record a { wb3s = writeback_status space p.len; wb3a = p.at; wb3d = register_aligned p }

-- A fetch, a read or a locked check was refused, of an operand whose first byte is `first`: RW, and LK for a
-- locked check. The operand of a fetch is the word itself.
abbrev pub read_fields : Fault → (first page : ℕ) → Access
read_fields fault first page =
    let ea = if fault.code then fault.at else first in
    record no_fields {
      ea = ea;
      ssw = status fault ea page + bit_if fault.write LK + RW;
      fa = fault.at;
    }

-- A write was refused: the first piece of `rest` is the refused one, the others come after it in order.
-- Where `rest` is empty nothing is to be written.
abbrev pub write_fields : Fault → (first : ℕ) → (rest : List Pend) → (page : ℕ) → Access
write_fields fault first rest page =
    with_writeback_1 fault.space (slice_get rest 0)
    (with_writeback_2 fault.space (slice_get rest 1)
    (with_writeback_3 fault.space (slice_get rest 2)
    (record no_fields { ea = first; ssw = status fault first page; fa = fault.at })))

-- The write of a line was refused, whose four longs are these.
abbrev pub line_fields : Fault → (line : List ℕ) → (page : ℕ) → Access
line_fields fault line page =
    record no_fields {
      ea = fault.at;
      ssw = status fault fault.at page;
      fa = fault.at;
      wb1s = writeback_status fault.space 16;
      wb1a = fault.at;
      wb1d = slice_index line 0;
      pd1 = slice_index line 1;
      pd2 = slice_index line 2;
      pd3 = slice_index line 3;
    }

-- A transfer of a MOVEM was refused, after `done` whole ones: the first of all is at `first`, this one at `start`.
-- `words` are the operation and mask words, `next` is the address of the next instruction.
abbrev pub movem_fields : Fault → (first start done words next : ℕ) → (is_load : Bool) → (page : ℕ) → Access
movem_fields fault first start done words next is_load page =
    record no_fields {
      ea = first;
      ssw = status fault start page + CM + bit_if is_load RW;
      fa = fault.at;
      pd1 = next;
      pd2 = words;
      pd3 = done;
    }

-- The check of a frame's piece was refused: a write of supervisor data that is an operand of its own.
abbrev pub check_fields : Fault → Access
check_fields fault =
    record no_fields {
      ea = fault.at;
      ssw = bit_if fault.atc ATC + access_bits fault.len Super false;
      fa = fault.at;
    }

-- the five cases
pub data AccessCase : Type 0 where
  Read : (fault : Fault) (first : ℕ) → AccessCase
  Write : (fault : Fault) (first : ℕ) (rest : List Pend) → AccessCase
  Line : (fault : Fault) (line : List ℕ) → AccessCase
  Movem : (fault : Fault) (first start done words next : ℕ) (is_load : Bool) → AccessCase
  Check : (fault : Fault) → AccessCase

-- the fields in a case, with pages of so many bytes
abbrev pub access_fields : AccessCase → (page : ℕ) → Access
access_fields (Read fault first) page = read_fields fault first page
access_fields (Write fault first rest) page = write_fields fault first rest page
access_fields (Line fault line) page = line_fields fault line page
access_fields (Movem fault first start done words next is_load) page =
    movem_fields fault first start done words next is_load page
access_fields (Check fault) page = check_fields fault
