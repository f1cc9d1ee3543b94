-- The entry of an exception.
use Rattle.std.specs.Prelude.{ℕ, ◌+◌, ◌*◌, ◌/◌, ◌%◌, ◌==◌, ◌||◌, ◌&&◌, nat_lt, bit_or}
use Rattle.std.specs.Prelude.{Bool, false, if◌then◌else◌, List, [], ◌∷◌, length, drop, Option, Some, None}
use Rattle.std.specs.Prelude.{Result, Ok}
use Rattle.byteorder.specs.Endian.{big_number}
use Rattle.mb_port.specs.Routine.{Routine, Return, Then, ◌>>=◌, caught, put}
use Rattle.mb_port.specs.Pieces.{cut}
use Rattle.mb_port.specs.declared.types.Space.TheVariants.{Super}
use Rattle.mb_port.specs.declared.types.Place.{Place}
use Rattle.mb_port.specs.declared.types.Fault.{Fault}
use Rattle.mb_instr.specs.declared.registers.Regs.{Regs}
use Rattle.mb_instr.specs.declared.vectors.TheConstants.{ODD_COUNTER, ZERO_DIVIDE, OUT_OF_BOUNDS, CONDITION_MET, TRACE}
use Rattle.mb_instr.specs.declared.status.TheConstants.{I, LEVELS, M, S}
use Rattle.mb_instr.specs.Registers.{is_master}
use Rattle.mb_frames.specs.declared.frame.Access.{Access}
use Rattle.mb_frames.specs.declared.frame.Frame.{Frame}
use Rattle.mb_frames.specs.declared.frame.Frame.TheVariants as frame
use Rattle.mb_frames.specs.Layout.{frame_bytes}
use Rattle.mb_model.specs.declared.processor.Cpu.{Cpu}
use Rattle.mb_ea.specs.Addresses.{sum, difference}
use Rattle.mb_ea.specs.Reading.{read_operand_of}
use Rattle.def_processor.specs.declared.entering.Cause.{Cause}
use Rattle.def_processor.specs.declared.entering.Entered.{Entered}
use Rattle.def_processor.specs.declared.entering.Entered.TheVariants as entered
use Rattle.mb_writes.specs.Checked.{probe_pieces_of}

-- ---- causes

-- an interrupt, which has a level
abbrev pub is_interrupt : Cause → Bool
is_interrupt c = nat_lt 0 c.level

-- odd PC, zero divide, CHK and CHK2, TRAPcc and TRAPV, and trace: their frame has an address
abbrev pub has_address : ℕ → Bool
has_address vector =
    (vector == ODD_COUNTER) || (vector == ZERO_DIVIDE) || (vector == OUT_OF_BOUNDS) || (vector == CONDITION_MET)
    || (vector == TRACE)

-- ---- the status register

-- S is set, T1 and T0 are cleared
abbrev pub supervised : ℕ → ℕ
supervised sr = S + sr % S

-- M is cleared
abbrev pub without_master : ℕ → ℕ
without_master sr = sr / S * S + sr % M

-- the interrupt mask is the level
abbrev pub with_mask : ℕ → ℕ → ℕ
with_mask level sr = sr / (LEVELS * I) * (LEVELS * I) + level * I + sr % I

-- what the handler of a cause begins with, but for M
abbrev pub handler_sr : Cause → ℕ → ℕ
handler_sr c sr = if is_interrupt c then with_mask c.level (supervised sr) else supervised sr

-- the saved SR in a throwaway frame: S is set
abbrev pub thrown_sr : ℕ → ℕ
thrown_sr sr = bit_or sr S

-- ---- frames

-- the frame of a cause, with the saved SR: $7 with an access error's fields, $2 with an address, or $0
abbrev pub frame_with : Option Access → ℕ → Cause → Frame
frame_with (Some access) sr c = frame.Access sr c.pc (4 * c.vector) access
frame_with None sr c =
    if has_address c.vector then frame.Address sr c.pc (4 * c.vector) c.address
    else frame.Short sr c.pc (4 * c.vector)

abbrev pub frame_of : ℕ → Cause → Frame
frame_of sr c = frame_with c.access sr c

-- the frame $1 of an interrupt, above the one on the master stack
abbrev pub throwaway_of : ℕ → Cause → Frame
throwaway_of sr c = frame.Throwaway (thrown_sr sr) c.pc (4 * c.vector)

-- the bytes of a frame, and the address of the lowest
pub record Stacked : Type 0 where
  pub at : ℕ
  pub bytes : List ℕ

-- a frame below the top of a stack
abbrev pub stacked : Frame → ℕ → Stacked
stacked f top = record { at = difference top (length (frame_bytes f)); bytes = frame_bytes f }

-- the stack of a handler, which has S set: MSP where M is set, else ISP
abbrev pub handler_stack : Regs → ℕ
handler_stack r = if is_master r.sr then r.msp else r.isp

abbrev pub with_handler_stack : Regs → ℕ → Regs
with_handler_stack r top = if is_master r.sr then record r { msp = top } else record r { isp = top }

-- the frames of an exception; an interrupt can have a second one
pub record Frames : Type 0 where
  pub first : Stacked
  pub second : Option Stacked

-- The frame of a cause is on the handler's stack. An interrupt with M set has a throwaway frame on the interrupt stack
-- too.
unfoldable pub frames_of : Cause → Regs → Frames
frames_of c r = record {
  first = stacked (frame_of r.sr c) (handler_stack r);
  second = if is_interrupt c && is_master r.sr then Some (stacked (throwaway_of r.sr c) r.isp) else None;
}

-- where there is a second frame, M is cleared, and the interrupt stack has it
abbrev pub with_second : Option Stacked → Regs → Regs
with_second None r = r
with_second (Some s) r = record r { sr = without_master r.sr; isp = s.at }

-- The registers once the frames are written: SR is the handler's, each stack that took a frame is lowered, and PC is
-- the one that was stacked until the vector is read.
abbrev pub handler_regs : Cause → Frames → Regs → Regs
handler_regs c f r =
    with_second f.second (record (with_handler_stack r f.first.at) { sr = handler_sr c r.sr; pc = c.pc })

-- ---- checking and writing

-- The pieces of a frame are checked for writing in order, as they are cut greedily from its lowest address on.
abbrev pub probe_frame_of : Stacked → Routine (Result (List Place) Fault)
probe_frame_of s = probe_pieces_of Super (cut (length s.bytes) s.at (length s.bytes)) []

-- bytes go to the checked places, in order
abbrev pub put_bytes_of : List Place → List ℕ → Routine (Unit {0})
put_bytes_of [] bytes = Return tt
put_bytes_of (p ∷ ps) bytes = Then (put p (big_number p.len bytes)) (λ done. put_bytes_of ps (drop p.len bytes))

-- a second frame, where there is one
abbrev pub probe_second_of : Option Stacked → Routine (Result (List Place) Fault)
probe_second_of None = Return (Ok [])
probe_second_of (Some s) = probe_frame_of s

abbrev pub put_second_of : Option Stacked → List Place → Routine (Unit {0})
put_second_of None places = Return tt
put_second_of (Some s) places = put_bytes_of places s.bytes

-- where the frames stand
pub record Places : Type 0 where
  pub first : List Place
  pub second : List Place

-- every piece of every frame is checked before any is written
abbrev pub check_frames_of : Frames → Routine (Result Places Fault)
check_frames_of f = do
  first ← probe_frame_of f.first
  second ← probe_second_of f.second
  Return (Ok (record { first = first; second = second }))

-- the frames go to the checked places
abbrev pub put_frames_of : Frames → Places → Routine (Unit {0})
put_frames_of f places = Then (put_bytes_of places.first f.first.bytes) (λ done. put_second_of f.second places.second)

-- ---- the entry

-- what an entry came to, and the processor then
abbrev pub Entrance : Type 0
Entrance = Entered × Cpu

-- A check was refused. Of an access error's frame it halts the processor, with the registers as they were to be
-- stacked; else they are as before.
abbrev pub unstacked : Option Access → Fault → Cause → Cpu → Entrance
unstacked (Some access) fault c cpu = (entered.DoubleFault, record cpu { regs = record cpu.regs { pc = c.pc } })
unstacked None fault c cpu = (entered.Faulted fault, cpu)

-- the new PC is a long in the table of vectors; where it can't be read the processor halts
abbrev pub go_to_handler_of : Cause → Cpu → Routine Entrance
go_to_handler_of c cpu =
    caught (read_operand_of Super (sum cpu.vbr (4 * c.vector)) 4)
    (λ refused. Return (entered.DoubleFault, cpu))
    (λ target. Return (entered.Done, record cpu { regs = record cpu.regs { pc = target } }))

-- an entry ends the stopped state
abbrev pub awake : Cpu → Cpu
awake cpu = record cpu { stopped = false }

-- The entry of an exception: SR is saved, the frames are checked, then written, and then the vector is read.
abbrev pub enter_of : Cause → Cpu → Routine Entrance
enter_of c cpu =
    let frames = frames_of c cpu.regs in
    caught (check_frames_of frames)
    (λ fault. Return (unstacked c.access fault c (awake cpu)))
    (λ places. Then (put_frames_of frames places)
    (λ done. go_to_handler_of c (record (awake cpu) { regs = handler_regs c frames cpu.regs })))
