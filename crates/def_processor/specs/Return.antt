-- RTE: the return from an exception.
use Rattle.std.specs.Prelude.{ℕ, zero, suc, ◌-◌, ◌/◌, ◌%◌, ◌^◌, ◌==◌, ◌&&◌, not, nat_le}
use Rattle.std.specs.Prelude.{Bool, true, false, if◌then◌else◌, List, [], ◌∷◌, ◌++◌, slice_index, Option, Some, None}
use Rattle.std.specs.Prelude.{Result, Ok, Err}
use Rattle.mb_port.specs.Bits.{has_bit}
use Rattle.mb_port.specs.Routine.{Routine, Return, Then, ◌>>=◌, caught, choose, failing}
use Rattle.mb_port.specs.declared.types.Space.TheVariants.{Super}
use Rattle.mb_instr.specs.declared.size.Size.TheVariants.{Word, Long}
use Rattle.mb_instr.specs.declared.instruction.Move.{Move}
use Rattle.mb_instr.specs.declared.instruction.Move.TheVariants as move
use Rattle.mb_instr.specs.declared.instruction.Instr.TheVariants as instr
use Rattle.mb_instr.specs.declared.registers.Plain.{Plain}
use Rattle.mb_instr.specs.declared.registers.Regs.{Regs}
use Rattle.mb_instr.specs.declared.vectors.TheConstants.{FORMAT_ERROR}
use Rattle.mb_instr.specs.Sizes.{bytes_of}
use Rattle.mb_instr.specs.Registers.{is_supervisor, active_stack, with_stack, plain_of, with_plain}
use Rattle.mb_frames.specs.declared.frame.Access.{Access}
use Rattle.mb_frames.specs.declared.status_bits.TheConstants.{CM}
use Rattle.mb_frames.specs.Layout.{frame_length}
use Rattle.mb_frames.specs.declared.places.TheConstants.{SR_PLACE, PC_PLACE, FORMAT_PLACE, FIELDS_PLACE}
use Rattle.mb_frames.specs.Reading.{access_by, format_of_word}
use Rattle.mb_model.specs.declared.processor.Cpu.{Cpu}
use Rattle.mb_model.specs.Status.{space_of, kept_status}
use Rattle.mb_decode.specs.declared.front.Decoded.{Decoded}
use Rattle.mb_decode.specs.declared.front.Decoded.TheVariants.{Whole}
use Rattle.mb_decode.specs.Decodes.{decode_of}
use Rattle.mb_ea.specs.declared.reading.ReadFault.{ReadFault}
use Rattle.mb_ea.specs.Addresses.{sum}
use Rattle.mb_ea.specs.Reading.{read_operand_of}
use Rattle.mb_writes.specs.declared.ends.Ended.{Ended}
use Rattle.mb_writes.specs.declared.ends.Ended.TheVariants as ended
use Rattle.mb_writes.specs.Moving.{Halfway, transfer_of}
use Rattle.mb_writes.specs.Transfers.{count_of, operation_in, mask_in, movem_in}

-- ---- frames, as they are read

-- what every frame begins with
pub record Head : Type 0 where
  pub sr : ℕ
  pub pc : ℕ
  pub format : ℕ

-- at an address: SR, PC and the format word, each an operand of its own; the low bits of the last do not count
abbrev pub read_head_of : ℕ → Routine (Result Head ReadFault)
read_head_of at = do
  sr ← read_operand_of Super (sum at SR_PLACE) (bytes_of Word)
  pc ← read_operand_of Super (sum at PC_PLACE) (bytes_of Long)
  word ← read_operand_of Super (sum at FORMAT_PLACE) (bytes_of Word)
  Return (Ok (record { sr = kept_status sr; pc = pc; format = format_of_word word }))

-- so many longs from an address on, behind those so far
unfoldable pub read_longs_of : ℕ → ℕ → List ℕ → Routine (Result (List ℕ) ReadFault)
read_longs_of zero at longs = Return (Ok longs)
read_longs_of (suc n) at longs = do
  long ← read_operand_of Super at (bytes_of Long)
  read_longs_of n (sum at 4) (longs ++ long ∷ [])

abbrev pub high : ℕ → ℕ
high long = long / 2 ^ 16

abbrev pub low : ℕ → ℕ
low long = long % 2 ^ 16

-- of the longs behind the format word, the one that has a place of the frame, and the half of it that is the word there
abbrev pub long_among : List ℕ → ℕ → ℕ
long_among longs place = slice_index longs ((place - FIELDS_PLACE) / 4)

abbrev pub word_among : List ℕ → ℕ → ℕ
word_among longs place =
    if place % 4 == 0 then high (long_among longs place) else low (long_among longs place)

-- the fields of an access error in these longs, each where the frame has it
unfoldable pub access_of_longs : List ℕ → Access
access_of_longs longs = access_by (word_among longs) (long_among longs)

-- how many there are
abbrev pub access_longs : ℕ
access_longs = (frame_length 7 - FIELDS_PLACE) / 4

-- ---- the continuation of a MOVEM

-- CM: the access error came from a transfer of a MOVEM
abbrev pub continues : Access → Bool
continues a = has_bit a.ssw CM

-- MOVEM, to registers or to memory
abbrev pub is_movem : Move → Bool
is_movem (move.MovemLoad size ea mask) = true
is_movem (move.MovemStore size ea mask) = true
is_movem _ = false

-- words begin with a whole MOVEM of the table
abbrev pub begins_movem : Decoded → Bool
begins_movem (Whole (instr.Move i) n) = is_movem i
begins_movem _ = false

-- The operation and mask words are those of a MOVEM: with zeros behind them, as many as an operand then has words, they
-- are a whole one.
abbrev pub are_movem_words : ℕ → Bool
are_movem_words words = begins_movem (decode_of (operation_in words ∷ mask_in words ∷ 0 ∷ 0 ∷ []))

-- the words are those of a MOVEM, which has at least the transfers that are done
abbrev pub can_continue : Access → Bool
can_continue a = are_movem_words a.pd2 && nat_le a.pd3 (count_of (mask_in a.pd2))

-- ---- the return

abbrev pub format_error : Ended
format_error = ended.Refused FORMAT_ERROR

-- the registers with so many bytes fewer on the active stack
abbrev pub drop_bytes_of : ℕ → Regs → Regs
drop_bytes_of bytes r = with_stack r (sum (active_stack r) bytes)

-- the registers after a frame of a format, with its SR and PC
abbrev pub restore_of : (format : ℕ) → Head → Regs → Regs
restore_of format head r = record (drop_bytes_of (frame_length format) r) { sr = head.sr; pc = head.pc }

-- what was taken from the stacks: the registers then, and the fields of an access error
pub record Taken : Type 0 where
  pub regs : Regs
  pub access : Option Access

abbrev pub read_or_end : {A : Type 0} → Routine (Result A ReadFault) → Routine (Result A Ended)
read_or_end m = failing (λ refused. ended.ReadFault refused) m

-- of an access error's frame all is read before it is judged
abbrev pub access_or_format_error : Access → Regs → Result Taken Ended
access_or_format_error a r =
    if continues a && not (can_continue a) then Err format_error else Ok (record { regs = r; access = Some a })

-- $7: all longs behind the format word are read
abbrev pub take_access_of : Head → Regs → Routine (Result Taken Ended)
take_access_of head r = do
  longs ← read_or_end (read_longs_of access_longs (sum (active_stack r) FIELDS_PLACE) [])
  Return (access_or_format_error (access_of_longs longs) (restore_of 7 head r))

-- a frame without an access error's fields
abbrev pub plainly : Regs → Result Taken Ended
plainly r = Ok (record { regs = r; access = None })

-- the frame that is returned by: $0, $2, whose address is not read, or $7
abbrev pub take_frame_of : Head → Regs → Routine (Result Taken Ended)
take_frame_of head r =
    choose (head.format == 7) (take_access_of head r)
    (Return (if head.format == 0 then plainly (restore_of 0 head r) else
    if head.format == 2 then plainly (restore_of 2 head r) else Err format_error))

-- the frame on the active stack below a throwaway frame
abbrev pub take_second_of : Regs → Routine (Result Taken Ended)
take_second_of r = do
  head ← read_or_end (read_head_of (active_stack r))
  take_frame_of head r

-- $1: its SR, in which S has to be set, says which stack the frame is on that is returned by
abbrev pub take_throwaway_of : Head → Regs → Routine (Result Taken Ended)
take_throwaway_of head r =
    choose (is_supervisor head.sr)
    (take_second_of (record (drop_bytes_of (frame_length 1) r) { sr = head.sr }))
    (Return (Err format_error))

-- the frame on the active stack, and below a throwaway frame another one
abbrev pub take_frames_of : Regs → Routine (Result Taken Ended)
take_frames_of r = do
  head ← read_or_end (read_head_of (active_stack r))
  choose (head.format == 1) (take_throwaway_of head r) (take_frame_of head r)

-- what is told of a $7 frame that was taken: its fields and its PC
pub record Held : Type 0 where
  pub access : Access
  pub pc : ℕ

-- how a return ended, the processor then, and what is told of its $7 frame
pub record Returned : Type 0 where
  pub ended : Ended
  pub cpu : Cpu
  pub held : Option Held

abbrev pub done_with_flow : Ended
done_with_flow = ended.Done true

-- The rest of a MOVEM was done, and PC goes to the next instruction; or a transfer was refused again.
abbrev pub continued : Access → Cpu → Result Plain Halfway → Ended × Cpu
continued a cpu (Ok p) = (done_with_flow, record cpu { regs = with_plain cpu.regs (record p { pc = a.pd1 }) })
continued a cpu (Err half) = (ended.Movem half.fault, record cpu { regs = with_plain cpu.regs half.plain })

-- A MOVEM goes on with the transfer that was refused, by the words and the address of its frame. Nothing is fetched.
abbrev pub go_on_of : Access → Cpu → Routine (Ended × Cpu)
go_on_of a cpu =
    Then (transfer_of (movem_in a.pd2) a.ea a.pd3 (space_of cpu) (plain_of cpu.regs))
    (λ moved. Return (continued a cpu moved))

-- what follows once the frames were taken
abbrev pub resumed_of : Option Access → Cpu → Routine Returned
resumed_of None cpu = Return (record { ended = done_with_flow; cpu = cpu; held = None })
resumed_of (Some a) cpu =
    let held = Some (record { access = a; pc = cpu.regs.pc }) in
    Then (choose (continues a) (go_on_of a cpu) (Return (done_with_flow, cpu)))
    (λ (end, after). Return (record { ended = end; cpu = after; held = held }))

-- RTE. Where it is not carried out all registers are as before.
abbrev pub return_from_of : Cpu → Routine Returned
return_from_of cpu =
    caught (take_frames_of cpu.regs)
    (λ ended. Return (record { ended = ended; cpu = cpu; held = None }))
    (λ taken. resumed_of taken.access (record cpu { regs = taken.regs }))

-- what a call tells that answers the end, and leaves the processor
abbrev pub returned : Returned → Ended × Cpu
returned r = (r.ended, r.cpu)

-- what is held then, of what was held before
abbrev pub held_after : Option Held → Held → Held
held_after None before = before
held_after (Some held) before = held

abbrev pub returning : Routine Returned → Routine (Ended × Cpu)
returning m = Then m (λ r. Return (returned r))

abbrev pub holding : Held → Routine Returned → Routine (Ended × Cpu × Held)
holding before m = Then m (λ r. Return (r.ended, r.cpu, held_after r.held before))
