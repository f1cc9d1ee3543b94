-- How a board leaves a guest: the exception that the end of an instruction causes, and what its entry leaves.
use Rattle.std.specs.Prelude.{◌≡◌, ◌+◌, ◌-◌, ◌%◌, ◌≤◌, ◌&&◌, not, length, Bool, false, List, [], ◌∷◌}
use Rattle.mb_port.specs.Routine.{run}
use Rattle.mb_instr.specs.declared.instruction.Instr.{Instr}
use Rattle.mb_frames.specs.declared.pend.Pend.{Pend}
use Rattle.mb_frames.specs.AccessFields.{read_fields, write_fields, line_fields, access_fields}
use Rattle.mb_model.specs.declared.processor.Cpu.{Cpu}
use Rattle.mb_model.specs.Pages.{has_big_pages}
use Rattle.mb_model.specs.declared.pages.TheConstants.{PAGE_SIZE}
use Rattle.mb_writes.specs.declared.ends.WriteFault.{WriteFault}
use Rattle.mb_writes.specs.declared.ends.Ended.{Ended}
use Rattle.mb_writes.specs.declared.ends.Ended.TheVariants as ended
use Rattle.mb_writes.specs.Transfers.{movem_in, refused_transfer}
use Rattle.def_processor.specs.declared.entering.Cause.{Cause}
use Rattle.def_processor.specs.declared.Finish.TheVariants as finish
use Rattle.def_processor.specs.Entry.{frames_of}
use Rattle.def_processor.specs.Raise.{Stepped, traces_all, is_due, with_ct, access_cause, cause_at}
use Rattle.def_processor.specs.Step.{finish_instruction_of, movem_words, is_flow}
use Rattle.law_attempts.specs.Attempts.{IsUntraced}
use Rattle.def_machine.specs.World.{World}
use Rattle.def_machine.specs.Enters.{IsUntranslated, HasRoom, stacked_on, at_handler}
use Rattle.def_guests.specs.Guests.{Guest}
use Rattle.law_mirror.specs.Related.{Site, Related}
use Rattle.law_mirror.specs.Laws.{board_bus}

-- ---- the exception

-- what is entered, and from which registers
pub record Exit : Type 0 where
  pub cause : Cause
  pub cpu : Cpu

-- of a refused write: from the registers before the instruction where no piece is left
abbrev pub writing_exit : Bool → WriteFault → List Pend → (before after : Cpu) → Exit
writing_exit due refused [] before after = record {
  cause = access_cause before.regs.pc (write_fields refused.fault refused.first [] PAGE_SIZE);
  cpu = before;
}
writing_exit due refused (piece ∷ pieces) before after = record {
  cause = access_cause after.regs.pc
      (with_ct due (write_fields refused.fault refused.first refused.rest.items PAGE_SIZE));
  cpu = after;
}

-- by how the instruction ended, with the processor before it and after it
abbrev pub exit_of : Instr → Ended → (before after : Cpu) → Exit
exit_of i (ended.Done flow) before after = record { cause = cause_at 0 0 0; cpu = after }
exit_of i (ended.Trap vector) before after =
    record { cause = cause_at vector after.regs.pc before.regs.pc; cpu = after }
exit_of i (ended.Refused vector) before after =
    let at = before.regs.pc in record { cause = cause_at vector at (at - at % 2); cpu = before }
exit_of i (ended.ReadFault refused) before after = record {
  cause = access_cause before.regs.pc (read_fields refused.fault refused.first PAGE_SIZE);
  cpu = before;
}
exit_of i (ended.WriteFault refused) before after =
    writing_exit (is_due before.regs.sr (is_flow i)) refused refused.rest.items before after
exit_of i (ended.LineFault fault line) before after = record {
  cause = access_cause after.regs.pc (with_ct (traces_all before.regs.sr) (line_fields fault line PAGE_SIZE));
  cpu = after;
}
exit_of i (ended.Movem refused) before after =
    let words = movem_words i in
    let fields = access_fields (refused_transfer refused words after.regs.pc) PAGE_SIZE in
    record {
      cause = access_cause before.regs.pc
          (with_ct (traces_all before.regs.sr && not (movem_in words).is_load) fields);
      cpu = after;
    }

-- ---- its entry

-- how the step ends, and the board, once it is entered
abbrev pub left : Exit → World → Stepped × World
left e b =
    let after = stacked_on b (frames_of e.cause e.cpu.regs) in
    ((finish.Entered e.cause.vector, at_handler after e.cause e.cpu), after)

-- an instruction that was not carried out
abbrev pub IsEnd : Ended → Type 0
IsEnd (ended.Done flow) = ⊥
IsEnd _ = Unit {0}

-- The board's finish of an instruction that was not carried out enters one exception: its frame is written, by pages of
-- 4 KiB, and nothing else of the board changes.
abbrev pub BoardLeaves : Type 0
BoardLeaves = (b : World) (i : Instr) (end : Ended) (before after : Cpu) → IsUntraced before → IsEnd end
    → has_big_pages b.mmu ≡ false → IsUntranslated b.mmu → let e = exit_of i end before after in HasRoom b e.cause e.cpu
    → run board_bus (finish_instruction_of i end before after) b ≡ left e b

-- the frame of an exit lies below the guest
abbrev pub IsBelow : Site → Exit → Type 0
IsBelow x e = let f = (frames_of e.cause e.cpu.regs).first in f.at + length f.bytes ≤ x.base

-- A frame that is written below the guest leaves the board ready.
abbrev pub FramesLeaveReady : Type 0
FramesLeaveReady = (x : Site) (b : World) (g : Guest) (e : Exit) → Related x b g → HasRoom b e.cause e.cpu
    → IsBelow x e → let (_, after) = left e b in Related x after g
