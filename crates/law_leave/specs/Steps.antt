-- The board's step of a guest's instruction, by how the held guest's attempt ends.
use Rattle.std.specs.Prelude.{◌≡◌, ℕ, ◌^◌, ◌<◌, ◌≤◌, Bool, false}
use Rattle.mb_port.specs.Routine.{run}
use Rattle.mb_instr.specs.declared.instruction.Instr.{Instr}
use Rattle.mb_instr.specs.Registers.{is_supervisor, plain_of}
use Rattle.mb_model.specs.declared.processor.Cpu.{Cpu}
use Rattle.mb_model.specs.Status.{space_of}
use Rattle.mb_writes.specs.declared.ends.Ended.{Ended}
use Rattle.mb_writes.specs.declared.ends.Ended.TheVariants as ended
use Rattle.def_processor.specs.declared.Finish.TheVariants as finish
use Rattle.def_instructions.specs.Ends.{End}
use Rattle.def_processor.specs.SystemEnds.{with_registers}
use Rattle.def_processor.specs.Step.{interrupt_mask, step_of, rank}
use Rattle.law_attempts.specs.Attempts.{IsUntraced, NoOther, fetched_by}
use Rattle.law_twins.specs.Twins.{SameEnd}
use Rattle.law_tells.specs.Laws.{HasLongs}
use Rattle.def_machine.specs.World.{World}
use Rattle.def_machine.specs.Enters.{IsUntranslated, HasRoom}
use Rattle.def_guests.specs.Guests.{Guest}
use Rattle.def_guests.specs.Bus.{guest_bus}
use Rattle.def_guests.specs.Held.{held_bus}
use Rattle.law_held.specs.Denied.{by_held, held_end}
use Rattle.law_mirror.specs.Related.{Site, setting, Related}
use Rattle.law_mirror.specs.Laws.{board_bus}
use Rattle.law_mirror.specs.Attempts.{Stays}
use Rattle.law_leave.specs.Exits.{exit_of, left, IsEnd}

-- The board's processor in user mode and the guest's see the same registers, at an instruction of which neither is
-- traced.
pub record Mirrored (x : Site) (board guest : Cpu) : Type 0 where
  pub plain : plain_of board.regs ≡ plain_of guest.regs
  pub user : is_supervisor board.regs.sr ≡ false
  pub present : space_of guest ≡ x.space
  pub board_untraced : IsUntraced board
  pub guest_untraced : IsUntraced guest
  pub longs : HasLongs (plain_of guest.regs)
  pub counter : guest.regs.pc < 2 ^ 32

-- Where the held guest's attempt is carried out, so are the board's step and the guest's own, to the same registers. Of
-- the guest its RAM alone changes, and nothing of the board outside it.
abbrev pub StepsRetire : Type 0
StepsRetire = (x : Site) (level own_level : ℕ) (board guest : Cpu) (b : World) (g : Guest) (flow : Bool)
    → Mirrored x board guest → Related x b g → rank level ≤ interrupt_mask board → rank own_level ≤ interrupt_mask guest
    → let (end, after) = held_end x.space (plain_of guest.regs) g in end ≡ ended.Done flow
    → let (native, u) = run board_bus (step_of level board) b in
    let (own, h) = run guest_bus (step_of own_level guest) g in
    (native ≡ (finish.Went, with_registers after board)) × (own ≡ (finish.Went, with_registers after guest))
    × Stays x b g u h

-- What the board's step comes to where the held guest's attempt ended otherwise.
pub record LeavesBy (x : Site) (level : ℕ) (i : Instr) (board : Cpu) (b : World) (g : Guest) (end : End) (now : Guest)
    : Type 0 where
  -- the attempt's end on the board: the same, with a fault in user space
  pub ended : Ended
  pub same : let (held, _) = end in SameEnd (setting x) ended held
  -- the board before the exception
  pub world : World
  pub stays : Stays x b g world now
  -- it enters the exception of that end, from the same registers, and nothing else changes
  pub by : let (_, after) = end in let e = exit_of i ended board (with_registers after board) in
      IsUntranslated world.mmu → HasRoom world e.cause e.cpu
      → run board_bus (step_of level board) b ≡ left e world

-- Else the board's step is the entry of the exception of the same end, of the same instruction. (Where none was
-- fetched the end says all, and any instruction will do.)
abbrev pub StepsLeave : Type 0
StepsLeave = (x : Site) (level : ℕ) (board guest : Cpu) (b : World) (g : Guest) (i : Instr)
    → Mirrored x board guest → Related x b g → rank level ≤ interrupt_mask board
    → let (found, _) = fetched_by held_bus guest g in NoOther i found
    → let (end, after) = held_end x.space (plain_of guest.regs) g in IsEnd end
    → let (_, now) = by_held x.space (plain_of guest.regs) g in LeavesBy x level i board b g (end, after) now
