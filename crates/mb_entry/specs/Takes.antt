-- What the readings of frames answer.
use Rattle.std.specs.Prelude.{ℕ, ◌≡◌, ◌≤◌, true, List, Option, Some, None, Result, Ok, Err}
use Rattle.arrayvec.specs.ArrayVec.{ArrayVec}
use Rattle.mb_ea.specs.declared.reading.ReadFault.{ReadFault}
use Rattle.mb_writes.specs.declared.ends.Ended.{Ended}
use Rattle.mb_instr.specs.declared.registers.Regs.{Regs}
use Rattle.mb_frames.specs.declared.frame.Access.{Access}
use Rattle.mb_writes.specs.Transfers.{count_of, mask_in}
use Rattle.def_processor.specs.Return as return
use Rattle.def_processor.specs.Return.{continues}
use Rattle.mb_entry.specs.declared.taking.Head.{Head}

abbrev pub head_seen : Head → return.Head
head_seen h = record { sr = h.sr; pc = h.pc; format = h.format }

abbrev pub headed : Result Head ReadFault → Result return.Head ReadFault
headed (Ok head) = Ok (head_seen head)
headed (Err refused) = Err refused

-- what the taking of frames answered, with the registers after it
abbrev pub took : Result (Option Access) Ended → Regs → Result return.Taken Ended
took (Ok access) r = Ok (record { regs = r; access = access })
took (Err ended) r = Err ended

-- what the reading of longs answered
abbrev pub longs_read : Result (ArrayVec ℕ) ReadFault → Result (List ℕ) ReadFault
longs_read (Ok longs) = Ok longs.items
longs_read (Err refused) = Err refused

-- of a MOVEM that goes on no more transfers are done than its mask has
abbrev pub CanGoOn : Option Access → Type 0
CanGoOn None = Unit {0}
CanGoOn (Some a) = continues a ≡ true → a.pd3 ≤ count_of (mask_in a.pd2)
