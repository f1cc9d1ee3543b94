-- The read that a board's access error tells.
use Rattle.std.specs.Prelude.{◌%◌, ◌==◌, ◌&&◌, not, Bool, false, if◌then◌else◌, Option, Some, None}
use Rattle.mb_port.specs.declared.types.Space.{Space}
use Rattle.mb_port.specs.Bits.{has_bit}
use Rattle.mb_frames.specs.declared.status_bits.TheConstants.{LK, RW}
use Rattle.mb_frames.specs.declared.frame.Access.{Access}
use Rattle.mb_frames.specs.declared.frame.Frame.{Frame}
use Rattle.def_processor.specs.Return.{continues}
use Rattle.def_machine.specs.declared.reference.Reference.{Reference}
use Rattle.def_guests.specs.Exits.{frame_access}

-- a fetch or a read of an operand was refused: of the special status word RW is set, and neither LK nor CM
abbrev pub is_read : Access → Bool
is_read a = not (continues a) && (has_bit a.ssw RW && not (has_bit a.ssw LK))

-- TM, the low three bits, is 2 or 6 for code
abbrev pub is_code : Access → Bool
is_code a = a.ssw % 4 == 2

abbrev pub read_of_access : Space → Option Access → Option Reference
read_of_access space None = None
read_of_access space (Some a) =
    if is_read a then Some (record { code = is_code a; space = space; at = a.fa; write = false }) else None

-- The read that was refused, as the guest makes it in this space.
abbrev pub read_by_frame : Space → Frame → Option Reference
read_by_frame space f = read_of_access space (frame_access f)
