-- Refills: a read that the shadow denies an attempt is filled and put at once, where nothing shows that it was, and the
-- attempt begins again.
use Rattle.std.specs.Prelude.{ℕ, zero, suc, ◌+◌, ◌&&◌, not, Bool, false, if◌then◌else◌, length}
use Rattle.std.specs.Prelude.{Option, Some, None, is_none, Ok, Err}
use Rattle.std.specs.Str.{bytes_eq}
use Rattle.mb_port.specs.Routine.{run}
use Rattle.mb_port.specs.declared.types.Fault.{Fault}
use Rattle.mb_instr.specs.Registers.{plain_of}
use Rattle.mb_model.specs.declared.processor.Cpu.{Cpu}
use Rattle.mb_model.specs.Keeping.{rule_k}
use Rattle.mb_model.specs.Pages.{page_of}
use Rattle.mb_model.specs.Status.{space_of}
use Rattle.mb_writes.specs.declared.ends.Ended.{Ended}
use Rattle.mb_writes.specs.declared.ends.Ended.TheVariants as ended
use Rattle.def_instructions.specs.Ends.{Performed}
use Rattle.def_instructions.specs.Attempt.{attempt_of}
use Rattle.def_machine.specs.declared.reference.Reference.{Reference}
use Rattle.def_machine.specs.World.{World}
use Rattle.def_machine.specs.Access.{translated}
use Rattle.vm_shadow.specs.Slots.{is_full_for}
use Rattle.def_guests.specs.Guests.{Guest}
use Rattle.def_guests.specs.Bus.{gone, is_split, is_in_ram, accessed}
use Rattle.def_guests.specs.Held.{held_bus}
use Rattle.def_guests.specs.declared.limits.TheConstants.{MOST_REFILLS}

-- ---- which reads

-- a reference of which a fault tells
abbrev pub told_by : Fault → Reference
told_by f = record { code = f.code; space = f.space; at = f.at; write = f.write }

-- The fetch, or the read of an operand, that was refused. A transfer of a MOVEM ends otherwise.
abbrev pub read_in : Ended → Option Reference
read_in (ended.ReadFault refused) = Some (told_by refused.fault)
read_in _ = None

abbrev pub denied_read : Performed → Option Reference
denied_read (Ok done) = None
denied_read (Err stop) = read_in stop.ended

-- ---- which of them are refilled

-- Where the access leads, with the world after it: it is carried out, on a page of RAM that is not split, its search
-- changes no byte, its fill drops nothing, and its put does not find the area full.
abbrev pub shows_nothing : Guest → Reference → Option ℕ × World → Bool
shows_nothing g r (None, after) = false
shows_nothing g r (Some at, after) =
    is_in_ram (length after.ram) at && (not (is_split after.mmu r.space (page_of r.at))
    && (bytes_eq after.ram g.world.ram && (is_none (gone g.world r)
    && not (is_full_for r.space (page_of r.at) g.shadow.tables))))

-- A locked check, which tells a write, is not refilled.
abbrev pub can_refill : Guest → Reference → Bool
can_refill g r = not r.write && shows_nothing g r (translated rule_k r g.world)

-- ---- begun again

-- a guest once an access was carried out: it is filled and put
abbrev pub after_access : Reference → Guest → Guest
after_access r g =
    let (_, after) = translated rule_k r g.world in record { world = after; shadow = accessed r g.world g.shadow }

-- once this read was, where there is one that is refilled
abbrev pub refilled_at : Guest → Option Reference → Option Guest
refilled_at g None = None
refilled_at g (Some r) = if can_refill g r then Some (after_access r g) else None

-- The guest from which the attempt that it is about to make begins again.
abbrev pub begun_again : Cpu → Guest → Option Guest
begun_again cpu g =
    let (performed, _) = run held_bus (attempt_of (space_of cpu) (plain_of cpu.regs)) g in
    refilled_at g (denied_read performed)

-- a guest once its attempt has begun for the last time, and how often it began again
pub record Refilled : Type 0 where
  pub guest : Guest
  pub refills : ℕ

abbrev pub once_more : Refilled → Refilled
once_more r = record { guest = r.guest; refills = r.refills + 1 }

abbrev pub going_on : (Guest → Refilled) → Guest → Option Guest → Refilled
going_on again g None = record { guest = g; refills = 0 }
going_on again g (Some h) = once_more (again h)

-- At most so often it begins again: how often it still may falls by one each time.
unfoldable pub refilled_by : ℕ → Cpu → Guest → Refilled
refilled_by zero cpu g = record { guest = g; refills = 0 }
refilled_by (suc n) cpu g = going_on (refilled_by n cpu) g (begun_again cpu g)

-- The guest whose attempt is judged.
abbrev pub refilled : Cpu → Guest → Refilled
refilled cpu g = refilled_by MOST_REFILLS cpu g
