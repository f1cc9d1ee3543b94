-- The devices of the board and what happens to them: the serial line with its console, the timer, the power switch, and
-- the disk where one is attached.
use Rattle.std.specs.Prelude.{◌≡◌, ◌⊎◌, ℕ, zero, suc, ◌<◌, ◌+◌, ◌-◌, ◌^◌, ◌==◌, ◌&&◌, Bool, true, false, not, List, [], ◌∷◌, ◌++◌, length, drop, min, nat_lt, slice_get, unwrap_or, if◌then◌else◌}
use Rattle.std.specs.Prelude.{Option, Some, None, option_map, is_some}
use Rattle.vm_disk.specs.Disk.{DiskState, rested}
use Rattle.mb_devices.specs.declared.devices.TheConstants.{QUEUE_ROOM, CONSOLE_ROOM}

pub record DeviceState : Type 0 where
  -- the bytes of RAM
  pub ram : ℕ
  -- the bytes that were received and not read, the oldest first
  pub queue : List ℕ
  -- a byte was received when the queue was full
  pub overrun : Bool
  -- CTRL: a received byte asks for an interrupt
  pub enabled : Bool
  -- the bytes that the console keeps, in order of sending
  pub console : List ℕ
  -- how many bytes were sent and not kept
  pub lost : ℕ
  pub period : ℕ
  pub count : ℕ
  -- the timer asks for an interrupt
  pub pending : Bool
  -- the machine is to be switched off at the end of the step
  pub off : Bool
  -- the disk, where one is attached
  pub disk : Option DiskState

-- what nothing changes that happens to them: the bytes of RAM that they show, and whether a disk is attached
abbrev pub built : DeviceState → ℕ × Bool
built d = (d.ram, is_some d.disk)

-- as a machine without a disk has them at its start
abbrev pub idle : (ram : ℕ) → DeviceState
idle ram = record {
  ram = ram;
  queue = [];
  overrun = false;
  enabled = false;
  console = [];
  lost = 0;
  period = 0;
  count = 0;
  pending = false;
  off = false;
  disk = None;
}

-- with a disk that is attached
abbrev pub attached : DiskState → DeviceState → DeviceState
attached disk d = record d { disk = Some disk }

-- ---- the serial line

abbrev pub has_received : DeviceState → Bool
has_received d = not (length d.queue == 0)

-- a byte arrives: it is queued, or dropped with an overrun
abbrev pub received : ℕ → DeviceState → DeviceState
received byte d =
    if nat_lt (length d.queue) QUEUE_ROOM then record d { queue = d.queue ++ byte ∷ [] }
    else record d { overrun = true }

-- the oldest received byte, 0 where there is none, and the queue without it
abbrev pub oldest : DeviceState → ℕ
oldest d = unwrap_or (slice_get d.queue 0) 0

abbrev pub without_oldest : DeviceState → DeviceState
without_oldest d = record d { queue = drop 1 d.queue }

-- a byte is sent: the console keeps it, or counts it as lost. The count stands still at 2^64 - 1
abbrev pub sent : ℕ → DeviceState → DeviceState
sent byte d =
    if nat_lt (length d.console) CONSOLE_ROOM then record d { console = d.console ++ byte ∷ [] }
    else record d { lost = min (d.lost + 1) (2 ^ 64 - 1) }

-- ---- the timer

-- PERIOD is set, and COUNT starts from it
abbrev pub started : ℕ → DeviceState → DeviceState
started period d = record d { period = period; count = period }

-- COUNT falls by 1. Where it reaches 0 the timer asks for an interrupt, and COUNT starts again
abbrev pub timer_counted : DeviceState → DeviceState
timer_counted d =
    let count = d.count - 1 in
    if count == 0 then record d { pending = true; count = d.period } else record d { count = count }

-- one step of the machine: a timer of period 0 stands still
unfoldable pub ticked : DeviceState → DeviceState
ticked d = if d.period == 0 then d else timer_counted d

-- so many ticks
abbrev pub ticks : ℕ → DeviceState → DeviceState
ticks zero d = d
ticks (suc n) d = ticks n (ticked d)

-- the timer does not come to 0 in so many
abbrev pub IsNotDue : ℕ → DeviceState → Type 0
IsNotDue n d = (d.period ≡ 0) ⊎ (n < d.count)

-- so many ticks at once, none of which is due
abbrev pub passed : ℕ → DeviceState → DeviceState
passed n d = if d.period == 0 then d else record d { count = d.count - n }

-- ---- interrupts, RESET

-- the level that is asked for: 6 by the timer, 4 by a received byte where that is enabled, else 0
abbrev pub level_of : DeviceState → ℕ
level_of d = if d.pending then 6 else if d.enabled && has_received d then 4 else 0

-- the instruction RESET: the console stays, and of the disk its blocks
abbrev pub reset_of : DeviceState → DeviceState
reset_of d =
    record d {
      queue = [];
      overrun = false;
      enabled = false;
      period = 0;
      count = 0;
      pending = false;
      disk = option_map rested d.disk;
    }

-- begun again: as at the start, but that a disk stays attached, with its blocks
abbrev pub restarted : DeviceState → DeviceState
restarted d = record (idle d.ram) { disk = option_map rested d.disk }
