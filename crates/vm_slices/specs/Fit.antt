-- The board's memory that a session needs.
use Rattle.std.specs.Prelude.{ℕ, ◌+◌, ◌≤◌, List, sum_by}
use Rattle.vm_shadow.specs.declared.area.TheConstants.{AREA_BYTES}
use Rattle.def_guests.specs.declared.limits.TheConstants.{MONITOR_BYTES}
use Rattle.vm_guest.specs.Session.{GuestAtStart, SessionAtStart}

-- the bytes of a guest's RAM and tables
abbrev pub share_of : GuestAtStart → ℕ
share_of guest = guest.ram + AREA_BYTES

-- the monitor's bytes, and the shares of all guests
abbrev pub need_of : List GuestAtStart → ℕ
need_of guests = MONITOR_BYTES + sum_by share_of guests

abbrev pub Fits : SessionAtStart → Type 0
Fits session = need_of session.guests ≤ session.board
