-- The session that a seed makes.
use Rattle.std.specs.Prelude.{◌≡◌, ℕ, zero, suc, ◌+◌, ◌*◌, List, [], ◌∷◌, sum_by}
use Rattle.def_machine.specs.Machine.{diskless}
use Rattle.vm_shadow.specs.declared.area.TheConstants.{AREA_BYTES}
use Rattle.def_guests.specs.declared.limits.TheConstants.{MONITOR_BYTES}
use Rattle.vm_guest.specs.Session.{GuestAtStart, SessionAtStart}
use Rattle.mb_gen.specs.declared.session.TheConstants.{GUEST_BYTES, RAM, SLICE, STEPS}
use Rattle.mb_gen.specs.Draws.{Generator, draws, after, seeded}
use Rattle.mb_gen.specs.Programs.{image}
use Rattle.mb_gen.specs.declared.program.TheConstants.{PICKS}

-- a guest of 64 KiB with more steps than its program takes, at whose terminal nothing arrives
abbrev pub guest_of : List ℕ → GuestAtStart
guest_of taken = record { opening = diskless (image taken); script = []; ram = RAM; steps = STEPS }

-- so many guests, each with the next 2,000 draws
unfoldable pub guests_from : ℕ → Generator → List GuestAtStart
guests_from zero generator = []
guests_from (suc n) generator = guest_of (draws PICKS generator) ∷ guests_from n (after PICKS generator)

-- the session of a seed and a number of guests
abbrev pub generated : ℕ → ℕ → SessionAtStart
generated seed guests =
    record { board = MONITOR_BYTES + GUEST_BYTES * guests; slice = SLICE; guests = guests_from guests (seeded seed) }

-- the board has room for just its guests: 64 KiB for a monitor, and for each guest its RAM and its tables
abbrev pub IsJustFilled : SessionAtStart → Type 0
IsJustFilled session = MONITOR_BYTES + sum_by (λ guest. guest.ram + AREA_BYTES) session.guests ≡ session.board
