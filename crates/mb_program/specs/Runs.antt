-- What running all guests of a session gave.
use Rattle.std.specs.Prelude.{◌≡◌, ⊤, ◌<◌, map, Result, Ok, Err}
use Rattle.mb_model.specs.Keeping.{rule_k}
use Rattle.def_runs.specs.Native.{NativeState}
use Rattle.vm_guest.specs.Session.{GuestAtStart, SessionAtStart}
use Rattle.vm_slices.specs.Adopting.{scripts_of}
use Rattle.vm_slices.specs.Fit.{Fits, need_of}
use Rattle.vm_slices.specs.Places.{HostState, members_in}
use Rattle.vm_slices.specs.Members.{machines_of, tallies_of}
use Rattle.vm_slices.specs.declared.open_fault.OpenFault.{OpenFault}
use Rattle.vm_slices.specs.declared.open_fault.OpenFault.TheVariants as open_fault
use Rattle.mb_program.specs.Files.{Ordered}
use Rattle.mb_program.specs.Headline.{alone}
use Rattle.mb_program.specs.Direct.{CarriedOut, tallies_by}

-- The guests of a session that fits have run: each has the machine of its own run, what is counted of its steps is that
-- run's, and its script is its own.
pub record HaveRun (s : SessionAtStart) (host : HostState) : Type 0 where
  pub fits : Fits s
  pub machines : machines_of (members_in host) ≡ map (alone rule_k) s.guests
  pub tallies : tallies_of (members_in host) ≡ tallies_by s.guests
  pub scripts : scripts_of (members_in host) ≡ map (λ (guest : GuestAtStart). guest.script) s.guests

-- There is no host: the session does not fit, with both numbers; or memory ran out.
abbrev pub IsUnopened : SessionAtStart → OpenFault → Type 0
IsUnopened s (open_fault.Oversize need have) =
    (s.board < need_of s.guests) × (need ≡ need_of s.guests) × (have ≡ s.board)
IsUnopened s open_fault.Memory = ⊤

-- The guests have run, and the board has carried out their retired steps; or there is no host, and nothing is counted.
abbrev pub Runs : Ordered → NativeState → NativeState → Result HostState OpenFault → Type 0
Runs s native native_after (Ok host) = HaveRun s.session host × CarriedOut s native native_after
Runs s native native_after (Err fault) = IsUnopened s.session fault × (native_after ≡ native)
