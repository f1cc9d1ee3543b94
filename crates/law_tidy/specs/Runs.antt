-- What holds at each call of the run that searches.
use Rattle.std.specs.Prelude.{◌≡◌, ℕ, zero, suc, true}
use Rattle.mb_port.specs.Routine.{Call}
use Rattle.law_routines.specs.Relations.{Along}
use Rattle.def_processor.specs.Step.{step_of}
use Rattle.def_machine.specs.World.{World}
use Rattle.def_machine.specs.Machine.{Entries, Machine, begun, takes_steps, asked_of}
use Rattle.def_runs.specs.Tidy.{searching_bus, searching_step}

-- A fact holds at each call of a step,
abbrev pub AlongStep : (Call → World → Type 0) → Entries → Machine → Type 0
AlongStep P script m =
    let b = begun script m in Along P searching_bus (step_of (asked_of script b) b.cpu) b.world

-- and at each of so many steps, or of fewer where the machine is halted or off. So a run is tidy where its calls are.
abbrev pub AlongRun : (Call → World → Type 0) → Entries → ℕ → Machine → Type 0
AlongRun P script zero m = Unit {0}
AlongRun P script (suc n) m =
    takes_steps m.state ≡ true → AlongStep P script m × AlongRun P script n (searching_step script m)
