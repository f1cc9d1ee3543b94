-- What the calls of the bus and the beginnings of steps leave alone, runs leave alone.
use Rattle.std.specs.Prelude.{◌≡◌, ℕ, zero, suc, Bool, true, false, refl, if◌then◌else◌}
use Rattle.std.proofs.Common.{◌∙◌}
use Rattle.mb_port.specs.Routine.{Call}
use Rattle.law_routines.proofs.Kept.{run_leaves}
use Rattle.mb_model.specs.Keeping.{Rule}
use Rattle.def_processor.specs.Step.{step_of}
use Rattle.def_machine.specs.World.{World}
use Rattle.def_machine.specs.Bus.{bus_of}
use Rattle.def_machine.specs.Machine.{Entries, Machine, asked_of, begun, run_of, stepped, takes_steps}

module _ {N : Type 0} (part : World → N) (rule : Rule)
    (calls : (c : Call) (w : World) → part (bus_of rule c w).1 ≡ part w)
    (begins : (script : Entries) (m : Machine) → part (begun script m).world ≡ part m.world) where
  step_leaves : (script : Entries) (m : Machine) → part (stepped rule script m).world ≡ part m.world
  step_leaves script m =
      let b = begun script m in
      run_leaves (record { call = calls }) (step_of (asked_of script b) b.cpu) b.world ∙ begins script m

  either_machine : (b : Bool) (s t : Machine) (n : N) → part s.world ≡ n → part t.world ≡ n → part (if b then s else t).world ≡ n
  either_machine true s t n h g = h
  either_machine false s t n h g = g

  pub runs_leave : (script : Entries) (steps : ℕ) (m : Machine) → part (run_of rule script steps m).world ≡ part m.world
  unfolding run_of
  runs_leave script zero m = refl
  runs_leave script (suc n) m =
      either_machine (takes_steps m.state) _ m (part m.world) (runs_leave script n (stepped rule script m) ∙ step_leaves script m) refl
