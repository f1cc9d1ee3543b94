-- A guest's machine is by rule K, whatever becomes of its shadow.
use Rattle.std.proofs.Common.{◌≡◌, ◌∙◌, zero, suc, refl, ap, inl, inr}
use Rattle.std.proofs.lemmas.Bool.{cases_Bool}
use Rattle.mb_port.specs.Routine.{Routine, run}
use Rattle.mb_model.specs.Keeping.{rule_k}
use Rattle.def_processor.specs.Step.{step_of}
use Rattle.def_processor.specs.Raise.{Stepped}
use Rattle.law_routines.specs.Alike.{Mirrors}
use Rattle.law_routines.specs.Tree.{routine_of}
use Rattle.law_routines.specs.Refusal.{any_call}
use Rattle.law_routines.proofs.Related.{along}
use Rattle.law_routines.proofs.Simulated.{run_mirrors}
use Rattle.def_machine.specs.World.{World}
use Rattle.def_machine.specs.Bus.{bus_of}
use Rattle.def_machine.specs.Machine.{Machine, one_later, takes_steps, run_of, asked_of}
use Rattle.def_guests.specs.Guests.{Guest}
use Rattle.def_guests.specs.Bus.{guest_bus}
use Rattle.def_guests.specs.Turns.{bus_side, guest_begun, advanced, turn_of, prepared}
use Rattle.def_guests.specs.Laws.{RunsAreByRule, StepsAreByRule, TurnsAreByRule, GuestsRunAlone}

-- a guest's world, and a machine's
abbrev Has : Guest → World → Type 0
Has g w = g.world ≡ w

calls_by_rule : Mirrors Has (any_call {S = Guest}) guest_bus (bus_of rule_k)
calls_by_rule = record {
  answer = λ c s t r l. ap (λ (w : World). (bus_of rule_k c w).0) r;
  kept = λ c s t r l. ap (λ (w : World). (bus_of rule_k c w).1) r;
}

pub runs_by_rule : {A : Type 0} (m : Routine A) (g : Guest)
    → ((run guest_bus m g).0 ≡ (run (bus_of rule_k) m g.world).0) × ((run guest_bus m g).1.world ≡ (run (bus_of rule_k) m g.world).1)
runs_by_rule m g = run_mirrors calls_by_rule m g g.world refl (along guest_bus (λ c s. tt) m g)

pub trees_by_rule : {A : Type 0} → RunsAreByRule A
trees_by_rule m g = runs_by_rule (routine_of m) g

later_machine : (b : Machine) (r q : Stepped) (v w : World) → r ≡ q → v ≡ w → one_later b r.0 r.1 v ≡ one_later b q.0 q.1 w
later_machine b r q v w e f = ap (λ (x : Stepped). one_later b x.0 x.1 v) e ∙ ap (λ (x : World). one_later b q.0 q.1 x) f

pub steps_by_rule : StepsAreByRule
steps_by_rule script g =
    let b = guest_begun script g in
    let r = runs_by_rule (step_of (asked_of script b.machine) b.machine.cpu) (bus_side b) in
    later_machine b.machine _ _ _ _ r.0 r.1

pub turns_by_rule : TurnsAreByRule
unfolding turn_of run_of
turns_by_rule script zero t = refl
turns_by_rule script (suc n) t = elim (cases_Bool (takes_steps t.guest.machine.state)) [
  | inl going ↦ rw going (turns_by_rule script n (advanced script t) ∙ ap (run_of rule_k script n) (steps_by_rule script t.guest))
  | inr still ↦ rw still refl
]

pub guests_run_alone : GuestsRunAlone
guests_run_alone opening script size n = turns_by_rule script n (prepared opening size)
