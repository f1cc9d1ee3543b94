-- A run by a rule is a free run.
use Rattle.std.proofs.Common.{◌≡◌, ℕ, zero, suc, List, refl, sym, ◌∙◌, ap, subst, inl, inr}
use Rattle.std.proofs.lemmas.Bool.{cases_Bool}
use Rattle.mb_port.specs.Routine.{run}
use Rattle.mb_model.specs.declared.processor.Cpu.{Cpu}
use Rattle.mb_model.specs.Keeping.{Rule, KeptLists}
use Rattle.mb_devices.specs.Devices.{DeviceState}
use Rattle.def_processor.specs.declared.Finish.{Finish}
use Rattle.def_processor.specs.Step.{step_of}
use Rattle.law_routines.proofs.Related.{runs_may_follow, along}
use Rattle.def_machine.specs.World.{World}
use Rattle.def_machine.specs.Bus.{bus_of}
use Rattle.def_machine.specs.Machine.{Entries, Machine, begun, one_later, stepped, takes_steps, run_of, reset_with, asked_of}
use Rattle.def_runs.specs.Free.{StandIn, rule_free, FreeStep, FreeRun, WorldWithin, Within, IsFreeRun}
use Rattle.def_runs.proofs.Calls.{calls-are_free}
use Rattle.def_runs.proofs.KeptLemmas.{none-kept}

-- ---- a step

later_within : (b : Machine) (held : KeptLists) (finish : Finish) (cpu : Cpu) (w u : World) → WorldWithin w u
    → Within (one_later b finish cpu w) (one_later (record b { world = record b.world { kept = held } }) finish cpu u)
later_within b held finish cpu w u h =
    subst (λ (v : World). Within (one_later b finish cpu w) (one_later (record b { world = record b.world { kept = held } }) finish cpu v))
    (sym h.same) (record { same = refl; kept = h.kept })

step_from : (rule : Rule) (script : Entries) (m : Machine) (held : KeptLists) → StandIn m.world.kept held
    → (after : Machine) × FreeStep script (record m { world = record m.world { kept = held } }) after × Within (stepped rule script m) after
step_from rule script m held stand =
    let b = begun script m in
    let routine = step_of (asked_of script b) b.cpu in
    let here = record b.world { kept = held } in
    let within : WorldWithin b.world here = record { same = refl; kept = stand } in
    let f = runs_may_follow (calls-are_free rule) routine b.world here within (along (bus_of rule) (λ c s. tt) routine b.world) in
    let r = run (bus_of rule) routine b.world in (
      one_later (record b { world = here }) r.0.0 r.0.1 f.0,
      (r.0, f.0, f.1, refl),
      later_within b held r.0.0 r.0.1 r.1 f.0 f.2,
    )

step_within : (rule : Rule) (script : Entries) (m free : Machine) → Within m free
    → (after : Machine) × FreeStep script free after × Within (stepped rule script m) after
step_within rule script m free h =
    subst (λ (t : Machine). (after : Machine) × FreeStep script t after × Within (stepped rule script m) after) (sym h.same)
    (step_from rule script m free.world.kept h.kept)

-- ---- a run

pub run-is_free : (rule : Rule) (script : Entries) (n : ℕ) (m : Machine) → IsFreeRun script n m (run_of rule script n m)
unfolding run_of IsFreeRun
run-is_free rule script zero m free h = (free, refl, h)
run-is_free rule script (suc n) m free h =
    let alike : takes_steps free.state ≡ takes_steps m.state = ap (λ (t : Machine). takes_steps t.state) h.same in
    elim (cases_Bool (takes_steps m.state)) [
      | inl going ↦
          let s = step_within rule script m free h in
          let rest = run-is_free rule script n (stepped rule script m) s.0 s.2 in
          (rest.0, inr (alike ∙ going, (s.0, s.1, rest.1)), rw going rest.2)
      | inr still ↦ (free, inl (alike ∙ still, refl), rw still h)
    ]

-- nothing is kept at reset
reset_within : (rule : Rule) (devices : DeviceState) (ram : List ℕ) → Within (reset_with rule devices ram) (reset_with rule_free devices ram)
unfolding reset_with
reset_within rule devices ram = record { same = refl; kept = λ k h. absurd (none-kept rule.classes k h) }

pub run-from_reset : (rule : Rule) (script : Entries) (n : ℕ) (devices : DeviceState) (ram : List ℕ)
    → (after : Machine) × FreeRun script n (reset_with rule_free devices ram) after
    × Within (run_of rule script n (reset_with rule devices ram)) after
unfolding IsFreeRun
run-from_reset rule script n devices ram =
    run-is_free rule script n (reset_with rule devices ram) (reset_with rule_free devices ram) (reset_within rule devices ram)

-- a machine that is where a run by a rule comes to
pub ended-is_free : (rule : Rule) (script : Entries) (n : ℕ) (m after : Machine) → after ≡ run_of rule script n m → IsFreeRun script n m after
ended-is_free rule script n m after e = subst (λ (t : Machine). IsFreeRun script n m t) (sym e) (run-is_free rule script n m)
