-- A guest's step, from what the processor's part of it leaves.
use Rattle.std.proofs.Common.{◌≡◌, ◌∙◌, ℕ, ap, sym}
use Rattle.mb_model.specs.declared.processor.Cpu.{Cpu}
use Rattle.mb_model.specs.declared.outcome.RunState.{RunState}
use Rattle.def_processor.specs.declared.StepEnd.{StepEnd}
use Rattle.def_processor.specs.Raise.{Stepped, by_its_end, step_end}
use Rattle.def_machine.specs.Machine.{state_after}
use Rattle.def_guests.specs.Guests.{Guest}
use Rattle.def_guests.specs.Turns.{Guested}
use Rattle.vm_guest.specs.Turns.{ended_at}

pub ended : (steps : ℕ) (r : Stepped × Guest) (end : StepEnd) (cpu : Cpu) (g : Guest) (state : RunState) → by_its_end r ≡ ((end, cpu), g)
    → state ≡ state_after end cpu g.world.devices
    → (let q : Guested = record { machine = record { cpu = cpu; world = g.world; steps = steps; state = state }; shadow = g.shadow } in q) ≡ ended_at steps r
ended steps r end cpu g state means is =
    let of : Cpu → Guest → RunState → Guested = λ c h s.
    record { machine = record { cpu = c; world = h.world; steps = steps; state = s }; shadow = h.shadow } in
    let e : end ≡ step_end r.0.0 = sym (ap (λ (x : (StepEnd × Cpu) × Guest). x.0.0) means) in
    let c : cpu ≡ r.0.1 = sym (ap (λ (x : (StepEnd × Cpu) × Guest). x.0.1) means) in
    let w : g ≡ r.1 = sym (ap (λ (x : (StepEnd × Cpu) × Guest). x.1) means) in
    ap (λ (s : RunState). of cpu g s) is
    ∙ ap (λ (x : StepEnd). of cpu g (state_after x cpu g.world.devices)) e
    ∙ ap (λ (x : Cpu). of x g (state_after (step_end r.0.0) x g.world.devices)) c
    ∙ ap (λ (x : Guest). of r.0.1 x (state_after (step_end r.0.0) r.0.1 x.world.devices)) w
