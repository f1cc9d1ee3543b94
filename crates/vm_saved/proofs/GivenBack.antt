-- What is saved of a machine is that machine.
use Rattle.std.proofs.Common.{◌≡◌, ◌∙◌, ℕ, ◌+◌, ◌*◌, ◌/◌, ◌%◌, ◌==◌, Bool, List, [], ◌∷◌, length, refl, ap, sym, true, false}
use Rattle.std.specs.Prelude.{if◌then◌else◌}
use Rattle.std.specs.Int.{from_bool}
use Rattle.mb_model.specs.declared.outcome.RunState.{RunState}
use Rattle.mb_model.specs.declared.outcome.RunState.TheVariants.{Running, Stopped, Off}
use Rattle.mb_model.specs.Keeping.{KeptLists, list_of}
use Rattle.mb_devices.specs.Devices.{has_received}
use Rattle.mb_devices.specs.Registers.{status_of}
use Rattle.def_machine.specs.Machine.{Machine, takes_steps}
use Rattle.mb_saved.specs.Saved.{is_off, is_stopped}
use Rattle.mb_saved.proofs.Lines.{memory_is_given_back}
use Rattle.vm_saved.specs.Saved.{CanBeSaved, SavedIsGivenBack, GoingIsGivenBack, as_told}

-- ---- registers of the devices

flag_back : (b : Bool) → (from_bool b == 1) ≡ b
flag_back true = refl
flag_back false = refl

overrun_back : (received overrun : Bool) → ((from_bool received + 2 + 4 * from_bool overrun) / 4 % 2 == 1) ≡ overrun
overrun_back true true = refl
overrun_back true false = refl
overrun_back false true = refl
overrun_back false false = refl

-- ---- the machine

-- the machine with other parts
abbrev with_parts : Machine → List ℕ → ℕ → (overrun enabled pending : Bool) → KeptLists → Machine
with_parts m ram shown overrun enabled pending kept = record {
  cpu = record m.cpu { stopped = is_stopped m.state };
  world = record {
    ram = ram;
    mmu = m.world.mmu;
    devices = record {
      ram = shown;
      queue = m.world.devices.queue;
      overrun = overrun;
      enabled = enabled;
      console = m.world.devices.console;
      lost = m.world.devices.lost;
      period = m.world.devices.period;
      count = m.world.devices.count;
      pending = pending;
      off = is_off m.state;
      disk = m.world.devices.disk;
    };
    kept = kept;
  };
  steps = m.steps;
  state = m.state;
}

pub saved_is_given_back : SavedIsGivenBack
saved_is_given_back m c =
    let d = m.world.devices in
    let ram = m.world.ram in
    let list = list_of 0 m.world.kept ∷ [] in
    ap (λ (r : List ℕ). with_parts m r (length ram) (status_of d / 4 % 2 == 1) (from_bool d.enabled == 1) (from_bool d.pending == 1) list)
    (memory_is_given_back ram c.whole)
    ∙ ap (λ (n : ℕ). with_parts m ram n (status_of d / 4 % 2 == 1) (from_bool d.enabled == 1) (from_bool d.pending == 1) list) (sym c.shown)
    ∙ ap (λ (b : Bool). with_parts m ram d.ram b (from_bool d.enabled == 1) (from_bool d.pending == 1) list) (overrun_back (has_received d) d.overrun)
    ∙ ap (λ (b : Bool). with_parts m ram d.ram d.overrun b (from_bool d.pending == 1) list) (flag_back d.enabled)
    ∙ ap (λ (b : Bool). with_parts m ram d.ram d.overrun d.enabled b list) (flag_back d.pending)
    ∙ ap (λ (k : KeptLists). with_parts m ram d.ram d.overrun d.enabled d.pending k) (sym c.one_list)

-- ---- where it takes steps

-- the state tells both
record Tells (state : RunState) (off stopped : Bool) : Type 0 where
  pub is_stopped_so : is_stopped state ≡ stopped
  pub is_off_so : is_off state ≡ off

tells : (state : RunState) (off stopped : Bool) → state ≡ (if off then Off else if stopped then Stopped else Running) → takes_steps state ≡ true
    → Tells state off stopped
tells state true stopped e h = absurd (let f : false ≡ true = ap takes_steps (sym e) ∙ h in cc)
tells state false true e h = record { is_stopped_so = ap is_stopped e; is_off_so = ap is_off e }
tells state false false e h = record { is_stopped_so = ap is_stopped e; is_off_so = ap is_off e }

abbrev with_flags : Machine → Bool → Bool → Machine
with_flags m stopped off = record m {
  cpu = record m.cpu { stopped = stopped };
  world = record m.world { devices = record m.world.devices { off = off } };
}

pub told_whole : (m : Machine) → CanBeSaved m → takes_steps m.state ≡ true → as_told m ≡ m
told_whole m c h =
    let t = tells m.state m.world.devices.off m.cpu.stopped (c.goes h) h in
    ap (λ (b : Bool). with_flags m b (is_off m.state)) t.is_stopped_so ∙ ap (with_flags m m.cpu.stopped) t.is_off_so

pub going_is_given_back : GoingIsGivenBack
going_is_given_back m c h = saved_is_given_back m c ∙ told_whole m c h
