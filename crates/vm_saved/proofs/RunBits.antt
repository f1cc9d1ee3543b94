-- A run leaves the registers with the bits that they keep, and no others.
use Rattle.std.proofs.Common.{◌≡◌, ◌∙◌, ℕ, zero, suc, ◌+◌, ◌<◌, Bool, true, false, refl, ap, sym, subst, inl, inr, arith}
use Rattle.std.specs.Prelude.{bit_and, ◌&&◌, Option, Some, None, if◌then◌else◌}
use Rattle.std.specs.Int.Bits.{and_self}
use Rattle.std.proofs.lemmas.Nat.{and_assoc}
use Rattle.std.proofs.lemmas.Bool.{cases_Bool}
use Rattle.mb_port.specs.Routine.{Call, Fetch, Read, Write, ReadLine, WriteLine, Probe, Get, Put, ReadMmu, SetMmu, FlushKept, Test, ResetDevices}
use Rattle.mb_port.specs.Registers.{mmu_register, with_mmu_register}
use Rattle.mb_port.specs.declared.types.Mmu.{Mmu}
use Rattle.mb_port.specs.declared.types.MmuReg.{MmuReg}
use Rattle.mb_port.specs.declared.types.MmuReg.TheVariants.{Tc, Itt0, Itt1, Dtt0, Dtt1, Mmusr, Urp, Srp}
use Rattle.mb_instr.specs.declared.control.ControlRegister.TheVariants as control
use Rattle.mb_instr.specs.Control.{kept_bits}
use Rattle.law_routines.specs.Keeps.{Keeps}
use Rattle.law_routines.proofs.Kept.{run_keeps}
use Rattle.mb_model.specs.declared.processor.Cpu.{Cpu}
use Rattle.mb_model.specs.Keeping.{Rule}
use Rattle.mb_devices.specs.Devices.{has_received, level_of}
use Rattle.def_processor.specs.Step.{step_of}
use Rattle.def_machine.specs.Bus.{bus_of, fetching_of, reading_of, tested_by, writing_of}
use Rattle.def_machine.specs.Access.{matched}
use Rattle.mb_port.specs.declared.types.Space.{Space}
use Rattle.mb_model.specs.Pages.{page_of}
use Rattle.mb_model.specs.Reset.{mmu_at_reset}
use Rattle.def_machine.specs.Machine.{Entries, Machine, aborts, asked_of, begun, reset_with, stepped, takes_steps}
use Rattle.def_machine.specs.World.{World}
use Rattle.def_machine.proofs.Beneath.{calls_stand_beneath, places_stand_beneath}
use Rattle.def_machine.proofs.Refusals.{translated-beside}
use Rattle.mb_saved.specs.Saved.{HasBits}
use Rattle.vm_saved.specs.Bits.{HasItsBits, RunsKeepBits, StartsHaveBits}
use Rattle.vm_saved.proofs.Runs.{going_run, halted_run, nothing_run}
use Rattle.vm_saved.proofs.StatusBits.{IsStatus, kept_is_status, status_is_kept}
use Rattle.vm_saved.proofs.CpuBits as bits

-- ---- the registers of translation

pub record MmuKeeps (mmu : Mmu) : Type 0 where
  pub each : (which : MmuReg) → bit_and (mmu_register mmu which) (kept_bits (control.Mmu which)) ≡ mmu_register mmu which

fits : (x mask : ℕ) → bit_and (bit_and x mask) mask ≡ bit_and x mask
fits x mask = and_assoc mask x mask ∙ ap (bit_and x) (and_self mask)

-- one that is written keeps its bits
each_set : (mmu : Mmu) (which other : MmuReg) (value : ℕ) → MmuKeeps mmu
    → let after = with_mmu_register mmu which (bit_and value (kept_bits (control.Mmu which))) in
    bit_and (mmu_register after other) (kept_bits (control.Mmu other)) ≡ mmu_register after other
each_set mmu Tc Tc value k = fits value (kept_bits (control.Mmu Tc))
each_set mmu Itt0 Itt0 value k = fits value (kept_bits (control.Mmu Itt0))
each_set mmu Itt1 Itt1 value k = fits value (kept_bits (control.Mmu Itt1))
each_set mmu Dtt0 Dtt0 value k = fits value (kept_bits (control.Mmu Dtt0))
each_set mmu Dtt1 Dtt1 value k = fits value (kept_bits (control.Mmu Dtt1))
each_set mmu Mmusr Mmusr value k = fits value (kept_bits (control.Mmu Mmusr))
each_set mmu Urp Urp value k = fits value (kept_bits (control.Mmu Urp))
each_set mmu Srp Srp value k = fits value (kept_bits (control.Mmu Srp))
each_set mmu which other value k = k.each other

set_keeps : (mmu : Mmu) (which : MmuReg) (value : ℕ) → MmuKeeps mmu → MmuKeeps (with_mmu_register mmu which (bit_and value (kept_bits (control.Mmu which))))
set_keeps mmu which value k = record { each = λ other. each_set mmu which other value k }

-- ---- the calls

tested_stays : (w : World) (space : Space) (page : ℕ) (write : Bool) (o : Option Bool) → (tested_by w space page write o).1.mmu ≡ w.mmu
tested_stays w space page write (Some protected) = refl
tested_stays w space page write None = refl

abbrev WorldKeeps : World → Type 0
WorldKeeps w = MmuKeeps w.mmu

bus_keeps : (rule : Rule) (c : Call) (w : World) → WorldKeeps w → WorldKeeps ((bus_of rule c w).1)
bus_keeps rule (Fetch space at) w k =
    subst MmuKeeps (sym ((calls_stand_beneath rule (Fetch space at) w).mmu ∙ (translated-beside rule (fetching_of space at) w).mmu)) k
bus_keeps rule (Read space p) w k =
    subst MmuKeeps (sym ((calls_stand_beneath rule (Read space p) w).mmu ∙ (translated-beside rule (reading_of space p.at) w).mmu)) k
bus_keeps rule (Write space p value) w k =
    subst MmuKeeps (sym ((calls_stand_beneath rule (Write space p value) w).mmu ∙ (translated-beside rule (writing_of space p.at) w).mmu)) k
bus_keeps rule (ReadLine space at) w k =
    subst MmuKeeps (sym ((calls_stand_beneath rule (ReadLine space at) w).mmu ∙ (translated-beside rule (reading_of space at) w).mmu)) k
bus_keeps rule (WriteLine space at line) w k =
    subst MmuKeeps (sym ((calls_stand_beneath rule (WriteLine space at line) w).mmu ∙ (translated-beside rule (writing_of space at) w).mmu)) k
bus_keeps rule (Probe space p) w k =
    subst MmuKeeps (sym ((calls_stand_beneath rule (Probe space p) w).mmu ∙ (translated-beside rule (writing_of space p.at) w).mmu)) k
bus_keeps rule (Get place) w k = subst MmuKeeps (sym (places_stand_beneath rule place 0 w).0.mmu) k
bus_keeps rule (Put place value) w k = subst MmuKeeps (sym (places_stand_beneath rule place value w).1.mmu) k
bus_keeps rule ReadMmu w k = k
bus_keeps rule (SetMmu which value) w k = set_keeps w.mmu which value k
bus_keeps rule (FlushKept what) w k = k
bus_keeps rule (Test space at write) w k = subst MmuKeeps (sym (tested_stays w space (page_of at) write (matched false w.mmu space (page_of at)))) k
bus_keeps rule ResetDevices w k = k

keeps : (rule : Rule) → Keeps WorldKeeps (bus_of rule)
keeps rule = record { call = λ c w k. bus_keeps rule c w k }

-- ---- steps and runs

small_if : (b : Bool) (x y : ℕ) → x < 8 → y < 8 → (if b then x else y) < 8
small_if true x y h g = h
small_if false x y h g = g

asked_small : (script : Entries) (m : Machine) → asked_of script m < 8
asked_small script m =
    let d = m.world.devices in
    small_if (aborts (m.steps + 1) script) 7 (level_of d) (omega arith)
    (small_if d.pending 6 (if d.enabled && has_received d then 4 else 0) (omega arith)
    (small_if (d.enabled && has_received d) 4 0 (omega arith) (omega arith)))

record Both (cpu : Cpu) (mmu : Mmu) : Type 0 where
  pub processor : bits.Keeps cpu
  pub translation : MmuKeeps mmu

both_of : (cpu : Cpu) (mmu : Mmu) → HasBits cpu mmu → Both cpu mmu
both_of cpu mmu h = record {
  processor = record {
    status = subst IsStatus h.status (kept_is_status cpu.regs.sr);
    source = h.source;
    destination = h.destination;
    caches = h.caches;
  };
  translation = record { each = h.translation };
}

bits_of : (cpu : Cpu) (mmu : Mmu) → Both cpu mmu → HasBits cpu mmu
bits_of cpu mmu b = record {
  status = status_is_kept cpu.regs.sr b.processor.status;
  source = b.processor.source;
  destination = b.processor.destination;
  caches = b.processor.caches;
  translation = b.translation.each;
}

stepped_bits : (rule : Rule) (script : Entries) (m : Machine) → HasItsBits m → HasItsBits (stepped rule script m)
stepped_bits rule script m h =
    let b = begun script m in
    let both = both_of m.cpu m.world.mmu h in
    let routine = step_of (asked_of script b) b.cpu in
    let after = stepped rule script m in
    bits_of after.cpu after.world.mmu (record {
      processor = bits.step_has (bus_of rule) (asked_of script b) b.cpu (asked_small script b) both.processor b.world;
      translation = run_keeps (keeps rule) routine b.world both.translation;
    })

pub runs_keep_bits : RunsKeepBits
runs_keep_bits rule script zero m h = subst HasItsBits (sym (nothing_run rule script m)) h
runs_keep_bits rule script (suc n) m h = elim (cases_Bool (takes_steps m.state)) [
  | inl going ↦
      subst HasItsBits (sym (going_run rule script n m going))
      (runs_keep_bits rule script n (stepped rule script m) (stepped_bits rule script m h))
  | inr still ↦ subst HasItsBits (sym (halted_run rule script (suc n) m still)) h
]

zero_fits : (which : MmuReg) → bit_and 0 (kept_bits (control.Mmu which)) ≡ 0
zero_fits Tc = refl
zero_fits Itt0 = refl
zero_fits Itt1 = refl
zero_fits Dtt0 = refl
zero_fits Dtt1 = refl
zero_fits Mmusr = refl
zero_fits Urp = refl
zero_fits Srp = refl

reset_register : (which : MmuReg) → mmu_register mmu_at_reset which ≡ 0
reset_register Tc = refl
reset_register Itt0 = refl
reset_register Itt1 = refl
reset_register Dtt0 = refl
reset_register Dtt1 = refl
reset_register Mmusr = refl
reset_register Urp = refl
reset_register Srp = refl

pub starts_have_bits : StartsHaveBits
unfolding reset_with
starts_have_bits rule opening size = record {
  status = refl;
  source = refl;
  destination = refl;
  caches = refl;
  translation = λ which.
      ap (λ (x : ℕ). bit_and x (kept_bits (control.Mmu which))) (reset_register which) ∙ zero_fits which ∙ sym (reset_register which);
}
