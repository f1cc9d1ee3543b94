-- What becomes of a seated guest.
use Rattle.std.proofs.Common.{◌≡◌, ◌∙◌, ℕ, ◌+◌, ◌-◌, ◌%◌, ◌≤◌, Bool, true, false, cond, List, length, take, drop, refl, sym, ap, subst, arith}
use Rattle.std.proofs.lemmas.List.{drop-take}
use Rattle.mb_port.specs.Routine.{Routine, run}
use Rattle.mb_model.specs.declared.processor.Cpu.{Cpu}
use Rattle.mb_model.specs.Keeping.{Apart}
use Rattle.mb_walk.specs.Memory.{AreBytes}
use Rattle.mb_walk.proofs.Parts.{length-part, bytes-part}
use Rattle.mb_devices.specs.Devices.{DeviceState}
use Rattle.def_processor.specs.declared.StepEnd.{StepEnd}
use Rattle.def_processor.specs.Raise.{Stepped, by_its_end}
use Rattle.def_machine.specs.declared.reference.Reference.{Reference}
use Rattle.vm_shadow.specs.Mapped.{shadowed}
use Rattle.vm_shadow.specs.declared.area.TheConstants.{AREA_BYTES}
use Rattle.vm_shadow.specs.Area.{Maps}
use Rattle.def_guests.specs.Guests.{Guest}
use Rattle.def_guests.specs.Bus.{guest_bus}
use Rattle.def_guests.specs.Refills.{after_access}
use Rattle.def_guests.specs.Turns.{bus_side}
use Rattle.def_guests.specs.Seats.{Seat, end_of, guested_on, on_board, shadow_on, IsSeated, OnlyWithin}
use Rattle.law_held.specs.Truth.{Fine}
use Rattle.law_held.proofs.Puts.{accesses_keep_truth}
use Rattle.law_held.proofs.Truths.{runs_keep_truth}
use Rattle.def_guests.specs.declared.limits.TheConstants.{MONITOR_BYTES}
use Rattle.vm_guest.specs.Memory.{OnlyBetween}

-- other devices, and other steps, are nothing to it
pub begun_seated : (g : Seat) (ram : List ℕ) (devices : DeviceState) (steps : ℕ) → IsSeated g ram
    → IsSeated (record g { devices = devices; steps = steps }) ram
begun_seated g ram devices steps s = record {
  aligned = s.aligned;
  whole = s.whole;
  behind = s.behind;
  inside = s.inside;
  area = s.area;
  maps = s.maps;
  tables = s.tables;
  truthful = record { reads = s.truthful.reads; writes = s.truthful.writes; inside = s.truthful.inside };
}

-- what changes its RAM and area alone leaves all that is behind the monitor's bytes
pub only_within : (g : Seat) (before after : List ℕ) → MONITOR_BYTES ≤ g.base → OnlyBetween g.base (end_of g) before after
    → OnlyWithin g before after
only_within g before after behind w = record {
  count = w.count;
  below =
      let e : MONITOR_BYTES + (g.base - MONITOR_BYTES) ≡ g.base = omega arith in
      sym (drop-take MONITOR_BYTES (g.base - MONITOR_BYTES) after)
      ∙ ap (λ (n : ℕ). drop MONITOR_BYTES (take n after)) e
      ∙ ap (drop MONITOR_BYTES) w.below
      ∙ ap (λ (n : ℕ). drop MONITOR_BYTES (take n before)) (sym e)
      ∙ drop-take MONITOR_BYTES (g.base - MONITOR_BYTES) before;
  above = w.above;
}

-- ---- its shadow stays truthful

-- what the laws of a guest alone speak of
fine_of : (g : Seat) (ram : List ℕ) → IsSeated g ram → AreBytes ram → Apart g.kept → Fine g.size (bus_side (guested_on g ram))
fine_of g ram s bytes apart = record {
  sound = record {
    truthful = s.truthful;
    count = length-part ram g.base g.size (let inside = s.inside in omega arith);
    bytes = bytes-part ram g.base g.size bytes;
  };
  one = refl;
  apart = apart;
}

-- The guest stands where it stood, and the tables behind its RAM map its shadow.
pub record Stands (g h : Seat) (next : List ℕ) : Type 0 where
  pub base : h.base ≡ g.base
  pub size : h.size ≡ g.size
  pub inside : end_of h ≤ length next
  pub area : h.slots.area ≡ h.base + h.size
  pub maps : Maps h.slots next
  pub tables : shadowed h.slots next ≡ on_board h.base (shadow_on h next)

again : (g h : Seat) (ram next : List ℕ) → IsSeated g ram → Stands g h next → Fine g.size (bus_side (guested_on h next)) → IsSeated h next
again g h ram next s t fine = record {
  aligned = subst (λ (n : ℕ). n % AREA_BYTES ≡ 0) (sym t.base) s.aligned;
  whole = subst (λ (n : ℕ). n % AREA_BYTES ≡ 0) (sym t.size) s.whole;
  behind = subst (λ (n : ℕ). MONITOR_BYTES ≤ n) (sym t.base) s.behind;
  inside = t.inside;
  area = t.area;
  maps = t.maps;
  tables = t.tables;
  truthful = (subst (λ (n : ℕ). Fine n (bus_side (guested_on h next))) (sym t.size) fine).sound.truthful;
}

-- So it stays seated where its bus has run,
pub seated_behind : (g : Seat) (ram : List ℕ) {h : Seat} {next : List ℕ} (m : Routine Stepped) (end : StepEnd) (cpu : Cpu) → IsSeated g ram → AreBytes ram
    → Apart g.kept → Stands g h next → by_its_end (run guest_bus m (bus_side (guested_on g ram))) ≡ ((end, cpu), bus_side (guested_on h next))
    → IsSeated h next
seated_behind g ram {h} {next} m end cpu s bytes apart t means =
    again g h ram next s t
    (subst (Fine g.size) (ap (λ (x : (StepEnd × Cpu) × Guest). x.1) means)
    (runs_keep_truth g.size m (bus_side (guested_on g ram)) (fine_of g ram s bytes apart)))

-- and where an access was made, or none.
pub seated_refilled : (g : Seat) (ram : List ℕ) {h : Seat} {next : List ℕ} (r : Reference) (b : Bool) → IsSeated g ram → AreBytes ram → Apart g.kept
    → Stands g h next
    → bus_side (guested_on h next) ≡ cond b (after_access r (bus_side (guested_on g ram))) (bus_side (guested_on g ram)) → IsSeated h next
seated_refilled g ram {h} {next} r b s bytes apart t means =
    again g h ram next s t (subst (Fine g.size) (sym means) (either b))
  where
    either : (b : Bool) → Fine g.size (cond b (after_access r (bus_side (guested_on g ram))) (bus_side (guested_on g ram)))
    either true = accesses_keep_truth g.size r (bus_side (guested_on g ram)) (fine_of g ram s bytes apart)
    either false = fine_of g ram s bytes apart
