-- A guest's start on a board.
use Rattle.std.proofs.Common.{◌≡◌, ◌∙◌, ℕ, ◌+◌, ◌-◌, ◌%◌, ◌≤◌, List, [], ◌∷◌, length, take, drop, ap, sym, subst, arith}
use Rattle.std.proofs.lemmas.List.{drop-drop}
use Rattle.std.specs.Prelude.{All}
use Rattle.mb_model.specs.declared.kept.Kept.{Kept}
use Rattle.mb_model.specs.declared.processor.Cpu.{Cpu}
use Rattle.mb_model.specs.declared.outcome.RunState.TheVariants.{Running}
use Rattle.mb_model.specs.Reset.{at_reset, mmu_at_reset}
use Rattle.mb_srec.specs.Image.{LiesBelow}
use Rattle.mb_walk.specs.Memory.{Contents, number_at, overwritten, part, with_contents, contents_from}
use Rattle.mb_walk.proofs.MemoryLemmas.{length-overwritten}
use Rattle.mb_walk.proofs.Parts.{number-part}
use Rattle.mb_devices.specs.Devices.{DeviceState, idle}
use Rattle.def_machine.specs.Machine.{Entries, diskless, reset_with}
use Rattle.vm_shadow.specs.Slots.{Slots}
use Rattle.vm_shadow.specs.Shadows.{Shadowed, nothing}
use Rattle.vm_shadow.specs.Mapped.{shadowed}
use Rattle.vm_shadow.specs.declared.area.TheConstants.{AREA_BYTES}
use Rattle.vm_shadow.specs.Area.{Maps}
use Rattle.def_guests.specs.Guests.{Truthful}
use Rattle.def_guests.specs.Turns.{Tally, Turned, no_steps, prepared}
use Rattle.def_guests.specs.Seats.{Seat, on_board, own, turned_on, IsSeated}
use Rattle.def_guests.specs.declared.limits.TheConstants.{MONITOR_BYTES}
use Rattle.vm_port.proofs.Frames.{around}
use Rattle.vm_port.proofs.Owns.{own_nothing, placed_nothing}
use Rattle.law_held.proofs.Flushes.{nothing_truthful}
use Rattle.vm_guest.specs.Memory.{OnlyBetween}
use Rattle.vm_guest.proofs.Loads.{loads_all, only_over, only_both, part_zeros, length-zeros, zeros}

-- the RAM of a guest, and all around it and its area, once zeros, its image and its empty tables are written
pub record Laid (base size : ℕ) (contents : Contents) (ram after : List ℕ) : Type 0 where
  pub within : OnlyBetween base (base + size + AREA_BYTES) ram after
  pub ram_is : part after base size ≡ with_contents (zeros size) contents

pub wider : (from to more : ℕ) (a b : List ℕ) → to ≤ more → OnlyBetween from to a b → OnlyBetween from more a b
wider from to more a b h w = record {
  count = w.count;
  below = w.below;
  above =
      let e : to + (more - to) ≡ more = omega arith in
      ap (λ (n : ℕ). drop n b) (sym e) ∙ sym (drop-drop (more - to) to b) ∙ ap (drop (more - to)) w.above
      ∙ drop-drop (more - to) to a ∙ ap (λ (n : ℕ). drop n a) e;
}

pub cleared_count : (ram : List ℕ) (base size : ℕ) → base + size ≤ length ram → length (overwritten ram base (zeros size)) ≡ length ram
cleared_count ram base size h = length-overwritten ram base (zeros size) (let count = length-zeros size in omega (arith, count))

pub laid : (base size area : ℕ) (contents : Contents) (ram loaded after : List ℕ) → base + size + AREA_BYTES ≤ length ram
    → All (LiesBelow size) contents → area ≡ base + size → loaded ≡ with_contents (overwritten ram base (zeros size)) (contents_from base contents)
    → length after ≡ length loaded → take area after ≡ take area loaded → drop (area + 65536) after ≡ drop (area + 65536) loaded
    → Laid base size contents ram after
laid base size area contents ram loaded after room lie e is count below above =
    let cleared = overwritten ram base (zeros size) in
    let count_zeros : length (zeros size) ≡ size = length-zeros size in
    let zero = only_over ram (zeros size) base (base + size) base (omega arith) (omega (arith, count_zeros)) (omega arith) in
    let same : length cleared ≡ length ram = cleared_count ram base size (omega arith) in
    let loads = loads_all cleared base size contents (omega (arith, same)) lie in
    let full = with_contents cleared (contents_from base contents) in
    let both = only_both base (base + size) ram cleared full zero loads.0 in
    let beside = around full after base size area e (below ∙ ap (take area) is) (above ∙ ap (drop (area + 65536)) is) in
    let far = wider base (base + size) (base + size + AREA_BYTES) ram full (omega arith) both in
    record {
      within = record {
        count = count ∙ ap (λ (m : List ℕ). length m) is ∙ far.count;
        below = beside.1 ∙ far.below;
        above = beside.2 ∙ far.above;
      };
      ram_is = beside.0 ∙ loads.1 ∙ ap (λ (m : List ℕ). with_contents m contents) (part_zeros ram base size (omega arith));
    }

-- a guest of these parts, nothing of which was run
abbrev pub new_seat : Cpu → DeviceState → List Kept → Slots → Entries → Tally → ℕ → ℕ → Seat
new_seat cpu devices kept slots script tally base size = record {
  cpu = cpu;
  mmu = mmu_at_reset;
  devices = devices;
  kept = kept;
  slots = slots;
  script = script;
  steps = 0;
  state = Running;
  tally = tally;
  base = base;
  size = size;
}

abbrev with_parts : Cpu → DeviceState → List Kept → Shadowed → List ℕ → Tally → Turned
with_parts cpu devices kept shadow ram tally = record {
  guest = record {
    machine = record {
      cpu = cpu;
      world = record { ram = ram; mmu = mmu_at_reset; devices = devices; kept = kept ∷ [] };
      steps = 0;
      state = Running;
    };
    shadow = shadow;
  };
  tally = tally;
  marks = [];
  exceptions = 0;
}

pub starts : (base size : ℕ) (contents : Contents) (after : List ℕ) (cpu : Cpu) (devices : DeviceState) (kept : List Kept) (slots : Slots) (script : Entries)
    (tally : Tally)
    → 8 ≤ size → part after base size ≡ with_contents (zeros size) contents
    → cpu ≡ at_reset (number_at after base 4) (number_at after (base + 4) 4) → devices ≡ idle size → kept ≡ []
    → shadowed slots after ≡ nothing → tally ≡ no_steps
    → turned_on (new_seat cpu devices kept slots script tally base size) after [] 0 ≡ prepared (diskless contents) size
unfolding reset_with
starts base size contents after cpu devices kept slots script tally big ram_is reset still free none uncounted =
    let first : number_at (part after base size) 0 4 ≡ number_at after base 4 =
    number-part after base size 0 4 (omega arith) ∙ ap (λ (at : ℕ). number_at after at 4) (let e : base + 0 ≡ base = omega arith in e) in
    let second : number_at (part after base size) 4 4 ≡ number_at after (base + 4) 4 = number-part after base size 4 4 (omega arith) in
    let ram = with_contents (zeros size) contents in
    let fresh = at_reset (number_at ram 0 4) (number_at ram 4 4) in
    let by : cpu ≡ fresh =
    reset ∙ ap (λ (n : ℕ). at_reset n (number_at after (base + 4) 4)) (sym first)
    ∙ ap (λ (n : ℕ). at_reset (number_at (part after base size) 0 4) n) (sym second)
    ∙ ap (λ (m : List ℕ). at_reset (number_at m 0 4) (number_at m 4 4)) ram_is in
    let tables = own base (shadowed slots after) in
    let bytes = part after base size in
    ap (λ (c : Cpu). with_parts c devices kept tables bytes tally) by
    ∙ ap (λ (d : DeviceState). with_parts fresh d kept tables bytes tally) still
    ∙ ap (λ (k : List Kept). with_parts fresh (idle size) k tables bytes tally) free
    ∙ ap (λ (s : Shadowed). with_parts fresh (idle size) [] (own base s) bytes tally) none
    ∙ ap (λ (s : Shadowed). with_parts fresh (idle size) [] s bytes tally) (own_nothing base)
    ∙ ap (λ (m : List ℕ). with_parts fresh (idle size) [] nothing m tally) ram_is
    ∙ ap (λ (t : Tally). with_parts fresh (idle size) [] nothing ram t) uncounted

-- with empty tables it is seated
pub seated : (base size : ℕ) (after : List ℕ) (cpu : Cpu) (devices : DeviceState) (kept : List Kept) (slots : Slots) (script : Entries)
    (tally : Tally)
    → MONITOR_BYTES ≤ base → base % 65536 ≡ 0 → size % 65536 ≡ 0 → base + size + AREA_BYTES ≤ length after → slots.area ≡ base + size
    → Maps slots after → shadowed slots after ≡ nothing → IsSeated (new_seat cpu devices kept slots script tally base size) after
seated base size after cpu devices kept slots script tally behind aligned whole inside area maps none = record {
  aligned = aligned;
  whole = whole;
  behind = behind;
  inside = inside;
  area = area;
  maps = maps;
  tables = subst (λ (s : Shadowed). s ≡ on_board base (own base s)) (sym none) (placed_nothing base);
  truthful =
      subst (λ (s : Shadowed). Truthful size (record {
        world = record { ram = part after base size; mmu = mmu_at_reset; devices = devices; kept = kept ∷ [] };
        shadow = s;
      }))
      (sym (ap (own base) none ∙ own_nothing base))
      (nothing_truthful size (record { ram = part after base size; mmu = mmu_at_reset; devices = devices; kept = kept ∷ [] }));
}
