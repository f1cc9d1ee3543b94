-- What a write in a part of memory leaves of the tables behind it, and what a change of the tables leaves of the part.
use Rattle.std.proofs.Common.{◌≡◌, ◌∙◌, ℕ, ◌+◌, ◌≤◌, Bool, List, take, drop, ap, sym, arith}
use Rattle.std.proofs.lemmas.List.{take-take, drop-take}
use Rattle.mb_walk.specs.Memory.{part, with_number}
use Rattle.mb_walk.proofs.MemoryLemmas.{length-with_number}
use Rattle.mb_walk.proofs.Parts.{length-part, number-part, drop-with_number, bytes-part}
use Rattle.vm_shadow.specs.Slots.{Slots}
use Rattle.vm_shadow.specs.Mapped.{shadowed}
use Rattle.vm_shadow.specs.declared.area.TheConstants.{AREA_BYTES}
use Rattle.vm_shadow.specs.Area.{Maps}
use Rattle.vm_shadow.specs.Shadows.{Shadowed}
use Rattle.vm_shadow.proofs.Alone.{tables_are_of_the_area}
use Rattle.vm_port.specs.Around.{Around, Beside}

-- ---- the tables behind a write

tables_same : (s : Slots) (ram : List ℕ) (at len v : ℕ) → Maps s ram → at + len ≤ s.area
    → Maps s (with_number ram at len v) × (shadowed s (with_number ram at len v) ≡ shadowed s ram)
tables_same s ram at len v m h =
    let inside = m.inside in
    let count = length-with_number ram at len v (omega arith) in
    tables_are_of_the_area s ram (with_number ram at len v) m (omega arith)
    (ap (take AREA_BYTES) (drop-with_number ram s.area at len v h (omega arith)))

pub maps_stay : (s : Slots) (ram : List ℕ) (at len v : ℕ) → Maps s ram → at + len ≤ s.area → Maps s (with_number ram at len v)
maps_stay s ram at len v m h = (tables_same s ram at len v m h).0

pub shadow_stays : (s : Slots) (ram : List ℕ) (at len v : ℕ) → Maps s ram → at + len ≤ s.area → shadowed s (with_number ram at len v) ≡ shadowed s ram
shadow_stays s ram at len v m h = (tables_same s ram at len v m h).1

-- ---- a change of the tables alone

part_below : (ram after : List ℕ) (base size area : ℕ) → area ≡ base + size → take area after ≡ take area ram → part after base size ≡ part ram base size
part_below ram after base size area e same =
    sym (drop-take base size after) ∙ ap (λ (n : ℕ). drop base (take n after)) (sym e) ∙ ap (drop base) same
    ∙ ap (λ (n : ℕ). drop base (take n ram)) e ∙ drop-take base size ram

take_below : (ram after : List ℕ) (base area : ℕ) → base ≤ area → take area after ≡ take area ram → take base after ≡ take base ram
take_below ram after base area h same = sym (take-take base area after h) ∙ ap (take base) same ∙ take-take base area ram h

-- the guest's part, and all that is below and above its part and its area
pub around : (ram after : List ℕ) (base size area : ℕ) → area ≡ base + size → take area after ≡ take area ram
    → drop (area + 65536) after ≡ drop (area + 65536) ram
    → (part after base size ≡ part ram base size) × (take base after ≡ take base ram)
    × (drop (base + size + AREA_BYTES) after ≡ drop (base + size + AREA_BYTES) ram)
around ram after base size area e below above = (
  part_below ram after base size area e below,
  take_below ram after base area (omega (arith, e)) below,
  ap (λ (n : ℕ). drop (n + AREA_BYTES) after) (sym e) ∙ above ∙ ap (λ (n : ℕ). drop (n + AREA_BYTES) ram) e,
)

-- ---- all but a guest's bytes, where its shadow and all around it stay

pub beside_stays : {B : Type 0} (a b : Around B) (s t : Shadowed) (changed : Bool) → a ≡ b → s ≡ t
    → (let now : Beside B = record { around = a; shadow = s; changed = changed } in now) ≡ record { around = b; shadow = t; changed = changed }
beside_stays {B = B} a b s t changed h e =
    ap (λ (x : Around B). (let now : Beside B = record { around = x; shadow = s; changed = changed } in now)) h
    ∙ ap (λ (x : Shadowed). (let now : Beside B = record { around = b; shadow = x; changed = changed } in now)) e

-- ---- what the code reads

pub ruleset lengths = (length-part)

pub ruleset numbers = (length-part, number-part)

pub ruleset window = (length-part, bytes-part)
