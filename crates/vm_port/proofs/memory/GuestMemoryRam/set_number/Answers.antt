use Rattle.std.proofs.Common.{◌∙◌, ◌+◌, ◌≤◌, List, ℕ, ap, sym, arith, subst, refl}
use Rattle.mb_walk.specs.Memory.{part}
use Rattle.mb_walk.proofs.MemoryLemmas.{length-with_number}
use Rattle.mb_walk.proofs.Parts.{length-part, part-with_number, take-with_number, drop-with_number}
use Rattle.vm_shadow.specs.Mapped.{shadowed}
use Rattle.vm_shadow.specs.declared.area.TheConstants.{AREA_BYTES}
use Rattle.def_guests.specs.Seats.{own}
use Rattle.vm_port.specs.Own.{IsPlaced}
use Rattle.vm_port.proofs.Frames.{beside_stays, maps_stay, shadow_stays}
use Rattle.vm_port.proofs.memory.GuestMemoryRam.set_number.Goals as goal

pub invariant_of-self : goal.invariant_of-self
invariant_of-self g c =
    let m = c.args.self.now in
    let p = c.args.place in
    let ram = g.R.Ram.bytes m.ram.now in
    let s = m.shadow.now in
    let e = c.set_number.ensures.bytes in
    let area = m.area in
    let count = length-part ram m.base m.size (omega (arith, m.inside)) in
    let inside = c.requires.inside in
    let fits : m.base + p.at + p.len ≤ s.area = omega arith in
    let size = length-with_number ram (m.base + p.at) p.len c.args.value (omega (arith, m.inside)) in
    let shadow = ap (shadowed s) e ∙ shadow_stays s ram (m.base + p.at) p.len c.args.value m.maps fits in
    record {
      aligned = m.aligned;
      whole = m.whole;
      small = rw (e, size) m.small;
      inside = rw (e, size) m.inside;
      area = m.area;
      maps = rw e (maps_stay s ram (m.base + p.at) p.len c.args.value m.maps fits);
      placed = subst (IsPlaced m.base) (sym shadow) m.placed;
    }

pub returns-clause-bytes : goal.returns-clause-bytes
returns-clause-bytes g c =
    let m = c.args.self.now in
    let p = c.args.place in
    let ram = g.R.Ram.bytes m.ram.now in
    let count = length-part ram m.base m.size (omega (arith, m.inside)) in
    let inside = c.requires.inside in
    ap (λ (xs : List ℕ). part xs m.base m.size) c.set_number.ensures.bytes
    ∙ part-with_number ram m.base m.size p.at p.len c.args.value (omega (arith, count, inside)) (omega (arith, m.inside))

pub returns-clause-rest : goal.returns-clause-rest
returns-clause-rest g c =
    let m = c.args.self.now in
    let p = c.args.place in
    let ram = g.R.Ram.bytes m.ram.now in
    let s = m.shadow.now in
    let at = m.base + p.at in
    let area = m.area in
    let len = length-part ram m.base m.size (omega (arith, m.inside)) in
    let inside = c.requires.inside in
    let count = length-with_number ram at p.len c.args.value (omega (arith, m.inside)) in
    let below = take-with_number ram m.base at p.len c.args.value (omega arith) (omega (arith, m.inside)) in
    let above = drop-with_number ram (m.base + m.size + AREA_BYTES) at p.len c.args.value (omega arith) (omega (arith, m.inside)) in
    beside_stays _ _ _ _ m.changed (rw (c.set_number.ensures.rest, c.set_number.ensures.bytes, count, below, above) refl)
    (ap (λ (xs : List ℕ). own m.base (shadowed s xs)) c.set_number.ensures.bytes
    ∙ ap (own m.base) (shadow_stays s ram at p.len c.args.value m.maps (omega arith)))
