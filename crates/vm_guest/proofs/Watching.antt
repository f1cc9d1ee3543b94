-- What a run of a watched bus says of the guest's own.
use Rattle.std.proofs.Common.{◌≡◌, ◌∙◌, Bool, ◌&&◌, not, true, false, refl, ap, sym}
use Rattle.mb_port.specs.Routine.{Routine, run}
use Rattle.mb_port.specs.declared.types.Space.{Space}
use Rattle.mb_port.specs.declared.types.Space.TheVariants.{User, Super}
use Rattle.mb_port.specs.contracts.types.Space.{the_type as space}
use denote.Enum.Bare.{sameb}
use Rattle.mb_model.specs.declared.processor.Cpu.{Cpu}
use Rattle.def_processor.specs.declared.StepEnd.{StepEnd}
use Rattle.def_processor.specs.Raise.{Stepped, by_its_end}
use Rattle.def_guests.specs.Guests.{Guest}
use Rattle.def_guests.specs.Bus.{guest_bus}
use Rattle.vm_port.specs.Watched.{Watched, watched_bus}
use Rattle.vm_port.proofs.Watched.{stays, unwatched}

pub not_false : (b : Bool) → not b ≡ true → b ≡ false
not_false false e = refl
not_false true e = absurd (let z : ⊥ = cc in z)

pub both : (a b : Bool) → (a && b) ≡ true → (a ≡ true) × (b ≡ true)
both true b e = (refl, e)
both false b e = absurd (let z : ⊥ = cc in z)

pub same_spaces : (a b : Space) → sameb space a b ≡ true → a ≡ b
same_spaces User User e = refl
same_spaces Super Super e = refl
same_spaces User Super e = absurd (let z : ⊥ = cc in z)
same_spaces Super User e = absurd (let z : ⊥ = cc in z)

module _ (rest : Cpu → Routine Stepped) (before : Cpu) (s t : Watched) (end : StepEnd) (cpu : Cpu)
    (is : by_its_end (run watched_bus (rest before) s) ≡ ((end, cpu), t)) where
  -- it ends alike
  pub ends_alike : {now : Cpu} → {g h : Guest} → before ≡ now → s.guest ≡ g → t.guest ≡ h → by_its_end (run guest_bus (rest now) g) ≡ ((end, cpu), h)
  ends_alike {g = g} same from to =
      ap (λ (x : Cpu). by_its_end (run guest_bus (rest x) g)) (sym same)
      ∙ ap (λ (x : Guest). by_its_end (run guest_bus (rest before) x)) (sym from) ∙ ap by_its_end (unwatched (rest before) s)
      ∙ ap (λ (x : (StepEnd × Cpu) × Watched). (x.0, (x.1).guest)) is ∙ ap (λ (x : Guest). ((end, cpu), x)) to

  -- and where it tells no change, the shadow has stayed
  pub shadow_stays : t.changed ≡ false → t.guest.shadow ≡ s.guest.shadow
  shadow_stays none =
      let ends = ap (λ (x : (StepEnd × Cpu) × Watched). x.1) is in
      ap (λ (w : Watched). w.guest.shadow) (sym ends) ∙ (stays (rest before) s (ap (λ (w : Watched). w.changed) ends ∙ none)).1
