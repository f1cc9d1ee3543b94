-- A read of a seated guest that is filled and put.
use Rattle.std.proofs.Common.{◌≡◌, ◌∙◌, Bool, true, false, cond, Option, Some, None, refl, ap, sym}
use Rattle.def_machine.specs.declared.reference.Reference.{Reference}
use Rattle.def_guests.specs.Guests.{Guest}
use Rattle.def_guests.specs.Refills.{after_access, can_refill, refilled_at}

-- where the bus answers whether it did
pub answered : (g h : Guest) (r : Reference) (b : Bool) → b ≡ can_refill g r → h ≡ cond b (after_access r g) g
    → refilled_at g (Some r) ≡ cond b (Some h) None
answered g h r b can means = ap (λ (c : Bool). cond c (Some (after_access r g)) None) (sym can) ∙ by_answer b means
  where
    by_answer : (b : Bool) → h ≡ cond b (after_access r g) g
        → cond b (Some (after_access r g)) None ≡ cond b (Some h) None
    by_answer true e = ap (λ (x : Guest). (let o : Option Guest = Some x in o)) (sym e)
    by_answer false e = refl
