-- Classes of steps in which the board has no part, and of all others.
use Rattle.std.proofs.Common.{◌≡◌, ℕ, ◌≤◌, List, Bool, true, false, cond, nat_lt, Option, Some, None, refl, ap}
use Rattle.std.specs.Prelude.{unwrap_or}
use Rattle.mb_model.specs.declared.processor.Cpu.{Cpu}
use Rattle.def_processor.specs.Step.{interrupt_mask, rank}
use Rattle.def_guests.specs.declared.class.Class.{Class}
use Rattle.def_guests.specs.declared.class.Class.TheVariants.{Entered, Idle, Traced}
use Rattle.def_guests.specs.Guests.{Guest}
use Rattle.def_guests.specs.Refills.{refilled}
use Rattle.def_guests.specs.Classes.{assisted, class_of, class_of_attempt, is_traced}
use Rattle.def_guests.specs.Turns.{class_of_step, step_class_at_first}
use Rattle.def_guests.specs.Seats.{Seat, guested_on}
use Rattle.law_turns.specs.Batch.{IsTried}
use Rattle.law_turns.proofs.Retire.{not_above, not_less}
use Rattle.law_turns.proofs.Quiet.{tried_class}
use Rattle.vm_guest.specs.Turns.{begun_seat, level_on}

pub inner : (b c : Class) → (let o : Option Class = Some b in o) ≡ Some c → b ≡ c
inner b c h = cc

pub assisted_class : (level : ℕ) (cpu : Cpu) (g : Guest) (c : Class) → assisted level cpu ≡ Some c → class_of level cpu g ≡ c
assisted_class level cpu g c h = ap (λ (o : Option Class). unwrap_or o (class_of_attempt cpu (refilled cpu g).guest)) h

-- what holds of a step that the board attempts
pub record Attempts (level : ℕ) (cpu : Cpu) : Type 0 where
  pub masked : rank level ≤ interrupt_mask cpu
  pub awake : cpu.stopped ≡ false
  pub untraced : is_traced cpu ≡ false

all_false : (a b t : Bool) → cond a (Some Entered) (cond b (Some Idle) (cond t (Some Traced) None)) ≡ None
    → (a ≡ false) × (b ≡ false) × (t ≡ false)
all_false true b t h = absurd (let z : ⊥ = cc in z)
all_false false true t h = absurd (let z : ⊥ = cc in z)
all_false false false true h = absurd (let z : ⊥ = cc in z)
all_false false false false h = (refl, refl, refl)

pub none_assisted : (level : ℕ) (cpu : Cpu) → assisted level cpu ≡ None → Attempts level cpu
none_assisted level cpu h =
    let (a, b, t) = all_false (nat_lt (interrupt_mask cpu) (rank level)) cpu.stopped (is_traced cpu) h in
    record { masked = not_less (interrupt_mask cpu) (rank level) a; awake = b; untraced = t }

-- and where all of it holds, the board has a part in the step
none_of : (a b t : Bool) → a ≡ false → b ≡ false → t ≡ false → cond a (Some Entered) (cond b (Some Idle) (cond t (Some Traced) None)) ≡ None
none_of a b t p q r = rw p (rw q (rw r refl))

pub attempts_none : (level : ℕ) (cpu : Cpu) → Attempts level cpu → assisted level cpu ≡ None
attempts_none level cpu h =
    none_of (nat_lt (interrupt_mask cpu) (rank level)) cpu.stopped (is_traced cpu) (not_above (interrupt_mask cpu) (rank level) h.masked) h.awake h.untraced

-- what holds of an idle step
pub record Stops (level : ℕ) (cpu : Cpu) : Type 0 where
  pub masked : rank level ≤ interrupt_mask cpu
  pub stopped : cpu.stopped ≡ true

idle_tests : (a b t : Bool) → cond a (Some Entered) (cond b (Some Idle) (cond t (Some Traced) None)) ≡ Some Idle → (a ≡ false) × (b ≡ true)
idle_tests true b t h = absurd (let e = inner Entered Idle h in let z : ⊥ = cc in z)
idle_tests false true t h = (refl, refl)
idle_tests false false true h = absurd (let e = inner Traced Idle h in let z : ⊥ = cc in z)
idle_tests false false false h = absurd (let z : ⊥ = cc in z)

pub idle_assisted : (level : ℕ) (cpu : Cpu) → assisted level cpu ≡ Some Idle → Stops level cpu
idle_assisted level cpu h =
    let (a, b) = idle_tests (nat_lt (interrupt_mask cpu) (rank level)) cpu.stopped (is_traced cpu) h in
    record { masked = not_less (interrupt_mask cpu) (rank level) a; stopped = b }

-- the class of a guest's step that has begun
pub class_begun : (g : Seat) (ram : List ℕ) (c : Class) → assisted (level_on (begun_seat g)) g.cpu ≡ Some c
    → class_of_step g.script (guested_on g ram) ≡ c
class_begun g ram c h = assisted_class (level_on (begun_seat g)) g.cpu _ c h

pub tried_begun : (g : Seat) (ram : List ℕ) → assisted (level_on (begun_seat g)) g.cpu ≡ None
    → IsTried (step_class_at_first g.script (guested_on g ram))
tried_begun g ram h =
    let a = none_assisted (level_on (begun_seat g)) g.cpu h in
    tried_class (level_on (begun_seat g)) g.cpu _ a.masked a.awake a.untraced
