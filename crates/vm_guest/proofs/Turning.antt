-- A turn by the parts in which it was taken.
use Rattle.std.proofs.Common.{◌≡◌, ◌∙◌, ◌⊎◌, ℕ, ◌+◌, ◌-◌, ◌≤◌, false, [], ap, sym, subst, inl, inr, arith}
use Rattle.mb_model.specs.Keeping.{rule_k}
use Rattle.def_machine.specs.Machine.{run_of, takes_steps}
use Rattle.def_guests.specs.Turns.{Turned}
use Rattle.def_guests.specs.Seats.{machine_on, turned_on, IsSeated, Scene, Takes}
use Rattle.def_guests.proofs.ByRule.{turns_by_rule}
use Rattle.def_guests.proofs.Seated.{takes_add, nothing_is_taken}
use Rattle.def_guests.proofs.TurnLaws.{halted_turn, nothing_turned}

-- what is halted or off has taken all further steps
pub stays_taken : (m : ℕ) (t : Scene) → takes_steps t.guest.state ≡ false → IsSeated t.guest t.ram → Takes m t t
stays_taken m t still seated =
    let none = nothing_is_taken t seated in
    record {
      marks = none.marks;
      left_times = none.left_times;
      turned = none.turned ∙ nothing_turned t.guest.script (turned_on t.guest t.ram [] 0)
          ∙ sym (halted_turn t.guest.script m (turned_on t.guest t.ram [] 0) still);
      same = none.same;
      seated = none.seated;
      within = none.within;
      retired = none.retired;
      trail = none.trail;
      exceptions = none.exceptions;
    }

pub takes_rest : (n m k : ℕ) (s t : Scene) → n + m ≡ k → takes_steps t.guest.state ≡ false → Takes n s t → Takes k s t
takes_rest n m k s t sum still takes =
    subst (λ (j : ℕ). Takes j s t) sum (takes_add n m s t t takes (stays_taken m t still takes.seated))

-- the guest's machine is its run
pub takes_machine : (n : ℕ) (s t : Scene) → Takes n s t
    → machine_on t.guest t.ram ≡ run_of rule_k s.guest.script n (machine_on s.guest s.ram)
takes_machine n s t takes =
    ap (λ (u : Turned). u.guest.machine) takes.turned ∙ turns_by_rule s.guest.script n (turned_on s.guest s.ram [] 0)

-- what is taken of a turn of which so many steps are left, and one part more
pub more_taken : (limit left n : ℕ) (s t u : Scene) → left ≤ limit → n ≤ left → Takes (limit - left) s t → Takes n t u → Takes (limit - (left - n)) s u
more_taken limit left n s t u some few taken more =
    subst (λ (k : ℕ). Takes k s u) (let e : limit - left + n ≡ limit - (left - n) = omega arith in e) (takes_add (limit - left) n s t u taken more)

-- all of it is taken, where none are left or the guest takes no more
pub taken_all : (limit left : ℕ) (s t : Scene) → left ≤ limit → (left ≡ 0) ⊎ (takes_steps t.guest.state ≡ false) → Takes (limit - left) s t → Takes limit s t
taken_all limit left s t some (inl none) taken =
    subst (λ (k : ℕ). Takes k s t) (let e : limit - left ≡ limit = omega arith in e) taken
taken_all limit left s t some (inr still) taken =
    takes_rest (limit - left) left limit s t (let e : limit - left + left ≡ limit = omega arith in e) still taken
