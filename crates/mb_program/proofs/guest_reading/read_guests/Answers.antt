use Rattle.std.proofs.Common.{◌≡◌, ◌∙◌, ◌<◌, ℕ, [], List, length, map, get_or, drop, sym, ap, subst, rules}
use Rattle.std.specs.Prelude.{All, Vec}
use Rattle.std.specs.declared.alloc.Global.{Global}
use Rattle.std.proofs.lemmas.List.{drop_all, get_or-map, length-map}
use Rattle.std.proofs.lemmas.List.Elements.{All-nil, All-push}
use Rattle.std.proofs.lemmas.Result.{err_from_is_err_and}
use Rattle.mb_script.specs.Answers.{guest_said}
use Rattle.mb_script.specs.Plan.{Guest, HasDisk, IsRam}
use Rattle.vm_guest.specs.Session.{GuestAtStart, IsGuest}
use Rattle.mb_program.proofs.GuestLemmas.{all_read, next_ends, next_read, none_so_far}
use Rattle.mb_program.proofs.guest_reading.read_guests.Goals as goal

-- what holds of all plans holds of the one at a place
plan_at : {X : Type 0} (P : Guest → Type 0) (f : X → Guest) (plans : List X) (i : ℕ) (plan : X) → All P (map f plans) → i < length plans
    → plan ≡ get_or plans i plan → P (f plan)
plan_at P f plans i plan all within is =
    let here : P (get_or (map f plans) i (f plan)) = all i (f plan) (rw length-map within) in
    let same : get_or (map f plans) i (f plan) ≡ f plan = get_or-map f plans i plan (f plan) within ∙ ap f (sym is) in
    subst P same here

pub read_guest-requires-clause-ram : goal.read_guest-requires-clause-ram
read_guest-requires-clause-ram g c =
    plan_at (λ guest. IsRam guest.ram) guest_said c.args.plans.now c.loop-plan.plan-index c.plan-item.result c.requires.rams
    c.loop-plan-test.true c.plan-item.is

pub read_guest-requires-clause-disk : goal.read_guest-requires-clause-disk
read_guest-requires-clause-disk g c =
    plan_at HasDisk guest_said c.args.plans.now c.loop-plan.plan-index c.plan-item.result c.requires.disks c.loop-plan-test.true c.plan-item.is

pub loop-plan-init : goal.loop-plan-init
loop-plan-init g c = record {
  read = rw c.new-guests.ensures.items (none_so_far (map guest_said c.args.plans.now) _);
  in_range = rw c.new-guests.ensures.items (All-nil IsGuest);
  count = ap (λ (gs : List GuestAtStart). length gs) c.new-guests.ensures.items;
}

pub loop-plan-preserved : goal.loop-plan-preserved
loop-plan-preserved g c =
    let read = next_read guest_said c.args.plans.now c.loop-plan.plan-index c.plan-item.result c.loop-plan.guests.items c.in_ok-guest.guest _ _ _
    c.loop-plan-test.true c.plan-item.is c.loop-plan.invariant.read c.in_ok-guest.ensures.read in
    record {
      read = rw c.in-Ok.ensures.items read;
      in_range = rw c.in-Ok.ensures.items
          (All-push IsGuest c.loop-plan.guests.items c.in_ok-guest.guest c.loop-plan.invariant.in_range c.in_ok-guest.ensures.in_range);
      count = search rules;
    }

pub returns-in_err-guest-clause-read : goal.returns-in_err-guest-clause-read
returns-in_err-guest-clause-read g c =
    let p = err_from_is_err_and c.from_residual.result c.from_residual.ensures.1 in
    rw (p.1, p.2) (next_ends guest_said c.args.plans.now c.loop-plan.plan-index c.plan-item.result c.loop-plan.guests.items c.in_err-guest.field-0.0 _ _ _
    c.loop-plan-test.true c.plan-item.is c.loop-plan.invariant.read c.in_err-guest.ensures.read)

pub returns-in_default-clause-read : goal.returns-in_default-clause-read
returns-in_default-clause-read g c = c.in_ok-guest.ensures.read.0 ∙ c.loop-plan.invariant.read.stayed

pub returns-clause-read : goal.returns-clause-read
returns-clause-read g c =
    let plans = map guest_said c.args.plans.now in
    let none : drop c.loop-plan.plan-index plans ≡ [] = drop_all c.loop-plan.plan-index plans (rw length-map c.loop-plan-test.false) in
    all_read (λ (guests : Vec GuestAtStart Global). guests.items) plans c.loop-plan.guests _ _ (rw none at c.loop-plan.invariant.read)
