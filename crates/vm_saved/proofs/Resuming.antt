-- A run that is saved in its middle.
use Rattle.std.proofs.Common.{◌≡◌, ◌∙◌, ℕ, ◌+◌, ◌-◌, ◌≤◌, refl, ap, sym, true, false, inl, inr, arith}
use Rattle.std.specs.Prelude.{min}
use Rattle.std.proofs.lemmas.Bool.{cases_Bool}
use Rattle.mb_model.specs.Keeping.{rule_k}
use Rattle.def_machine.specs.Machine.{Entries, Machine, run_of, seen_machine, start, takes_steps}
use Rattle.mb_report.specs.Text.{outcome_text}
use Rattle.def_guests.specs.Turns.{Turned}
use Rattle.def_guests.specs.Rounds.{left}
use Rattle.def_guests.proofs.TurnLaws.{halted_turn, nothing_turned}
use Rattle.vm_saved.specs.Saved.{CanBeSaved, as_told, machine_of, saved_of}
use Rattle.vm_saved.specs.Begins.{beginning, tally_from}
use Rattle.vm_saved.specs.Cuts.{above}
use Rattle.vm_saved.specs.Resumes.{bound_after, most_steps, resumed, AddsUp, ResumedRunsGoOn, SavedRunsGoOn, StartedRunsGoOn}
use Rattle.vm_saved.proofs.Runs.{halted_run, nothing_run, runs_add}
use Rattle.vm_saved.proofs.Cut.{cut_runs, cut_turns}
use Rattle.vm_saved.proofs.GivenBack.{saved_is_given_back, going_is_given_back}
use Rattle.vm_saved.proofs.Saving.{runs_can_be_saved, saved_can_be_saved, starts_can_be_saved}

-- the text shows neither of the two that are not saved
text_told : (number : ℕ) (m : Machine) → outcome_text number (seen_machine (as_told m)) ≡ outcome_text number (seen_machine m)
text_told number m = refl

-- what is left to it
left_on : (script : Entries) (n : ℕ) (m : Machine) → takes_steps m.state ≡ true → left (resumed script n m) ≡ bound_after m.steps n - m.steps
left_on script n m h = rw h refl

left_still : (script : Entries) (n : ℕ) (m : Machine) → takes_steps m.state ≡ false → left (resumed script n m) ≡ 0
left_still script n m h = rw h refl

cut_steps : (steps n most : ℕ) → steps ≤ most → min (steps + n) most - steps ≡ min n (most - steps)
cut_steps steps n most h = omega arith

-- the run, and the count, from what was saved
abbrev on_by : Entries → ℕ → Machine → Machine
on_by script n m = run_of rule_k script n m

goes_on_going : (script : Entries) (m n : ℕ) (first : Machine) → let at = run_of rule_k script m first in
    CanBeSaved at → at.steps ≤ most_steps → takes_steps at.state ≡ true → AddsUp script m n first
goes_on_going script m n first c few going =
    let at = run_of rule_k script m first in
    let cut = above at.steps script in
    let k = min n (most_steps - at.steps) in
    let saved = machine_of at.world.devices.disk (saved_of at) in
    let back : saved ≡ at = going_is_given_back at c going in
    let many : left (resumed script n at) ≡ k = left_on script n at going ∙ cut_steps at.steps n most_steps few in
    record {
      text = λ number.
          ap (λ (j : ℕ). outcome_text number (seen_machine (on_by cut j saved))) many
          ∙ ap (λ (x : Machine). outcome_text number (seen_machine (on_by cut k x))) back
          ∙ ap (λ (x : Machine). outcome_text number (seen_machine x))
          (cut_runs rule_k script at.steps k at (omega arith) ∙ sym (runs_add rule_k script m k first));
      disk =
          ap (λ (j : ℕ). (on_by cut j saved).world.devices.disk) many
          ∙ ap (λ (x : Machine). (on_by cut k x).world.devices.disk) back
          ∙ ap (λ (x : Machine). x.world.devices.disk)
          (cut_runs rule_k script at.steps k at (omega arith) ∙ sym (runs_add rule_k script m k first));
      tally =
          ap (λ (j : ℕ). tally_from cut j saved) many
          ∙ ap (tally_from cut k) back
          ∙ ap (λ (t : Turned). t.tally) (cut_turns script at.steps k (beginning at) (omega arith));
      machine = λ h. back;
    }

goes_on_still : (script : Entries) (m n : ℕ) (first : Machine) → let at = run_of rule_k script m first in
    CanBeSaved at → takes_steps at.state ≡ false → AddsUp script m n first
goes_on_still script m n first c still =
    let at = run_of rule_k script m first in
    let cut = above at.steps script in
    let k = min n (most_steps - at.steps) in
    let saved = machine_of at.world.devices.disk (saved_of at) in
    let back : saved ≡ as_told at = saved_is_given_back at c in
    let none : left (resumed script n at) ≡ 0 = left_still script n at still in
    record {
      text = λ number.
          ap (λ (j : ℕ). outcome_text number (seen_machine (on_by cut j saved))) none
          ∙ ap (λ (x : Machine). outcome_text number (seen_machine x)) (nothing_run rule_k cut saved ∙ back)
          ∙ text_told number at
          ∙ ap (λ (x : Machine). outcome_text number (seen_machine x))
          (sym (halted_run rule_k script k at still) ∙ sym (runs_add rule_k script m k first));
      disk =
          ap (λ (j : ℕ). (on_by cut j saved).world.devices.disk) none
          ∙ ap (λ (x : Machine). x.world.devices.disk) (nothing_run rule_k cut saved ∙ back)
          ∙ ap (λ (x : Machine). x.world.devices.disk)
          (sym (halted_run rule_k script k at still) ∙ sym (runs_add rule_k script m k first));
      tally =
          ap (λ (j : ℕ). tally_from cut j saved) none
          ∙ ap (λ (t : Turned). t.tally) (nothing_turned cut (beginning saved))
          ∙ ap (λ (t : Turned). t.tally) (sym (halted_turn script k (beginning at) still));
      machine = λ h. absurd (let f : false ≡ true = sym still ∙ h in cc);
    }

pub resumed_runs_go_on : ResumedRunsGoOn
resumed_runs_go_on script m n first c few = elim (cases_Bool (takes_steps (run_of rule_k script m first).state)) [
  | inl going ↦ goes_on_going script m n first c few going
  | inr still ↦ goes_on_still script m n first c still
]

pub started_runs_go_on : StartedRunsGoOn
started_runs_go_on opening size script m n whole lie few =
    let first = start rule_k opening size in
    resumed_runs_go_on script m n first (runs_can_be_saved rule_k script m first (starts_can_be_saved opening size whole lie)) few

pub saved_runs_go_on : SavedRunsGoOn
saved_runs_go_on disk s script m n lawful few =
    let first = machine_of disk s in
    resumed_runs_go_on script m n first (runs_can_be_saved rule_k script m first (saved_can_be_saved disk s lawful)) few
