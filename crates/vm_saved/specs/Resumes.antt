-- A run that is saved in its middle and goes on from what was saved.
use Rattle.std.specs.Prelude.{◌≡◌, ℕ, ◌+◌, ◌-◌, ◌%◌, ◌^◌, ◌≤◌, min, true, All, Option}
use Rattle.vm_disk.specs.Disk.{DiskState}
use Rattle.mb_srec.specs.Image.{LiesBelow}
use Rattle.mb_model.specs.Keeping.{rule_k}
use Rattle.def_machine.specs.Machine.{Entries, Machine, Opening, run_of, seen_machine, start, takes_steps}
use Rattle.mb_report.specs.Text.{outcome_text}
use Rattle.def_guests.specs.Turns.{no_steps}
use Rattle.def_guests.specs.Rounds.{Member, left}
use Rattle.mb_saved.specs.Saved.{IsLawful, Saved}
use Rattle.vm_saved.specs.Saved.{CanBeSaved, machine_of, saved_of}
use Rattle.vm_saved.specs.Begins.{beginning, tally_from}
use Rattle.vm_saved.specs.Cuts.{above}

-- the most steps that a machine counts
abbrev pub most_steps : ℕ
most_steps = 2 ^ 32 - 1

-- the bound of a guest that goes on for so many steps more: where the count ends, it ends
abbrev pub bound_after : (steps more : ℕ) → ℕ
bound_after steps more = min (steps + more) most_steps

-- a guest that begins with what was saved and its disk, with its script and a bound on its steps
abbrev pub member_of_saved : Option DiskState → Saved → Entries → (bound : ℕ) → Member
member_of_saved disk s script bound = record {
  script = script;
  bound = bound;
  guest = (beginning (machine_of disk s)).guest;
  tally = no_steps;
}

-- What is saved of a machine with the script that is left, and goes on for so many steps more.
abbrev pub resumed : Entries → (more : ℕ) → Machine → Member
resumed script more m =
    member_of_saved m.world.devices.disk (saved_of m) (above m.steps script) (bound_after m.steps more)

-- From the first machine m steps are taken, and what comes of that is saved: its text and its disk, after n steps
-- more, are those of m + n steps, n being cut where the count ends; the counts are those of these n steps, from what
-- was saved and with an empty shadow.
pub record AddsUp (script : Entries) (m n : ℕ) (first : Machine) : Type 0 where
  pub text : (number : ℕ) → let at = run_of rule_k script m first in
      let member = resumed script n at in
      outcome_text number (seen_machine (run_of rule_k member.script (left member) member.guest.machine))
      ≡ outcome_text number (seen_machine (run_of rule_k script (m + min n (most_steps - at.steps)) first))
  pub disk : let at = run_of rule_k script m first in
      let member = resumed script n at in
      (run_of rule_k member.script (left member) member.guest.machine).world.devices.disk
      ≡ (run_of rule_k script (m + min n (most_steps - at.steps)) first).world.devices.disk
  pub tally : let at = run_of rule_k script m first in
      let member = resumed script n at in
      tally_from member.script (left member) member.guest.machine
      ≡ tally_from script (min n (most_steps - at.steps)) at
  -- and a machine that takes steps is given back as it was
  pub machine : let at = run_of rule_k script m first in takes_steps at.state ≡ true
      → machine_of at.world.devices.disk (saved_of at) ≡ at

abbrev pub ResumedRunsGoOn : Type 0
ResumedRunsGoOn = (script : Entries) (m n : ℕ) (first : Machine)
    → CanBeSaved (run_of rule_k script m first) → (run_of rule_k script m first).steps ≤ most_steps
    → AddsUp script m n first

-- That holds of a guest's run from its start,
abbrev pub StartedRunsGoOn : Type 0
StartedRunsGoOn = (opening : Opening) (size : ℕ) (script : Entries) (m n : ℕ)
    → size % 16 ≡ 0 → All (LiesBelow size) opening.image → let first = start rule_k opening size in
    (run_of rule_k script m first).steps ≤ most_steps → AddsUp script m n first

-- and from a lawful machine that was saved.
abbrev pub SavedRunsGoOn : Type 0
SavedRunsGoOn = (disk : Option DiskState) (s : Saved) (script : Entries) (m n : ℕ)
    → IsLawful s → let first = machine_of disk s in
    (run_of rule_k script m first).steps ≤ most_steps → AddsUp script m n first
