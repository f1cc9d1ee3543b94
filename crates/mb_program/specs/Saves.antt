-- Guests that are saved, and guests of a snapshot that go on: what is shown of them.
use Rattle.std.specs.Prelude.{◌≡◌, ℕ, ◌+◌, ◌-◌, ◌*◌, ◌/◌, ◌≤◌, min, List, [], ◌∷◌, length, map, Some}
use Rattle.mb_model.specs.Keeping.{list_of, rule_k}
use Rattle.mb_script.specs.declared.turn.Turn.{Turn}
use Rattle.def_machine.specs.Machine.{Entries, Machine, diskless, seen_machine}
use Rattle.def_guests.specs.Rounds.{Member}
use Rattle.def_guests.specs.Turns.{Tally}
use Rattle.vm_saved.specs.Begins.{tally_from}
use Rattle.vm_saved.specs.Resumes.{bound_after, member_of_saved, most_steps, resumed}
use Rattle.vm_guest.specs.Session.{GuestAtStart, IsSession, SessionAtStart}
use Rattle.vm_slices.specs.Fit.{Fits}
use Rattle.vm_slices.specs.Members.{after_rounds, machine_at_end, member_at_start, tally_at_end}
use Rattle.vm_slices.specs.Orders.{after_order}
use Rattle.vm_snapshot.specs.Plans.{Plan}
use Rattle.vm_snapshot.specs.Shown.{IsSnapshot, ShownGuest, snapshot_text}
use Rattle.vm_snapshot.specs.declared.plan.SnapGuest.{SnapGuest}
use Rattle.mb_words.specs.Words.{Text}
use Rattle.mb_files.specs.declared.files.TheConstants.{MOST_SNAPSHOT_BYTES}
use Rattle.mb_program.specs.Headline.{alone, machine_text}
use Rattle.mb_ends.specs.Texts.{texts_from}
use Rattle.mb_program.specs.Direct.{bounded, steps_hosted, tallies_by}
use Rattle.mb_ends.specs.Lines.{counts_line}
use Rattle.mb_program.specs.Shown.{Shown}

-- ---- save

-- a guest that takes no more than these steps
abbrev pub cut_to : (steps : ℕ) → GuestAtStart → GuestAtStart
cut_to steps guest = bounded guest (min steps guest.steps)

abbrev pub all_cut_to : (steps : ℕ) → List GuestAtStart → List GuestAtStart
all_cut_to steps guests = map (cut_to steps) guests

-- one turn of so many steps for each guest, in their order; the first has this number
abbrev pub turn_each : (number steps : ℕ) → List GuestAtStart → List Turn
turn_each number steps [] = []
turn_each number steps (guest ∷ guests) =
    record { guest = number; steps = steps } ∷ turn_each (number + 1) steps guests

-- what a snapshot is written of: what the machine keeps and shows, its disk, and its guest's script
abbrev pub shown_of : Entries → Machine → ShownGuest
shown_of script m =
    record { kept = list_of 0 m.world.kept; script = script; seen = seen_machine m; disk = m.world.devices.disk }

abbrev pub shown_alone : GuestAtStart → ShownGuest
shown_alone guest = shown_of guest.script (alone rule_k guest)

-- The snapshot of all guests of a session after these steps, or fewer where a guest has no more. Each takes them in one
-- turn, and the board carries out the retired ones. Turns that the session names have no part in it.
abbrev pub save_shown : (steps : ℕ) → SessionAtStart → Shown
save_shown steps s = record {
  text = snapshot_text (s.board / 1024) s.slice (map shown_alone (all_cut_to steps s.guests));
  lines = [];
  status = 0;
  steps = Some (steps_hosted (tallies_by (all_cut_to steps s.guests))
      (after_order (turn_each 1 steps s.guests) (map member_at_start s.guests)));
}

-- What `save` wrote of a session: it fits on its board, and of its snapshot the grammar holds.
pub record IsSaved (steps : ℕ) (s : SessionAtStart) : Type 0 where
  pub session : IsSession s
  pub fits : Fits s
  pub lawful : IsSnapshot (s.board / 1024) s.slice (map shown_alone (all_cut_to steps s.guests))

-- ---- resume

-- a guest of a snapshot, which takes so many steps more
abbrev pub resumed_guest : (more : ℕ) → SnapGuest → Member
resumed_guest more g = member_of_saved g.disk g.saved g.script (bound_after g.saved.steps more)

abbrev pub resumed_guests : (more : ℕ) → Plan → List Member
resumed_guests more plan = map (resumed_guest more) plan.guests

-- a guest with as much RAM, in which there is nothing yet
abbrev pub seat_of : (more : ℕ) → SnapGuest → GuestAtStart
seat_of more g = record {
  opening = diskless [];
  script = g.script;
  ram = g.saved.ram;
  steps = bound_after g.saved.steps more;
}

-- the session that the guests of a snapshot make, by which they fit on their board or not
abbrev pub session_of : (more : ℕ) → Plan → SessionAtStart
session_of more plan =
    record { board = 1024 * plan.board; slice = plan.slice; guests = map (seat_of more) plan.guests }

-- The texts of the guests of a snapshot, each after so many steps more. On diag a line for each says how many steps of
-- each class it took since, from an empty shadow on, and the board carries out the retired ones.
abbrev pub resume_shown : (more : ℕ) → Plan → Shown
resume_shown more plan = record {
  text = texts_from machine_text 1 (map machine_at_end (resumed_guests more plan));
  lines = texts_from counts_line 1 (map tally_at_end (resumed_guests more plan));
  status = 0;
  steps = Some (steps_hosted (map tally_at_end (resumed_guests more plan))
      (after_rounds plan.slice (resumed_guests more plan)));
}

-- ---- what was saved goes on

-- how many steps more a guest takes: where the count of steps ends, it ends
abbrev pub steps_on : (more : ℕ) → GuestAtStart → ℕ
steps_on more guest = min more (most_steps - (alone rule_k guest).steps)

-- a guest that has not stopped at its last step
abbrev pub longer : (more : ℕ) → GuestAtStart → GuestAtStart
longer more guest = bounded guest (guest.steps + steps_on more guest)

-- how many steps of each class it has taken since, from an empty shadow on
abbrev pub tally_since : (more : ℕ) → GuestAtStart → Tally
tally_since more guest = tally_from guest.script (steps_on more guest) (alone rule_k guest)

-- What is shown of guests that were saved after their last step and go on: as if they had not stopped. The steps since
-- are taken in rounds of the saved slice.
abbrev pub gone_on_shown : (more slice : ℕ) → List GuestAtStart → Shown
gone_on_shown more slice guests = record {
  text = texts_from machine_text 1 (map (alone rule_k) (map (longer more) guests));
  lines = texts_from counts_line 1 (map (tally_since more) guests);
  status = 0;
  steps = Some (steps_hosted (map (tally_since more) guests) (after_rounds slice
      (map (λ (guest : GuestAtStart). resumed guest.script more (alone rule_k guest)) guests)));
}

-- A text that `save` wrote of a session, no longer than a snapshot may be.
pub record IsSavedText (steps : ℕ) (s : SessionAtStart) (text : Text) : Type 0 where
  pub saved : IsSaved steps s
  pub written : text ≡ (save_shown steps s).text
  pub few : length text ≤ MOST_SNAPSHOT_BYTES
