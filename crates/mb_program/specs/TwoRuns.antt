-- A run of the program that saves a session, and one that goes on from what it wrote.
use Rattle.std.specs.Prelude.{◌≡◌, ℕ, ◌≤◌, [], length, Some}
use Rattle.mb_words.specs.Words.{Resumption, SavePoint, Text, resuming, saving}
use Rattle.mb_files.specs.declared.files.TheConstants.{MOST_SNAPSHOT_BYTES}
use Rattle.mb_program.specs.Files.{Ordered, session_files}
use Rattle.mb_program.specs.Around.{Around, Diag}
use Rattle.mb_program.specs.Causes.{Causes, Gets, Gives}
use Rattle.mb_program.specs.Saves.{all_cut_to, gone_on_shown}

-- The first run is told the files of a session, and writes a text on an empty out. The text is no longer than a
-- snapshot may be, and the second run is told it.
pub record IsHandedOn (p : SavePoint) (r : Resumption) (s : Ordered) (text : Text) (first second : Around)
    : Type 0 where
  pub gets : Gets first (session_files p.session) s
  pub empty : first.out.taken ≡ Some []
  pub wrote : first.out_after.taken ≡ Some text
  pub few : length text ≤ MOST_SNAPSHOT_BYTES
  pub told : second.shelf.told r.snapshot ≡ Some text

-- Where the first one saves it with status 0, the second one gives the texts of the guests' own runs of the steps of
-- both.
abbrev pub SavedSessionsGoOn : Type 0
SavedSessionsGoOn = (p : SavePoint) (r : Resumption) (s : Ordered) (text : Text) (first second : Around)
    (first_diag second_diag : Diag) (status : ℕ) → IsHandedOn p r s text first second
    → Causes (Some (saving p)) first first_diag 0 → Causes (Some (resuming r)) second second_diag status
    → Gives second second_diag (gone_on_shown r.steps s.session.slice (all_cut_to p.steps s.session.guests)) status
