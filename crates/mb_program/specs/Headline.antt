-- What `host` promises: each guest of a session runs as if it were alone.
use Rattle.std.specs.Prelude.{◌≡◌, ◌⊎◌, ℕ, List, [], ◌++◌, All, map, Option, Some, option_map, Ok}
use Rattle.std.specs.Option.{option_map_or}
use Rattle.mb_model.specs.Keeping.{Rule, rule_k}
use Rattle.def_machine.specs.Machine.{Machine, run_of, seen_machine, start}
use Rattle.mb_report.specs.Text.{outcome_text}
use Rattle.vm_disk.specs.Text.{disk_text}
use Rattle.def_runs.specs.Free.{FreeRun, Within, rule_free}
use Rattle.vm_guest.specs.Session.{GuestAtStart}
use Rattle.vm_slices.specs.Fit.{Fits}
use Rattle.mb_words.specs.Words.{Text, asked_by, hosting}
use Rattle.mb_files.specs.Reading.{Told, end_of}
use Rattle.mb_ends.specs.Texts.{texts_from}
use Rattle.mb_program.specs.Files.{Ordered, session_files}

-- A guest alone on a board that keeps translations by a rule: the machine after its own steps, or fewer where it halts
-- or is switched off, from its own image, disk, script and RAM.
abbrev pub alone : Rule → GuestAtStart → Machine
alone rule guest = run_of rule guest.script guest.steps (start rule guest.opening guest.ram)

-- So may a board come to it that uses any translation kept since the last flush that covers it: but for what is kept,
-- the machine is that of a free run from the same start, and each entry that it keeps stands there too.
abbrev pub IsFree : GuestAtStart → Machine → Type 0
IsFree guest m = (end : Machine) × FreeRun guest.script guest.steps (start rule_free guest.opening guest.ram) end
    × Within m end

-- what a machine shows, and then its disk, where one is attached
abbrev pub machine_text : ℕ → Machine → Text
machine_text i m = outcome_text i (seen_machine m) ++ option_map_or (disk_text i) m.world.devices.disk []

-- What out has gained of guests, and the status.
pub record RunAlone (guests : List GuestAtStart) (out out_after : Option Text) (status : ℕ) : Type 0 where
  -- With status 0 exactly the text of each guest alone, by the rule of guests, in their order, behind what it had,
  pub printed : status ≡ 0
      → out_after ≡ option_map (λ taken. taken ++ texts_from machine_text 1 (map (alone rule_k) guests)) out
  -- and this is so unless the shelf failed, out failed, or memory ran out.
  pub ended : (status ≡ 0) ⊎ (status ≡ 5) ⊎ (status ≡ 6) ⊎ (status ≡ 7)
  pub free : All (λ (guest : GuestAtStart). IsFree guest (alone rule_k guest)) guests

-- So it is where the words ask to host a session whose files are told and in their grammars, and which fits its board.
abbrev pub Headline : (words : List Text) → Told → (out out_after : Option Text) → (status : ℕ) → Type 0
Headline words told out out_after status = (name : Text) (s : Ordered) → asked_by words ≡ Some (hosting name)
    → end_of told (session_files name) ≡ Some (Ok s) → Fits s.session → RunAlone s.session.guests out out_after status
