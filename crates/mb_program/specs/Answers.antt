-- What each command answers, by what its files hold.
use Rattle.std.specs.Prelude.{ℕ, ◌*◌, nat_lt, Bool, true, false, ◌&&◌, if◌then◌else◌}
use Rattle.std.specs.Prelude.{List, [], ◌++◌, length, map, codes, decimal, slice_index, Option, Some, None}
use Rattle.std.specs.List.{list_all}
use Rattle.mb_srec.specs.Written.{text_of}
use Rattle.mb_model.specs.Keeping.{rule_a, rule_k}
use Rattle.mb_model.specs.Seen.{Seen}
use Rattle.mb_walk.specs.Memory.{Contents}
use Rattle.vm_disk.specs.Disk.{DiskState}
use Rattle.vm_disk.specs.Same.{same_disk}
use Rattle.def_machine.specs.Machine.{Entries, Machine, Opening, diskless, run_of, seen_machine, start}
use Rattle.mb_report.specs.Digits.{hex8}
use Rattle.mb_report.specs.Text.{state_word}
use Rattle.mb_report.specs.Same.{same_seen}
use Rattle.mb_listing.specs.Listing.{listing}
use Rattle.vm_guest.specs.Session.{GuestAtStart, SessionAtStart}
use Rattle.vm_slices.specs.Fit.{need_of}
use Rattle.mb_gen.specs.Sessions.{generated}
use Rattle.mb_words.specs.Words.{Text, Run, Excerpt, Workload}
use Rattle.mb_words.specs.Words.{Asked, bare, assembly, disassembly, hosting, comparison, generation}
use Rattle.mb_words.specs.Words.{debugging, resuming, saving}
use Rattle.mb_files.specs.Reading.{Reading, gives, ◌>>=◌, file, images}
use Rattle.mb_files.specs.Sources.{sources}
use Rattle.mb_files.specs.Snapshots.{snapshots}
use Rattle.mb_program.specs.Files.{Ordered, machine_files, session_files}
use Rattle.mb_program.specs.Headline.{alone, machine_text}
use Rattle.mb_ends.specs.Texts.{texts_from}
use Rattle.mb_program.specs.Direct.{steps_of_all, tallies_by}
use Rattle.mb_ends.specs.Lines.{counts_line}
pub use Rattle.mb_program.specs.Shown.{Shown, plain}
use Rattle.mb_program.specs.Debugs.{debug_shown, debugged_files}
use Rattle.mb_program.specs.Saves.{resume_shown, save_shown, session_of}

-- ---- answers

-- A command shows something, or its guests need more bytes than their board has.
pub data Answer : Type 0 where
  shows : Shown → Answer
  oversizes : (need have : ℕ) → Answer

-- ---- bare

-- the machine on the board after its steps, or fewer where it halts or is switched off
abbrev pub bare_machine : Run → Opening → Entries → Machine
bare_machine run opening script = run_of rule_a script run.steps (start rule_a opening (1024 * run.ram))

-- its text, as that of guest 1
abbrev pub bare_shown : Run → Opening → Entries → Shown
bare_shown run opening script = plain (machine_text 1 (bare_machine run opening script))

-- ---- asm

-- the image of a source as S-records
abbrev pub asm_shown : Contents → Shown
asm_shown image = plain (text_of image)

-- ---- dis

-- RAM of so many bytes as an image leaves it, before any step
abbrev pub opening_ram : Contents → (size : ℕ) → List ℕ
opening_ram image size = (start rule_a (diskless image) size).world.ram

-- its lines from the address on
abbrev pub dis_shown : Excerpt → Contents → Shown
dis_shown excerpt image = plain (listing (opening_ram image (1024 * excerpt.ram)) excerpt.at excerpt.count)

-- ---- host

-- The texts of all guests under the monitor, in their order. On diag a line for each says how many steps of each class
-- it took, and the board carries out the retired ones.
abbrev pub host_shown : Ordered → Shown
host_shown s = record {
  text = texts_from machine_text 1 (map (alone rule_k) s.session.guests);
  lines = texts_from counts_line 1 (tallies_by s.session.guests);
  status = 0;
  steps = Some (steps_of_all s);
}

-- ---- compare

-- whether neither disk is attached, or both are and are the same
abbrev pub same_disks : Option DiskState → Option DiskState → Bool
same_disks None None = true
same_disks (Some a) (Some b) = same_disk a b
same_disks _ _ = false

-- whether two machines show the same, with their disks
abbrev pub shows_same : Machine → Machine → Bool
shows_same a b = same_seen (seen_machine a) (seen_machine b) && same_disks a.world.devices.disk b.world.devices.disk

-- whether a guest shows the same on the board and under the monitor
abbrev pub is_same : GuestAtStart → Bool
is_same guest = shows_same (alone rule_a guest) (alone rule_k guest)

abbrev pub compared_text : ℕ → Bool → Text
compared_text i same = codes "guest " ++ decimal i ++ (if same then codes " same\n" else codes " differs\n")

-- a line for each guest, and status 1 where some guest differs; under the monitor they run as hosted ones do
abbrev pub compare_shown : Ordered → Shown
compare_shown s = record {
  text = texts_from compared_text 1 (map is_same s.session.guests);
  lines = [];
  status = if list_all is_same s.session.guests then 0 else 1;
  steps = Some (steps_of_all s);
}

-- ---- gen

-- a guest's state, how many steps it took and how many bytes it sent, and D0
abbrev pub summary_line : ℕ → Seen → Text
summary_line i seen = codes "guest " ++ decimal i
    ++ codes " " ++ state_word seen.state
    ++ codes " steps " ++ decimal seen.steps
    ++ codes " console " ++ decimal (length seen.console)
    ++ codes " D0 " ++ hex8 (slice_index seen.cpu.regs.d 0)
    ++ codes "\n"

-- a line for each guest, and a last line
abbrev pub summary_text : List Seen → Text
summary_text shown = texts_from summary_line 1 shown ++ codes "end\n"

-- the session that a number makes, which has room for its guests
abbrev pub made_session : Workload → Ordered
made_session workload = record { session = generated workload.seed workload.guests; order = [] }

-- What all its guests show under the monitor, in short.
abbrev pub gen_shown : Workload → Shown
gen_shown workload = record {
  text = summary_text
      (map (λ (guest : GuestAtStart). seen_machine (alone rule_k guest)) (made_session workload).session.guests);
  lines = [];
  status = 0;
  steps = Some (steps_of_all (made_session workload));
}

-- ---- every command

-- its guests fit on its board, or the answer is that they do not
abbrev pub if_it_fits : SessionAtStart → Shown → Answer
if_it_fits s shown =
    if nat_lt s.board (need_of s.guests) then oversizes (need_of s.guests) s.board else shows shown

-- The files of each command, and its answer by what they hold.
abbrev pub answer_to : Asked → Reading Answer
answer_to (bare run) = do
  (opening, script) ← machine_files run.image run.ram run.script run.disk
  gives (shows (bare_shown run opening script))
answer_to (assembly name) = do
  image ← file sources name
  gives (shows (asm_shown image))
answer_to (disassembly excerpt) = do
  image ← file (images (1024 * excerpt.ram)) excerpt.image
  gives (shows (dis_shown excerpt image))
answer_to (hosting name) = do
  s ← session_files name
  gives (if_it_fits s.session (host_shown s))
answer_to (comparison name) = do
  s ← session_files name
  gives (if_it_fits s.session (compare_shown s))
answer_to (debugging d) = do
  (session, orders) ← debugged_files d
  gives (if_it_fits session (debug_shown d.guest session.guests orders))
answer_to (saving p) = do
  s ← session_files p.session
  gives (if_it_fits s.session (save_shown p.steps s.session))
answer_to (resuming r) = do
  plan ← file snapshots r.snapshot
  gives (if_it_fits (session_of r.steps plan) (resume_shown r.steps plan))
answer_to (generation workload) = gives (shows (gen_shown workload))
