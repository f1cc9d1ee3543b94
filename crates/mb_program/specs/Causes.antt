-- What each command promises, and what each status says of its cause.
use Rattle.std.specs.Prelude.{◌≡◌, ◌⊎◌, ◌<◌, ◌*◌, ⊤, ℕ, true, codes, Option, Some, None, IfSome, is_some}
use Rattle.std.specs.Prelude.{List, Result, Ok, Err}
use Rattle.mb_outside.specs.Counts.{Rose}
use Rattle.mb_outside.specs.Sink.{Grows}
use Rattle.mb_walk.specs.Memory.{Contents}
use Rattle.vm_slices.specs.Fit.{Fits}
use Rattle.vm_slices.specs.Members.{numbered}
use Rattle.vm_guest.specs.Session.{GuestAtStart, SessionAtStart}
use Rattle.vm_debug.specs.declared.command.Command.{Command}
use Rattle.mb_words.specs.Words.{Text, Asked, Run, Excerpt, Workload, Debugged, SavePoint, Resumption}
use Rattle.mb_words.specs.Words.{bare, assembly, disassembly, hosting, comparison, generation}
use Rattle.mb_words.specs.Words.{debugging, resuming, saving}
use Rattle.def_machine.specs.Machine.{Entries, Opening}
use Rattle.mb_files.specs.Reading.{Told, Reading, end_of, file, images}
use Rattle.mb_files.specs.Comes.{Comes, Names}
use Rattle.mb_files.specs.Sources.{sources}
use Rattle.mb_files.specs.Snapshots.{snapshots}
use Rattle.mb_files.specs.Shelves.{IsMissing}
use Rattle.mb_files.specs.declared.fault.FileWhy.{FileWhy}
use Rattle.mb_program.specs.Files.{Ordered, machine_files, session_files}
use Rattle.mb_program.specs.Answers.{Answer, Shown, shows, oversizes, answer_to}
use Rattle.mb_program.specs.Answers.{bare_shown, asm_shown, dis_shown, host_shown, compare_shown, gen_shown}
use Rattle.mb_program.specs.Debugs.{debugged_files, debugged_shown}
use Rattle.mb_program.specs.Saves.{IsSaved, IsSavedText, all_cut_to, gone_on_shown, resume_shown, save_shown, session_of}
use Rattle.vm_snapshot.specs.Plans.{Plan}
use Rattle.mb_program.specs.Around.{Around, Diag, Gains, GainsPart, IsPut}
use Rattle.mb_program.specs.Direct.{IsCounted}
use Rattle.mb_ends.specs.Lines.{named, oversize_line, why_text}
use Rattle.mb_program.specs.Tidy.{TidyAreSame}

-- ---- commands

-- the text of a command was written: all was done, or some guest differs
abbrev pub IsDone : ℕ → Type 0
IsDone status = (status ≡ 0) ⊎ (status ≡ 1)

-- What a command promises that shows this.
pub record Gives (a : Around) (diag : Diag) (shown : Shown) (status : ℕ) : Type 0 where
  -- Once it is done, out has gained exactly its text, and diag its lines, or a first part where diag fails;
  pub printed : IsDone status → Grows a.out.taken a.out_after.taken shown.text
  pub said : IsDone status → IsPut diag shown.lines
  -- and where its guests have run under the monitor, the board has carried out each retired step, from the guest's own
  -- registers to the guest's own registers, and no other.
  pub counted : IsDone status → IsCounted shown.steps a.native a.native_after
  -- It is done, with this status, unless the shelf failed, out failed, or memory ran out.
  pub ended : (status ≡ shown.status) ⊎ (status ≡ 5) ⊎ (status ≡ 6) ⊎ (status ≡ 7)

-- The shelf tells the files of a reading, which gives this.
abbrev pub Gets : {A : Type 0} → Around → Reading A → A → Type 0
Gets a reading x = end_of a.shelf.told reading ≡ Some (Ok x)

-- ---- statuses

-- the words ask for a command, for which this holds
abbrev pub Asks : Option Asked → (Asked → Type 0) → Type 0
Asks None P = ⊥
Asks (Some asked) P = P asked

-- the words ask for a command, which by bytes that its files may have comes to this end
abbrev pub AsksFor : Option Asked → Around → Result Answer (Text × FileWhy) → Type 0
AsksFor asked a end = Asks asked (λ command. Comes a.shelf.told (answer_to command) end)

-- the words ask for a command whose files are told, and by which a file is refused, or the guests do not fit
abbrev pub IsRefused : Option Asked → Around → Type 0
IsRefused asked a = Asks asked (λ command. (name : Text) × (why : FileWhy)
    × (end_of a.shelf.told (answer_to command) ≡ Some (Err (name, why))))

abbrev pub IsOversize : Option Asked → Around → Type 0
IsOversize asked a = Asks asked (λ command. (need : ℕ) × (have : ℕ) × Gets a (answer_to command) (oversizes need have))

-- the shelf is whole and tells every file of the command
abbrev pub IsAllTold : Option Asked → Around → Type 0
IsAllTold asked a =
    (a.shelf.whole ≡ true) × Asks asked (λ command. is_some (end_of a.shelf.told (answer_to command)) ≡ true)

-- What was written, with this status.
pub record Written (asked : Option Asked) (a : Around) (diag : Diag) (status : ℕ) : Type 0 where
  pub shown : Shown
  pub comes : AsksFor asked a (Ok (shows shown))
  pub status_is : shown.status ≡ status
  pub gained : Gains a.out a.out_after shown.text
  pub counted : IsCounted shown.steps a.native a.native_after
  pub line : IsPut diag shown.lines

-- The file that was refused.
pub record FileRefused (asked : Option Asked) (a : Around) (diag : Diag) : Type 0 where
  pub name : Text
  pub why : FileWhy
  pub comes : AsksFor asked a (Err (name, why))
  pub line : IsPut diag (named name (why_text why))

-- The numbers of bytes that the guests need and their board has.
pub record NotFit (asked : Option Asked) (a : Around) (diag : Diag) : Type 0 where
  pub need : ℕ
  pub have : ℕ
  pub comes : AsksFor asked a (Ok (oversizes need have))
  pub line : IsPut diag (oversize_line need have)

-- The file that could not be read: one of the command's, and none that a whole shelf tells.
pub record FileUnread (asked : Option Asked) (a : Around) (diag : Diag) : Type 0 where
  pub rose : Rose a.shelf.faults a.shelf_after.faults
  pub name : Text
  pub names : Asks asked (λ command. Names a.shelf.told (answer_to command) name)
  pub missing : IsMissing a.shelf name
  pub line : IsPut diag (named name (codes " cannot be read\n"))

-- What was cut: out took a first part of it.
pub record Cut (asked : Option Asked) (a : Around) (diag : Diag) : Type 0 where
  pub rose : Rose a.out.faults a.out_after.faults
  pub shown : Shown
  pub comes : AsksFor asked a (Ok (shows shown))
  pub part : GainsPart a.out a.out_after shown.text
  pub line : IsPut diag (codes "mbx: output failed\n")

-- the words ask for nothing, or for a command without guests
abbrev pub HostsNothing : Option Asked → Type 0
HostsNothing None = ⊤
HostsNothing (Some (bare run)) = ⊤
HostsNothing (Some (assembly name)) = ⊤
HostsNothing (Some (disassembly excerpt)) = ⊤
HostsNothing (Some (hosting name)) = ⊥
HostsNothing (Some (comparison name)) = ⊥
HostsNothing (Some (generation workload)) = ⊥
HostsNothing (Some (debugging d)) = ⊥
HostsNothing (Some (saving p)) = ⊥
HostsNothing (Some (resuming r)) = ⊥

-- Where the words ask to save a session whose files are told, what was written with status 0 is lawful.
abbrev pub HasSaved : Option Asked → Around → (status : ℕ) → Type 0
HasSaved asked a status = (p : SavePoint) (s : Ordered) → asked ≡ Some (saving p)
    → Gets a (session_files p.session) s → status ≡ 0 → IsSaved p.steps s.session

-- the statuses
abbrev pub IsStatus : ℕ → Type 0
IsStatus status =
    (status ≡ 0) ⊎ (status ≡ 1) ⊎ (status ≡ 2) ⊎ (status ≡ 3) ⊎ (status ≡ 4) ⊎ (status ≡ 5) ⊎ (status ≡ 6)
    ⊎ (status ≡ 7)

-- What stands after a run of the program.
pub record Causes (asked : Option Asked) (a : Around) (diag : Diag) (status : ℕ) : Type 0 where
  -- Commands, whose files are told. A machine alone on the board:
  pub ran : (run : Run) (opening : Opening) (script : Entries) → asked ≡ Some (bare run)
      → Gets a (machine_files run.image run.ram run.script run.disk) (opening, script)
      → Gives a diag (bare_shown run opening script) status
  pub assembled : (name : Text) (image : Contents) → asked ≡ Some (assembly name)
      → Gets a (file sources name) image → Gives a diag (asm_shown image) status
  pub listed : (excerpt : Excerpt) (image : Contents) → asked ≡ Some (disassembly excerpt)
      → Gets a (file (images (1024 * excerpt.ram)) excerpt.image) image → Gives a diag (dis_shown excerpt image) status
  -- The guests of a session that fits: each as if it were alone, with its own disk;
  pub hosted : (name : Text) (s : Ordered) → asked ≡ Some (hosting name)
      → Gets a (session_files name) s → Fits s.session → Gives a diag (host_shown s) status
  -- each of them by both rules of keeping, with status 1 where some differ;
  pub compared : (name : Text) (s : Ordered) → asked ≡ Some (comparison name)
      → Gets a (session_files name) s → Fits s.session → Gives a diag (compare_shown s) status
  -- and of one that flushes what it changes, this says that it shows the same.
  pub tidy : (name : Text) (s : Ordered) → asked ≡ Some (comparison name)
      → Gets a (session_files name) s → Fits s.session → TidyAreSame a s.session.guests status
  -- One guest of a session that fits, alone on its board and under the debugger: what each command prints, and then
  -- the guest's own text after as many steps.
  pub debugged : (d : Debugged) (session : SessionAtStart) (orders : List Command) (guest : GuestAtStart)
      → asked ≡ Some (debugging d) → Gets a (debugged_files d) (session, orders)
      → numbered d.guest session.guests ≡ Some guest → Fits session
      → Gives a diag (debugged_shown d.guest guest orders) status
  -- The snapshot of a session that fits: of each guest its machine after these steps alone.
  pub saved : (p : SavePoint) (s : Ordered) → asked ≡ Some (saving p)
      → Gets a (session_files p.session) s → Fits s.session → Gives a diag (save_shown p.steps s.session) status
  -- It is lawful: the grammar of snapshots holds of it.
  pub is_saved : HasSaved asked a status
  -- The guests of a snapshot that fits, each from there for so many steps more.
  pub resumed : (r : Resumption) (plan : Plan) → asked ≡ Some (resuming r)
      → Gets a (file snapshots r.snapshot) plan → Fits (session_of r.steps plan)
      → Gives a diag (resume_shown r.steps plan) status
  -- Where it is what `save` wrote of a session, they come to where each comes alone that is not stopped.
  pub goes_on : (r : Resumption) (text : Text) (steps : ℕ) (s : SessionAtStart) → asked ≡ Some (resuming r)
      → a.shelf.told r.snapshot ≡ Some text → IsSavedText steps s text
      → Gives a diag (gone_on_shown r.steps s.slice (all_cut_to steps s.guests)) status
  -- The guests of a session that a number makes, in short.
  pub generated : (workload : Workload) → asked ≡ Some (generation workload) → Gives a diag (gen_shown workload) status
  -- Whatever the command, an answer that is known to be shown is given.
  pub complete : (command : Asked) (shown : Shown) → asked ≡ Some command
      → Gets a (answer_to command) (shows shown) → Gives a diag shown status
  -- Statuses. There are no others.
  pub known : IsStatus status
  -- 0 and 1: what was written, with its status, its lines on diag, and what is counted of its guests.
  pub done_only : status ≡ 0 → Written asked a diag 0
  pub differs_only : status ≡ 1 → Written asked a diag 1
  -- 2: words are refused only where they ask for nothing, and always, unless memory runs out.
  pub words_only : status ≡ 2 → (asked ≡ None) × IsPut diag (codes "mbx: words refused\n")
  pub words_always : asked ≡ None → (status ≡ 2) ⊎ (status ≡ 7)
  -- 3: a file, also one with the contents of a disk, is refused only for what it may hold, and always, unless the shelf
  -- fails or memory runs out.
  pub refused_only : status ≡ 3 → FileRefused asked a diag
  pub refused_always : IsRefused asked a → (status ≡ 3) ⊎ (status ≡ 5) ⊎ (status ≡ 7)
  -- 4: a session is refused for its size only where it may be so, and always, unless the shelf fails or memory runs
  -- out.
  pub oversize_only : status ≡ 4 → NotFit asked a diag
  pub oversize_always : IsOversize asked a → (status ≡ 4) ⊎ (status ≡ 5) ⊎ (status ≡ 7)
  -- 5: only, and always, where the shelf has failed, and never where it is whole and tells every file of the command.
  pub unread_only : status ≡ 5 → FileUnread asked a diag
  pub unread_always : a.shelf.faults < a.shelf_after.faults → status ≡ 5
  pub unread_never : IsAllTold asked a → status ≡ 5 → ⊥
  -- 6: only, and always, where out has failed, and what it took is a first part of the text.
  pub output_only : status ≡ 6 → Cut asked a diag
  pub output_always : a.out.faults < a.out_after.faults → status ≡ 6
  -- 7: memory ran out.
  pub memory_line : status ≡ 7 → IsPut diag (codes "mbx: no memory\n")
  -- Nothing goes to out, but at the end of a run or where out fails.
  pub silent : (status ≡ 0 → ⊥) → (status ≡ 1 → ⊥) → (status ≡ 6 → ⊥) → a.out_after ≡ a.out
  -- Nothing is counted there, and never for a command without guests.
  pub unrun : (status ≡ 0 → ⊥) → (status ≡ 1 → ⊥) → (status ≡ 6 → ⊥) → a.native_after ≡ a.native
  pub unhosted : HostsNothing asked → a.native_after ≡ a.native
  -- What the shelf tells, and whether it is whole, are as before, and so is its count, but at status 5.
  pub same_told : a.shelf_after.told ≡ a.shelf.told
  pub same_whole : a.shelf_after.whole ≡ a.shelf.whole
  pub read_well : (status ≡ 5 → ⊥) → a.shelf_after ≡ a.shelf

-- ---- where nothing can fail

-- what an answer leads to over files and sinks that cannot fail
abbrev pub LeadsUnfailingTo : ℕ → Result Answer (Text × FileWhy) → Type 0
LeadsUnfailingTo status (Ok (shows shown)) = (status ≡ shown.status) ⊎ (status ≡ 7)
LeadsUnfailingTo status (Ok (oversizes need have)) = (status ≡ 4) ⊎ (status ≡ 7)
LeadsUnfailingTo status (Err (name, why)) = (status ≡ 3) ⊎ (status ≡ 7)

-- the words are refused, or the answer to them is given; either way memory may have run out
abbrev pub IsUnfailing : Option Asked → Told → ℕ → Type 0
IsUnfailing None told status = (status ≡ 2) ⊎ (status ≡ 7)
IsUnfailing (Some asked) told status = IfSome (end_of told (answer_to asked)) (LeadsUnfailingTo status)
