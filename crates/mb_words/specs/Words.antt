-- The words of the command line, and what they ask for.
use Rattle.std.specs.Prelude.{ℕ, true, false, if◌then◌else◌}
use Rattle.std.specs.Prelude.{List, [], ◌∷◌, codes, Option, Some, None, option_map, option_and_then}
use Rattle.std.specs.Str.{bytes_eq}
pub use Rattle.mb_forms.specs.Forms.{Text}
use Rattle.mb_forms.specs.Forms.{Form, Use, read}
use Rattle.mb_script.specs.Plan.{Disk}
use Rattle.mb_words.specs.Values.{file_said, said_by, said_if_given, name_of, ram_of, ranged, word_address_of}
use Rattle.mb_words.specs.Values.{blocks_of, guests_of, seed_of}
use Rattle.mb_words.specs.declared.asm.Asm.{Asm}
use Rattle.mb_words.specs.declared.bare.Bare.{Bare}
use Rattle.mb_words.specs.declared.bare.BareDisk.{BareDisk}
use Rattle.mb_words.specs.declared.debug_guest.DebugGuest.{DebugGuest}
use Rattle.mb_words.specs.declared.dis.Dis.{Dis}
use Rattle.mb_words.specs.declared.generate.Generate.{Generate}
use Rattle.mb_words.specs.declared.session.SessionFile.{SessionFile}
use Rattle.mb_words.specs.declared.snapshot.ResumeSnapshot.{ResumeSnapshot}
use Rattle.mb_words.specs.declared.snapshot.SaveSession.{SaveSession}
use Rattle.mb_words.specs.declared.command.Command.{Command}
use Rattle.mb_words.specs.declared.command.Command.TheVariants as command

-- a run of a machine: the name of its image's file, its RAM in KiB, its steps, the name of its script's file, where it
-- has one, and its disk, where it has one
pub record Run : Type 0 where
  pub image : Text
  pub ram : ℕ
  pub steps : ℕ
  pub script : Option Text
  pub disk : Option Disk

-- an excerpt of a machine's opening memory: the name of its image's file, its RAM in KiB, the address of the first
-- line, and how many lines
pub record Excerpt : Type 0 where
  pub image : Text
  pub ram : ℕ
  pub at : ℕ
  pub count : ℕ

-- a session that is made: its seed, and how many guests it has
pub record Workload : Type 0 where
  pub seed : ℕ
  pub guests : ℕ

-- a guest of a session under the debugger: the names of the session's file and of the commands' file, and the guest's
-- number
pub record Debugged : Type 0 where
  pub session : Text
  pub commands : Text
  pub guest : ℕ

-- a session that is saved: the name of its file, and how many steps each guest takes at most
pub record SavePoint : Type 0 where
  pub session : Text
  pub steps : ℕ

-- a snapshot that is resumed: the name of its file, and how many steps more each guest takes at most
pub record Resumption : Type 0 where
  pub snapshot : Text
  pub steps : ℕ

-- what words can ask for: a run, the assembly of a source, the listing of an excerpt, the runs of all guests of a
-- session, what their runs by both rules have in common, the runs of guests that are made, one guest of a session under
-- the debugger, the snapshot of a session, or the runs of a snapshot's guests; a source and a session by the name of
-- its file
pub data Asked : Type 0 where
  bare : Run → Asked
  assembly : Text → Asked
  disassembly : Excerpt → Asked
  hosting : Text → Asked
  comparison : Text → Asked
  generation : Workload → Asked
  debugging : Debugged → Asked
  saving : SavePoint → Asked
  resuming : Resumption → Asked

abbrev pub disk_said : BareDisk → Disk
disk_said d = record { blocks = d.blocks; contents = file_said d.contents }

abbrev pub run_said : Bare → Run
run_said b = record {
  image = b.image.now;
  ram = b.ram;
  steps = b.steps;
  script = file_said b.script;
  disk = option_map disk_said b.disk;
}

abbrev pub source_said : Asm → Text
source_said a = a.source.now

abbrev pub excerpt_said : Dis → Excerpt
excerpt_said d = record { image = d.image.now; ram = d.ram; at = d.at; count = d.count }

abbrev pub session_said : SessionFile → Text
session_said s = s.name.now

abbrev pub workload_said : Generate → Workload
workload_said g = record { seed = g.seed; guests = g.guests }

abbrev pub debugged_said : DebugGuest → Debugged
debugged_said d = record { session = d.session.now; commands = d.commands.now; guest = d.guest }

abbrev pub saving_said : SaveSession → SavePoint
saving_said s = record { session = s.session.now; steps = s.steps }

abbrev pub resumption_said : ResumeSnapshot → Resumption
resumption_said r = record { snapshot = r.snapshot.now; steps = r.steps }

abbrev pub command_said : Command → Asked
command_said (command.Bare b) = bare (run_said b)
command_said (command.Asm a) = assembly (source_said a)
command_said (command.Dis d) = disassembly (excerpt_said d)
command_said (command.Host s) = hosting (session_said s)
command_said (command.Compare s) = comparison (session_said s)
command_said (command.Gen g) = generation (workload_said g)
command_said (command.Debug d) = debugging (debugged_said d)
command_said (command.Save s) = saving (saving_said s)
command_said (command.Resume r) = resuming (resumption_said r)

-- steps, up to 2^32 - 1
abbrev pub steps_said : List Use → Option ℕ
steps_said uses = said_by (ranged 0 4294967295) (codes "steps") uses

-- `bare IMAGE --ram KIB --steps N [--script FILE] [--disk BLOCKS [--contents FILE]]`
abbrev pub bare_form : Form
bare_form = record {
  name = codes "bare";
  positionals = codes "IMAGE" ∷ [];
  options =
      record { name = codes "ram"; required = true }
      ∷ record { name = codes "steps"; required = true }
      ∷ record { name = codes "script"; required = false }
      ∷ record { name = codes "disk"; required = false }
      ∷ record { name = codes "contents"; required = false }
      ∷ [];
}

-- a disk, where its values say something: contents are those of a disk alone
abbrev pub disk_with : Option (Option ℕ) → Option (Option Text) → Option (Option Disk)
disk_with (Some (Some blocks)) (Some contents) = Some (Some (record { blocks = blocks; contents = contents }))
disk_with (Some None) (Some None) = Some None
disk_with _ _ = None

abbrev pub bare_disk : List Use → Option (Option Disk)
bare_disk uses = disk_with
    (said_if_given blocks_of (codes "disk") uses)
    (said_if_given name_of (codes "contents") uses)

-- a run, where each of its values says something
abbrev pub run_with : Option Text → Option ℕ → Option ℕ → Option (Option Text) → Option (Option Disk) → Option Run
run_with (Some image) (Some ram) (Some steps) (Some script) (Some disk) =
    Some (record { image = image; ram = ram; steps = steps; script = script; disk = disk })
run_with _ _ _ _ _ = None

-- the run that the values of `bare` ask for
abbrev pub bare_run : List Use → Option Run
bare_run uses = run_with
    (said_by name_of (codes "IMAGE") uses)
    (said_by ram_of (codes "ram") uses)
    (steps_said uses)
    (said_if_given name_of (codes "script") uses)
    (bare_disk uses)

-- `asm SOURCE`
abbrev pub asm_form : Form
asm_form = record { name = codes "asm"; positionals = codes "SOURCE" ∷ []; options = [] }

-- the source that the values of `asm` name
abbrev pub asm_source : List Use → Option Text
asm_source uses = said_by name_of (codes "SOURCE") uses

-- `dis IMAGE --ram KIB --at HEX --count N`
abbrev pub dis_form : Form
dis_form = record {
  name = codes "dis";
  positionals = codes "IMAGE" ∷ [];
  options =
      record { name = codes "ram"; required = true }
      ∷ record { name = codes "at"; required = true }
      ∷ record { name = codes "count"; required = true }
      ∷ [];
}

-- an excerpt, where each of its values says something
abbrev pub excerpt_with : Option Text → Option ℕ → Option ℕ → Option ℕ → Option Excerpt
excerpt_with (Some image) (Some ram) (Some at) (Some count) =
    Some (record { image = image; ram = ram; at = at; count = count })
excerpt_with _ _ _ _ = None

-- the excerpt that the values of `dis` ask for
abbrev pub dis_excerpt : List Use → Option Excerpt
dis_excerpt uses = excerpt_with
    (said_by name_of (codes "IMAGE") uses)
    (said_by ram_of (codes "ram") uses)
    (said_by word_address_of (codes "at") uses)
    (said_by (ranged 1 1000000) (codes "count") uses)

-- `host SESSION`
abbrev pub host_form : Form
host_form = record { name = codes "host"; positionals = codes "SESSION" ∷ []; options = [] }

-- `compare SESSION`
abbrev pub compare_form : Form
compare_form = record { name = codes "compare"; positionals = codes "SESSION" ∷ []; options = [] }

-- the session that the values of `host` or of `compare` name
abbrev pub session_named : List Use → Option Text
session_named uses = said_by name_of (codes "SESSION") uses

-- `gen --seed N --guests N`
abbrev pub gen_form : Form
gen_form = record {
  name = codes "gen";
  positionals = [];
  options =
      record { name = codes "seed"; required = true }
      ∷ record { name = codes "guests"; required = true }
      ∷ [];
}

-- a session that is made, where each of its values says something
abbrev pub workload_with : Option ℕ → Option ℕ → Option Workload
workload_with (Some seed) (Some guests) = Some (record { seed = seed; guests = guests })
workload_with _ _ = None

-- the session that the values of `gen` ask for
abbrev pub gen_workload : List Use → Option Workload
gen_workload uses = workload_with (said_by seed_of (codes "seed") uses) (said_by guests_of (codes "guests") uses)

-- `debug SESSION COMMANDS --guest I`
abbrev pub debug_form : Form
debug_form = record {
  name = codes "debug";
  positionals = codes "SESSION" ∷ codes "COMMANDS" ∷ [];
  options = record { name = codes "guest"; required = true } ∷ [];
}

-- a guest under the debugger, where each of its values says something
abbrev pub debugged_with : Option Text → Option Text → Option ℕ → Option Debugged
debugged_with (Some session) (Some commands) (Some guest) =
    Some (record { session = session; commands = commands; guest = guest })
debugged_with _ _ _ = None

-- the guest that the values of `debug` ask for
abbrev pub debugged_guest : List Use → Option Debugged
debugged_guest uses = debugged_with
    (said_by name_of (codes "SESSION") uses)
    (said_by name_of (codes "COMMANDS") uses)
    (said_by guests_of (codes "guest") uses)

-- `save SESSION --steps M`
abbrev pub save_form : Form
save_form = record {
  name = codes "save";
  positionals = codes "SESSION" ∷ [];
  options = record { name = codes "steps"; required = true } ∷ [];
}

-- a session that is saved, where its values say something
abbrev pub saved_with : Option Text → Option ℕ → Option SavePoint
saved_with (Some session) (Some steps) = Some (record { session = session; steps = steps })
saved_with _ _ = None

-- the session that the values of `save` ask for
abbrev pub saved_session : List Use → Option SavePoint
saved_session uses = saved_with (said_by name_of (codes "SESSION") uses) (steps_said uses)

-- `resume FILE --steps N`
abbrev pub resume_form : Form
resume_form = record {
  name = codes "resume";
  positionals = codes "FILE" ∷ [];
  options = record { name = codes "steps"; required = true } ∷ [];
}

-- a snapshot that is resumed, where its values say something
abbrev pub resumed_with : Option Text → Option ℕ → Option Resumption
resumed_with (Some snapshot) (Some steps) = Some (record { snapshot = snapshot; steps = steps })
resumed_with _ _ = None

-- the snapshot that the values of `resume` ask for
abbrev pub resumed_snapshot : List Use → Option Resumption
resumed_snapshot uses = resumed_with (said_by name_of (codes "FILE") uses) (steps_said uses)

-- what the words behind `bare` ask for
unfoldable pub bare_asked : List Text → Option Run
bare_asked words = option_and_then bare_run (read bare_form words)

-- what the words behind `asm` ask for
unfoldable pub asm_asked : List Text → Option Text
asm_asked words = option_and_then asm_source (read asm_form words)

-- what the words behind `dis` ask for
unfoldable pub dis_asked : List Text → Option Excerpt
dis_asked words = option_and_then dis_excerpt (read dis_form words)

-- what the words behind `host` ask for
unfoldable pub host_asked : List Text → Option Text
host_asked words = option_and_then session_named (read host_form words)

-- what the words behind `compare` ask for
unfoldable pub compare_asked : List Text → Option Text
compare_asked words = option_and_then session_named (read compare_form words)

-- what the words behind `gen` ask for
unfoldable pub gen_asked : List Text → Option Workload
gen_asked words = option_and_then gen_workload (read gen_form words)

-- what the words behind `debug` ask for
unfoldable pub debug_asked : List Text → Option Debugged
debug_asked words = option_and_then debugged_guest (read debug_form words)

-- what the words behind `save` ask for
unfoldable pub save_asked : List Text → Option SavePoint
save_asked words = option_and_then saved_session (read save_form words)

-- what the words behind `resume` ask for
unfoldable pub resume_asked : List Text → Option Resumption
resume_asked words = option_and_then resumed_snapshot (read resume_form words)

-- What the words ask for: `PROGRAM COMMAND`, and then the command's own words in its form. Other words ask
-- for nothing.
unfoldable pub asked_by : List Text → Option Asked
asked_by (program ∷ name ∷ words) =
    if bytes_eq name (codes "bare") then option_map bare (bare_asked words)
    else if bytes_eq name (codes "asm") then option_map assembly (asm_asked words)
    else if bytes_eq name (codes "dis") then option_map disassembly (dis_asked words)
    else if bytes_eq name (codes "host") then option_map hosting (host_asked words)
    else if bytes_eq name (codes "compare") then option_map comparison (compare_asked words)
    else if bytes_eq name (codes "gen") then option_map generation (gen_asked words)
    else if bytes_eq name (codes "debug") then option_map debugging (debug_asked words)
    else if bytes_eq name (codes "save") then option_map saving (save_asked words)
    else if bytes_eq name (codes "resume") then option_map resuming (resume_asked words)
    else None
asked_by _ = None
