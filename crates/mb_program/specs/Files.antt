-- The files of machines and of sessions, and what they hold.
use Rattle.std.specs.Prelude.{ℕ, ◌*◌, List, [], ◌∷◌, Option, Some, None}
use Rattle.mb_files.specs.Reading.{Reading, gives, ◌>>=◌, file, if_named, images, scripts, sessions}
use Rattle.mb_script.specs.Plan.{Disk, Guest, Plan}
use Rattle.mb_script.specs.declared.turn.Turn.{Turn}
use Rattle.vm_disk.specs.Disk.{DiskState, opened}
use Rattle.vm_disk.specs.declared.disk.TheConstants.{BLOCK_BYTES}
use Rattle.def_machine.specs.Machine.{Entries, Opening}
use Rattle.vm_guest.specs.Session.{GuestAtStart, SessionAtStart}
use Rattle.mb_words.specs.Words.{Text}

-- ---- a machine

-- a disk with its contents, as an image with addresses on the disk; all else is 0
abbrev pub disk_file : Disk → Reading (Option DiskState)
disk_file disk = do
  contents ← if_named (file (images (BLOCK_BYTES * disk.blocks))) [] disk.contents
  gives (Some (opened disk.blocks contents))

-- Its image, for its RAM in KiB, then its script, where one is named, and then its disk's contents: what it opens with,
-- and what is to arrive at its terminal.
abbrev pub machine_files : (image : Text) → (ram : ℕ) → (script : Option Text) → Option Disk
    → Reading (Opening × Entries)
machine_files image_name ram script_name named_disk = do
  image ← file (images (1024 * ram)) image_name
  script ← if_named (file scripts) [] script_name
  disk ← if_named disk_file None named_disk
  gives (record { image = image; disk = disk }, script)

-- ---- a session

-- A session, and the turns that come before its rounds.
pub record Ordered : Type 0 where
  pub session : SessionAtStart
  pub order : List Turn

abbrev pub guest_files : Guest → Reading GuestAtStart
guest_files guest = do
  (opening, script) ← machine_files guest.image guest.ram guest.script guest.disk
  gives (record { opening = opening; script = script; ram = 1024 * guest.ram; steps = guest.steps })

-- the files of each guest, guest by guest
abbrev pub guests_files : List Guest → Reading (List GuestAtStart)
guests_files [] = gives []
guests_files (guest ∷ guests) = do
  first ← guest_files guest
  others ← guests_files guests
  gives (first ∷ others)

-- the session of a plan, by the files of its guests
abbrev pub plan_files : Plan → Reading Ordered
plan_files plan = guests_files plan.guests >>= (λ guests. gives (record
    { session = record { board = 1024 * plan.board; slice = plan.slice; guests = guests }; order = plan.order }))

-- A session file, and then the files of its guests.
abbrev pub session_files : Text → Reading Ordered
session_files name = file sessions name >>= plan_files
