-- The grammar of session files: what a line says, and what a list of lines says.
use Rattle.std.specs.Prelude.{ℕ, zero, suc, ◌+◌, ◌-◌, ◌==◌, nat_le, not, Bool, false, ◌&&◌, ◌||◌, if◌then◌else◌, List, [], ◌∷◌, length, codes}
use Rattle.std.specs.Prelude.{Option, Some, None, is_some, option_and_then, Result, Ok, Err}
use Rattle.std.specs.List.{filter, list_all, slice_split}
use Rattle.std.specs.Str.{bytes_eq}
use Rattle.std.specs.Option.{ok_or}
use Rattle.mb_script.specs.declared.fault.LineWhy.{LineWhy}
use Rattle.mb_script.specs.declared.fault.LineWhy.TheVariants as why
use Rattle.mb_script.specs.declared.turn.Turn.{Turn}
use Rattle.mb_script.specs.Faults.{Fault}
use Rattle.mb_lines.specs.Lines.{lines_in, Line}
use Rattle.mb_lines.specs.Results.{◌>>=◌}
use Rattle.mb_script.specs.Lines.{read_by, statements_of}
use Rattle.mb_script.specs.Plan.{Disk, Guest, Plan, is_blocks, is_ram, is_board}
use Rattle.mb_script.specs.Words.{number_of, positive_of, tested}
use Rattle.mb_script.specs.declared.sizes.TheConstants.{MOST_GUESTS}

-- space or tab
abbrev pub is_blank : ℕ → Bool
is_blank character = (character == 32) || (character == 9)

abbrev pub is_some_word : List ℕ → Bool
is_some_word word = not (length word == 0)

-- words are parted by spaces and tabs, which may also stand at the ends
abbrev pub words_of : List ℕ → List (List ℕ)
words_of line = filter is_some_word (slice_split is_blank line)

-- $21 to $7E
abbrev pub is_graphic : ℕ → Bool
is_graphic character = nat_le 33 character && nat_le character 126

-- one character or more, and all of them graphic
abbrev pub is_name : List ℕ → Bool
is_name word = is_some_word word && list_all is_graphic word

-- session files are of version 1 or 2
abbrev pub version_of : List ℕ → Option ℕ
version_of word = option_and_then (tested (λ n. nat_le 1 n && nat_le n 2)) (number_of word)

abbrev pub board_of : List ℕ → Option ℕ
board_of word = option_and_then (tested is_board) (number_of word)

abbrev pub ram_of : List ℕ → Option ℕ
ram_of word = option_and_then (tested is_ram) (number_of word)

-- `-` stands for no script
abbrev pub script_named : List ℕ → Option (List ℕ)
script_named word = if bytes_eq word (codes "-") then None else Some word

-- the second of two words, of which the first is the keyword
abbrev pub argument_of : List ℕ → List (List ℕ) → Option (List ℕ)
argument_of keyword (first ∷ second ∷ []) = if bytes_eq first keyword then Some second else None
argument_of keyword _ = None

-- The words behind `guest`.
pub record Fields : Type 0 where
  pub ram : List ℕ
  pub steps : List ℕ
  pub image : List ℕ
  pub script : List ℕ

-- `guest RAM STEPS IMAGE SCRIPT`
abbrev pub fields_of : List (List ℕ) → Option Fields
fields_of (first ∷ ram ∷ steps ∷ image ∷ script ∷ []) =
    if bytes_eq first (codes "guest") && is_name image && is_name script
    then Some (record { ram = ram; steps = steps; image = image; script = script })
    else None
fields_of _ = None

-- the guest that a line's words name
abbrev pub guest_of : List (List ℕ) → Result Guest LineWhy
guest_of words = do
  fields ← ok_or (fields_of words) why.Word
  ram ← ok_or (ram_of fields.ram) why.Number
  steps ← ok_or (number_of fields.steps) why.Number
  Ok (record {
    ram = ram;
    steps = steps;
    image = fields.image;
    script = script_named fields.script;
    disk = None;
  })

-- the word behind the keyword of a line
abbrev pub argument_in : List ℕ → List ℕ → Result (List ℕ) LineWhy
argument_in keyword line = ok_or (argument_of keyword (words_of line)) why.Word

-- `session 1` or `session 2`
abbrev pub session_line : List ℕ → Result ℕ LineWhy
session_line line = argument_in (codes "session") line >>= λ word. ok_or (version_of word) why.Number

-- `board KIB`
abbrev pub board_line : List ℕ → Result ℕ LineWhy
board_line line = argument_in (codes "board") line >>= λ word. ok_or (board_of word) why.Number

-- `slice N`
abbrev pub slice_line : List ℕ → Result ℕ LineWhy
slice_line line = argument_in (codes "slice") line >>= λ word. ok_or (positive_of word) why.Number

-- there are at most sixteen guests
abbrev pub unless_sixteen : ℕ → Guest → Result Guest LineWhy
unless_sixteen count guest = if count == MOST_GUESTS then Err why.Many else Ok guest

-- a guest behind so many others
abbrev pub guest_line : ℕ → List ℕ → Result Guest LineWhy
guest_line count line = guest_of (words_of line) >>= unless_sixteen count

-- ---- disks

-- the first word is `disk`
abbrev pub begins_disk : List (List ℕ) → Bool
begins_disk [] = false
begins_disk (first ∷ words) = bytes_eq first (codes "disk")

-- `disk I BLOCKS NAME`
abbrev pub disk_words_of : List (List ℕ) → Option (List ℕ × List ℕ × List ℕ)
disk_words_of (first ∷ guest ∷ blocks ∷ name ∷ []) =
    if bytes_eq first (codes "disk") && is_name name then Some (guest, blocks, name) else None
disk_words_of _ = None

-- 1 to the number of guests
abbrev pub guest_number_of : (count : ℕ) → List ℕ → Option ℕ
guest_number_of count word = option_and_then (tested (λ n. nat_le 1 n && nat_le n count)) (number_of word)

abbrev pub blocks_of : List ℕ → Option ℕ
blocks_of word = option_and_then (tested is_blocks) (number_of word)

-- the disk that a line's words name, and the number of its guest, of so many
abbrev pub disk_of : (count : ℕ) → List (List ℕ) → Result (ℕ × Disk) LineWhy
disk_of count words = do
  (guest_word, blocks_word, name) ← ok_or (disk_words_of words) why.Word
  guest ← ok_or (guest_number_of count guest_word) why.Number
  blocks ← ok_or (blocks_of blocks_word) why.Number
  Ok (guest, record { blocks = blocks; contents = script_named name })

-- the guest at a place gets a disk; each has one at most
abbrev pub equipped : (place : ℕ) → Disk → List Guest → Result (List Guest) LineWhy
equipped place disk [] = Ok []
equipped zero disk (guest ∷ guests) =
    if is_some guest.disk then Err why.Many else Ok (record guest { disk = Some disk } ∷ guests)
equipped (suc place) disk (guest ∷ guests) = equipped place disk guests >>= λ others. Ok (guest ∷ others)

-- guests with the disk in a line
abbrev pub disk_line : List Guest → List ℕ → Result (List Guest) LineWhy
disk_line guests line = do
  (guest, disk) ← disk_of (length guests) (words_of line)
  equipped (guest - 1) disk guests

-- ---- turns

-- the first word is `turn`
abbrev pub begins_turn : List (List ℕ) → Bool
begins_turn [] = false
begins_turn (first ∷ words) = bytes_eq first (codes "turn")

-- in version 2 the guests end before a line of a disk or of a turn
abbrev pub ends_guests : (version : ℕ) → List ℕ → Bool
ends_guests version line = (version == 2) && (begins_disk (words_of line) || begins_turn (words_of line))

-- `turn I N`
abbrev pub turn_words_of : List (List ℕ) → Option (List ℕ × List ℕ)
turn_words_of (first ∷ guest ∷ steps ∷ []) = if bytes_eq first (codes "turn") then Some (guest, steps) else None
turn_words_of _ = None

-- the turn that a line's words name, of one of so many guests
abbrev pub turn_of : (count : ℕ) → List (List ℕ) → Result Turn LineWhy
turn_of count words = do
  (guest_word, steps_word) ← ok_or (turn_words_of words) why.Word
  guest ← ok_or (guest_number_of count guest_word) why.Number
  steps ← ok_or (number_of steps_word) why.Number
  Ok (record { guest = guest; steps = steps })

-- the turn in a line
abbrev pub turn_line : (count : ℕ) → List ℕ → Result Turn LineWhy
turn_line count line = turn_of count (words_of line)

-- ---- all lines

-- what the next line says, and the lines behind it; where there is none, a word is missing in the line after
-- the last
abbrev pub due : {A : Type 0} → ℕ → (List ℕ → Result A LineWhy) → List Line → Result (A × List Line) Fault
due past rule [] = Err (record { number = past; why = why.Word })
due past rule (line ∷ later) = read_by rule line >>= λ said. Ok (said, later)

-- a guest before others, behind which these lines stand
abbrev pub guest_before : Guest → List Guest × List Line → List Guest × List Line
guest_before guest (others, behind) = (guest ∷ others, behind)

-- the guests up to the first disk or turn, behind so many others, and the lines from that on
abbrev pub guests_after : (version count : ℕ) → List Line → Result (List Guest × List Line) Fault
guests_after version count [] = Ok ([], [])
guests_after version count (line ∷ lines) =
    if ends_guests version line.characters then Ok ([], line ∷ lines)
    else (read_by (guest_line count) line >>= λ guest.
    guests_after version (count + 1) lines >>= λ others. Ok (guest_before guest others))

-- one guest or more
abbrev pub guests_of : (version past : ℕ) → List Line → Result (List Guest × List Line) Fault
guests_of version past lines = do
  (guest, behind) ← due past (guest_line 0) lines
  others ← guests_after version 1 behind
  Ok (guest_before guest others)

-- guests with the disks up to the first other line, and the lines from that on
abbrev pub disks_of : List Guest → List Line → Result (List Guest × List Line) Fault
disks_of guests [] = Ok (guests, [])
disks_of guests (line ∷ lines) =
    if begins_disk (words_of line.characters)
    then (read_by (disk_line guests) line >>= λ more. disks_of more lines)
    else Ok (guests, line ∷ lines)

-- the turns of all lines, each of one of so many guests
abbrev pub turns_of : (count : ℕ) → List Line → Result (List Turn) Fault
turns_of count [] = Ok []
turns_of count (line ∷ lines) = do
  turn ← read_by (turn_line count) line
  later ← turns_of count lines
  Ok (turn ∷ later)

-- a session, its board, its slice, its guests, their disks, and its turns; past is the number of the line after the
-- last
abbrev pub plan_of : ℕ → List Line → Result Plan Fault
plan_of past lines = do
  (version, behind_session) ← due past session_line lines
  (board, behind_board) ← due past board_line behind_session
  (slice, behind_slice) ← due past slice_line behind_board
  (alone, behind_guests) ← guests_of version past behind_slice
  (guests, behind_disks) ← disks_of alone behind_guests
  order ← turns_of (length guests) behind_disks
  Ok (record { board = board; slice = slice; guests = guests; order = order })

-- The plan of a session file, or the first fault in order of lines.
abbrev pub session_of : List ℕ → Result Plan Fault
session_of text = plan_of (length (lines_in text) + 1) (statements_of text)
