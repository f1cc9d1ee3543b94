-- Files that are read, one after the other, up to what is made of them.
use Rattle.std.specs.Prelude.{ℕ, nat_lt, if◌then◌else◌, length, Option, Some, None, option_and_then, Result, Ok, Err}
use Rattle.std.specs.Result.{result_map_both}
use Rattle.mb_srec.specs.Records.{records_of}
use Rattle.mb_script.specs.Script.{Entries}
use Rattle.mb_script.specs.Scripts.{script_of}
use Rattle.mb_script.specs.Sessions.{session_of}
use Rattle.mb_script.specs.Plan.{Plan}
use Rattle.mb_words.specs.Words.{Text}
use Rattle.mb_walk.specs.Memory.{Contents}
use Rattle.mb_files.specs.Whys.{image_why, line_why}
use Rattle.mb_files.specs.declared.fault.FileWhy.{FileWhy}
use Rattle.mb_files.specs.declared.fault.FileWhy.TheVariants.{TooLong}
use Rattle.mb_files.specs.declared.files.TheConstants.{MOST_BYTES}

-- It gives something, or refuses the file of a name for a reason; or it reads a file, and goes on by its bytes.
pub data Reading (A : Type 0) : Type 0 where
  gives : A → Reading A
  refuses : (name : Text) → FileWhy → Reading A
  reads : (name : Text) → (Text → Reading A) → Reading A

-- a reading, and then another by what it gave
infixl 10 ◌>>=◌
abbrev pub ◌>>=◌ : {A B : Type 0} → Reading A → (A → Reading B) → Reading B
(gives x) >>= f = f x
(refuses name why) >>= f = refuses name why
(reads name next) >>= f = reads name (λ bytes. next bytes >>= f)

-- the bytes that a shelf tells of a name
abbrev pub Told : Type 0
Told = Text → Option Text

-- What it comes to where each file that it reads is told: what it gives, or the file that it refuses, and why.
abbrev pub end_of : {A : Type 0} → Told → Reading A → Option (Result A (Text × FileWhy))
end_of told (gives x) = Some (Ok x)
end_of told (refuses name why) = Some (Err (name, why))
end_of told (reads name next) = option_and_then (λ bytes. end_of told (next bytes)) (told name)

-- ---- files

-- what bytes hold by a grammar, or why they are refused, where they are not too many
abbrev pub at_most : {A : Type 0} → (most : ℕ) → (Text → Result A FileWhy) → Text → Result A FileWhy
at_most most grammar bytes = if nat_lt most (length bytes) then Err TooLong else grammar bytes

-- a file is refused for its reason, or gives what it holds
abbrev pub held : {A : Type 0} → Text → Result A FileWhy → Reading A
held name (Ok x) = gives x
held name (Err why) = refuses name why

-- The file of this name is read, as one of a kind.
abbrev pub file : {A : Type 0} → (kind : Text → Result A FileWhy) → Text → Reading A
file kind name = reads name (λ bytes. held name (kind bytes))

-- what is named is read; where nothing is, this stands in its place
abbrev pub if_named : {A B : Type 0} → (A → Reading B) → (otherwise : B) → Option A → Reading B
if_named read otherwise None = gives otherwise
if_named read otherwise (Some x) = read x

-- ---- kinds of files

-- an image for so many bytes of RAM or of a disk
abbrev pub images : (size : ℕ) → Text → Result Contents FileWhy
images size = at_most MOST_BYTES (λ bytes. result_map_both (λ x. x) image_why (records_of bytes size))

abbrev pub scripts : Text → Result Entries FileWhy
scripts = at_most MOST_BYTES (λ bytes. result_map_both (λ x. x) line_why (script_of bytes))

abbrev pub sessions : Text → Result Plan FileWhy
sessions = at_most MOST_BYTES (λ bytes. result_map_both (λ x. x) line_why (session_of bytes))
