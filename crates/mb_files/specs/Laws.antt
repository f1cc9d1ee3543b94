-- What holds of readings.
use Rattle.std.specs.Prelude.{◌≡◌, true, is_some, Some, Result, Ok, Err}
use Rattle.mb_words.specs.Words.{Text}
use Rattle.mb_files.specs.Reading.{Told, Reading, ◌>>=◌, end_of}
use Rattle.mb_files.specs.Comes.{Comes, Names}
use Rattle.mb_files.specs.declared.fault.FileWhy.{FileWhy}

-- What it comes to, by whatever bytes of files that are not told, is what is known, where that is known.
abbrev pub ComesAsTold : Type 0 → Type 0
ComesAsTold A = (told : Told) (reading : Reading A) (known end : Result A (Text × FileWhy))
    → end_of told reading ≡ Some known → Comes told reading end → end ≡ known

-- Where it is known, each of its files is told.
abbrev pub NamedAreTold : Type 0 → Type 0
NamedAreTold A = (told : Told) (reading : Reading A) (name : Text) → is_some (end_of told reading) ≡ true
    → Names told reading name → is_some (told name) ≡ true

-- By what it gives, another goes on;
abbrev pub ComesThen : Type 0 → Type 0 → Type 0
ComesThen A B = (told : Told) (reading : Reading A) (next : A → Reading B) (x : A) (end : Result B (Text × FileWhy))
    → Comes told reading (Ok x) → Comes told (next x) end → Comes told (reading >>= next) end

-- and a file that it refuses is refused whatever follows.
abbrev pub RefusedThen : Type 0 → Type 0 → Type 0
RefusedThen A B = (told : Told) (reading : Reading A) (next : A → Reading B) (name : Text) (why : FileWhy)
    → Comes told reading (Err (name, why)) → Comes told (reading >>= next) (Err (name, why))
