-- What a reading comes to where some of its files are not told.
use Rattle.std.specs.Prelude.{◌≡◌, ◌⊎◌, IfSome, Result, Ok, Err}
use Rattle.mb_words.specs.Words.{Text}
use Rattle.mb_files.specs.Reading.{Told, Reading, gives, refuses, reads}
use Rattle.mb_files.specs.declared.fault.FileWhy.{FileWhy}

-- A file may have these bytes: where it is told, they are its own.
abbrev pub MayHave : Told → (file bytes : Text) → Type 0
MayHave told file bytes = IfSome (told file) (λ content. bytes ≡ content)

-- By bytes that its files may have, it comes to this end.
abbrev pub Comes : {A : Type 0} → Told → Reading A → Result A (Text × FileWhy) → Type 0
Comes told (gives x) end = end ≡ Ok x
Comes told (refuses name why) end = end ≡ Err (name, why)
Comes told (reads name next) end = (bytes : Text) × MayHave told name bytes × Comes told (next bytes) end

-- By bytes that its files may have, it reads the file of this name.
abbrev pub Names : {A : Type 0} → Told → Reading A → Text → Type 0
Names told (gives x) name = ⊥
Names told (refuses refused why) name = ⊥
Names told (reads file next) name = (name ≡ file)
    ⊎ ((bytes : Text) × MayHave told file bytes × Names told (next bytes) name)
