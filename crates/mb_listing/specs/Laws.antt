-- What the lines of a listing are.
use Rattle.std.specs.Prelude.{◌≡◌, ◌≤◌, ◌<◌, ◌^◌, ◌++◌, length, ℕ, List, [], ◌∷◌, All, Ok, codes}
use Rattle.mb_asm.specs.Texts.{assembled}
use Rattle.mb_statement.specs.Numbers.{number}
use Rattle.mb_listing.specs.Listing.{Line, bytes_of, lines_of}

-- the source of a text at an address: ` ORG ` and the address, and on the next line a blank and the text
abbrev pub source_at : ℕ → List ℕ → List ℕ
source_at at text = codes " ORG " ++ number at ++ 10 ∷ 32 ∷ text ++ 10 ∷ []

-- Assembled at its address, the text gives just the words.
abbrev pub GivesItsWords : Line → Type 0
GivesItsWords line = assembled (source_at line.at line.text) ≡ Ok ((line.at, bytes_of line.words) ∷ [])

-- So does each line of a memory of bytes.
abbrev pub EachLineGives : Type 0
EachLineGives = (ram : List ℕ) (at count : ℕ) → length ram ≤ 2 ^ 32 → All (λ byte. byte < 256) ram
    → All GivesItsWords (lines_of ram at count)
