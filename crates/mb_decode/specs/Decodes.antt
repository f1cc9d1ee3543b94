-- What some words begin with: by reading them, and by the table.
use Rattle.std.specs.Prelude.{◌≡◌, ◌≢◌, ℕ, ◌+◌, ◌-◌, ◌/◌, ◌^◌, ◌==◌, List, [], ◌∷◌, ◌++◌, length}
use Rattle.std.specs.Prelude.{Ok, Err, if◌then◌else◌, ⊤}
use Rattle.mb_instr.specs.declared.instruction.Instr.{Instr}
use Rattle.mb_instr.specs.Opcodes.{opcode_of}
use Rattle.mb_instr.specs.Codes.{Codes, AreWords}
use Rattle.mb_decode.specs.declared.reading.Stop.{Stop}
use Rattle.mb_decode.specs.declared.reading.Stop.TheVariants as stop
use Rattle.mb_decode.specs.declared.front.Decoded.{Decoded}
use Rattle.mb_decode.specs.declared.front.Decoded.TheVariants.{Whole, More, Illegal, LineA, LineF}
use Rattle.mb_decode.specs.declared.front.Decoding.{Decoding}
use Rattle.mb_decode.specs.declared.front.Decoding.TheVariants as decoding
use Rattle.mb_decode.specs.RowReading.{row_at}

-- ---- by reading

-- what no row has, by the first word's top digit
abbrev pub no_row : ℕ → Decoded
no_row first = if first / 2 ^ 12 == 10 then LineA else if first / 2 ^ 12 == 15 then LineF else Illegal

-- the answer where no instruction was read
abbrev pub at_stop : ℕ → Stop → Decoded
at_stop first stop.More = More
at_stop first stop.Illegal = no_row first

-- a first word, and the words behind it
abbrev pub decode_from : ℕ → List ℕ → Decoded
decode_from first rest = elim (row_at (opcode_of first) rest) [
  | Ok (i, behind) ↦ Whole i (1 + (length rest - length behind))
  | Err e ↦ at_stop first e
]

-- what words begin with; the empty list is less than any instruction
unfoldable pub decode_of : List ℕ → Decoded
decode_of [] = More
decode_of (first ∷ rest) = decode_from first rest

-- P of the instruction and its number of words, if there is a whole one
abbrev pub IfWhole : Decoded → (Instr → ℕ → Type 0) → Type 0
IfWhole (Whole i n) P = P i n
IfWhole More P = ⊤
IfWhole Illegal P = ⊤
IfWhole LineA P = ⊤
IfWhole LineF P = ⊤

-- P where the words want more
abbrev pub OnMore : Decoded → Type 0 → Type 0
OnMore (Whole i n) P = ⊤
OnMore More P = P
OnMore Illegal P = ⊤
OnMore LineA P = ⊤
OnMore LineF P = ⊤

-- what was found, with the instruction in its place
abbrev pub told : Decoding → Instr → Decoded
told (decoding.Whole n) i = Whole i n
told decoding.More i = More
told decoding.Illegal i = Illegal
told decoding.LineA i = LineA
told decoding.LineF i = LineF

-- ---- by the table

-- the words begin with a spelling of the instruction, of so many words
abbrev pub BeginsWith : List ℕ → Instr → ℕ → Type 0
BeginsWith words i n = (w : List ℕ) × (rest : List ℕ) × Codes i w × (words ≡ w ++ rest) × (n ≡ length w)

-- the words are less than a whole spelling
abbrev pub IsUnfinished : List ℕ → Type 0
IsUnfinished words = (i : Instr) × (next : ℕ) × (others : List ℕ) × Codes i (words ++ next ∷ others)

-- the words neither begin with a spelling nor are the beginning of one
abbrev pub IsOther : List ℕ → Type 0
IsOther words = ((i : Instr) (n : ℕ) → BeginsWith words i n → ⊥) × (IsUnfinished words → ⊥)

-- P of the first word's top digit
abbrev pub HasLine : List ℕ → (ℕ → Type 0) → Type 0
HasLine [] P = ⊥
HasLine (w ∷ ws) P = P (w / 2 ^ 12)

-- the answer is right
abbrev pub Decodes : List ℕ → Decoded → Type 0
Decodes words (Whole i n) = BeginsWith words i n
Decodes words More = IsUnfinished words
Decodes words Illegal = IsOther words × HasLine words (λ line. (line ≢ 10) × (line ≢ 15))
Decodes words LineA = IsOther words × HasLine words (λ line. line ≡ 10)
Decodes words LineF = IsOther words × HasLine words (λ line. line ≡ 15)

-- ---- laws of the table

-- no words have two answers
abbrev pub OneAnswer : Type 0
OneAnswer = (words : List ℕ) (a b : Decoded) → Decodes words a → Decodes words b → a ≡ b

-- a spelling is read as its instruction, whatever follows
abbrev pub ReadAgain : Type 0
ReadAgain = (i : Instr) (w rest : List ℕ) → Codes i w → decode_of (w ++ rest) ≡ Whole i (length w)

-- an instruction has at most one spelling
abbrev pub OneSpelling : Type 0
OneSpelling = (i : Instr) (w v : List ℕ) → Codes i w → Codes i v → w ≡ v

-- words that begin with two spellings begin with one
abbrev pub NoneBegins : Type 0
NoneBegins = (i j : Instr) (w v a b : List ℕ) → Codes i w → Codes j v → w ++ a ≡ v ++ b → (i ≡ j) × (w ≡ v)

-- reading words answers what the table says of them
abbrev pub AllDecoded : Type 0
AllDecoded = (words : List ℕ) → AreWords words → Decodes words (decode_of words)
