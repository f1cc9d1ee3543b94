-- What holds of faults, and of what is not known.
use Rattle.std.specs.Prelude.{◌≡◌, ℕ, ℤ, Bool, true, is_err, List, ◌∷◌, ◌++◌, All, Option, Some, None, Ok, Err}
use Rattle.std.specs.Option.{is_some}
use Rattle.mb_lines.specs.Lines.{Line, numbered}
use Rattle.mb_syntax.specs.Lines.{statement_in}
use Rattle.mb_syntax.specs.Statements.{Statement}
use Rattle.mb_asm.specs.Symbols.{Symbol, value_in}
use Rattle.mb_asm.specs.Layouts.{Layout, after_lines, beginning}
use Rattle.mb_asm.specs.Judged.{judged_line}
use Rattle.mb_asm.specs.Texts.{Chunks, Fault, assembled, chunks_from, symbols_of}

-- With the same symbols, the first faulty line of lines is told whatever stands behind them.
abbrev pub FirstFaultStays : Type 0
FirstFaultStays = (symbols : List Symbol) (layout : Layout) (chunks : Chunks) (lines behind : List Line) (fault : Fault)
    → chunks_from symbols layout chunks lines ≡ Err fault
    → chunks_from symbols layout chunks (lines ++ behind) ≡ Err fault

-- what is known stays, and what is not may become known
abbrev pub Stays : {A : Type 0} → Option A → Option A → Type 0
Stays None after = Unit {0}
Stays (Some x) after = after ≡ Some x

-- the same of what is found by a name
abbrev pub FoundStays : Option (Option ℤ) → Option (Option ℤ) → Type 0
FoundStays None after = after ≡ None
FoundStays (Some None) after = is_some after ≡ true
FoundStays (Some (Some value)) after = after ≡ Some (Some value)

-- The same names are symbols, and a value that is known stays.
abbrev pub SymbolsStay : List Symbol → List Symbol → Type 0
SymbolsStay before after = (name : List ℕ) → FoundStays (value_in before name) (value_in after name)

-- and so does an address
pub record LayoutStays (before after : Layout) : Type 0 where
  pub at : Stays before.at after.at
  pub symbols : SymbolsStay before.symbols after.symbols

-- A line that is faulty while symbols or its address are not known is faulty when they are known.
abbrev pub FaultyStaysFaulty : Type 0
FaultyStaysFaulty = (symbols more : List Symbol) (before after : Layout) (line : List ℕ) (statement : Option Statement)
    → SymbolsStay symbols more → LayoutStays before after
    → is_err (judged_line symbols before line statement) ≡ true → is_err (judged_line more after line statement) ≡ true

-- whether a line is faulty that stands in a text behind the lines of its front
abbrev pub is_faulty_in : List Line → List Line → Line → Bool
is_faulty_in text front line =
    is_err (judged_line (symbols_of text) (after_lines beginning front) line.characters (statement_in line.characters))

-- Lines before a line, as a faulty one, have others in their place, which give the same symbols and leave no less
-- known: if the line was faulty, it is.
abbrev pub FaultyBehindMended : Type 0
FaultyBehindMended = (front mended between : List Line) (line : Line) (behind : List Line)
    → LayoutStays (after_lines beginning front) (after_lines beginning mended)
    → is_faulty_in ((front ++ between) ++ line ∷ behind) (front ++ between) line ≡ true
    → is_faulty_in ((mended ++ between) ++ line ∷ behind) (mended ++ between) line ≡ true

-- The same of lines behind it.
abbrev pub FaultyBeforeMended : Type 0
FaultyBeforeMended = (front : List Line) (line : Line) (faulty mended behind : List Line)
    → LayoutStays (after_lines beginning (front ++ line ∷ faulty)) (after_lines beginning (front ++ line ∷ mended))
    → is_faulty_in ((front ++ line ∷ faulty) ++ behind) front line ≡ true
    → is_faulty_in ((front ++ line ∷ mended) ++ behind) front line ≡ true

-- the address that is reached is known, and the value of each symbol
pub record IsKnown (layout : Layout) : Type 0 where
  pub at : is_some layout.at ≡ true
  pub symbols : All (λ symbol. is_some symbol.value ≡ true) layout.symbols

-- Where a text has an image, nothing is unknown, neither behind all lines nor at any of them.
abbrev pub ImageLeavesNothingUnknown : Type 0
ImageLeavesNothingUnknown = (text : List ℕ) (image : List (ℕ × List ℕ)) (lines behind : List Line)
    → assembled text ≡ Ok image → numbered text ≡ lines ++ behind → IsKnown (after_lines beginning lines)
