-- Lines of the table, and the names that they have.
use Rattle.std.specs.Prelude.{ℕ, Bool, ◌==◌, nat_lt, List, [], ◌∷◌, Option, Some, None, if◌then◌else◌}
use Rattle.std.specs.Prelude.{take, drop, length}
use Rattle.std.specs.Str.{str_eq_ignore_ascii_case}
use Rattle.mb_instr.specs.declared.kinds.Condition.{Condition}
use Rattle.mb_instr.specs.Kinds.{condition_bits}
use Rattle.mb_mnemonics.specs.declared.endings.NameOf.{NameOf}
use Rattle.mb_mnemonics.specs.declared.endings.TheConstants.{PLAIN, CONDITIONS, BRANCHES}
use Rattle.mb_mnemonics.specs.declared.line.Ending.{Ending}
use Rattle.mb_mnemonics.specs.declared.line.Ending.TheVariants as ending
use Rattle.mb_mnemonics.specs.declared.line.Line.{Line}
use Rattle.mb_mnemonics.specs.declared.line.Patterns.{Patterns}
use Rattle.mb_mnemonics.specs.declared.line.Patterns.TheVariants.{Nothing, One, Two, Three}
use Rattle.mb_mnemonics.specs.declared.line.Stem.{Stem}
use Rattle.mb_mnemonics.specs.declared.pattern.Pattern.{Pattern}
use Rattle.mb_mnemonics.specs.declared.table.TheConstants.{LINES}

-- ---- lines

-- the name without its ending
abbrev pub stem_of : Stem → List ℕ
stem_of s = take s.length s.letters

abbrev pub patterns_of : Patterns → List Pattern
patterns_of Nothing = []
patterns_of (One p) = p ∷ []
patterns_of (Two p q) = p ∷ q ∷ []
patterns_of (Three p q r) = p ∷ q ∷ r ∷ []

-- the table: a line for each name and form
unfoldable pub lines : List Line
lines = LINES

-- ---- conditions

-- the same text but for the case of its letters
abbrev pub same_letters : List ℕ → List ℕ → Bool
same_letters a b = str_eq_ignore_ascii_case a b

-- the endings of a line's name, in capital letters, each with the condition that it says
abbrev pub endings : Ending → List NameOf
endings ending.Plain = PLAIN
endings ending.Condition = CONDITIONS
endings ending.Branch = BRANCHES

-- the ending with the condition of a number; a name without a condition has none
abbrev pub ending_name : List NameOf → ℕ → List ℕ
ending_name [] number = []
ending_name (n ∷ ns) number = if condition_bits n.condition == number then stem_of n.name else ending_name ns number

-- the condition that a name's end says, in either case
abbrev pub condition_in : List NameOf → List ℕ → Option Condition
condition_in [] text = None
condition_in (n ∷ ns) text = if same_letters (stem_of n.name) text then Some n.condition else condition_in ns text

-- The condition that a name says by a line, where it is the line's: its stem and one of its endings, in either case.
abbrev pub condition_by : Line → List ℕ → Option Condition
condition_by l name = let stem = stem_of l.stem in
    if nat_lt (length name) (length stem) then None
    else (if same_letters stem (take (length stem) name)
    then condition_in (endings l.ending) (drop (length stem) name) else None)
