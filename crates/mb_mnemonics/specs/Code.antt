-- What parts of the code give, and what they go by. No definition of what a statement means stands on these.
use Rattle.std.specs.Prelude.{ℕ, ◌+◌, Bool, ◌&&◌, nat_le, length}
use Rattle.mb_mnemonics.specs.declared.line.Ending.{Ending}
use Rattle.mb_mnemonics.specs.declared.line.Ending.TheVariants as ending
use Rattle.mb_mnemonics.specs.declared.line.Line.{Line}
use Rattle.mb_mnemonics.specs.declared.reading.Part.{Part}
use Rattle.mb_mnemonics.specs.declared.reading.Said.{Said as CodeSaid}
use Rattle.mb_mnemonics.specs.Lines.{patterns_of, stem_of}
use Rattle.mb_mnemonics.specs.Operands.{Said}

-- how long the ending of a name is at most
abbrev pub most_ending : Ending → ℕ
most_ending ending.Plain = 0
most_ending _ = 2

-- no line has more than three operands, more than two words before theirs, or a name of more than eight characters
abbrev pub is_short : Line → Bool
is_short l =
    nat_le (length (patterns_of l.operands)) 3 && nat_le l.words 2
    && nat_le (length (stem_of l.stem) + most_ending l.ending) 8

abbrev pub part_said : Part → Said
part_said p = record { first = p.first; second = p.second; third = p.third; own = p.own.items }

abbrev pub said_of : CodeSaid → Said
said_of s = record { first = s.first; second = s.second; third = s.third; own = s.own.items }
