-- The statement of a line.
use Rattle.std.specs.Prelude.{ℕ, List, Option}
use Rattle.mb_asm_text.specs.Cutting.{cut_of}
use Rattle.mb_syntax.specs.Statements.{Statement, statement_cut}

-- the statement of a line, and none where it is not in the grammar
abbrev pub statement_in : List ℕ → Option Statement
statement_in line = statement_cut line (cut_of line)
