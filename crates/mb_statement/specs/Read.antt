-- What the text of a statement is read as.
use Rattle.std.specs.Prelude.{suc, ◌+◌, ℤ, pos, negsuc, true, false, [], ◌∷◌, Some, None, length, map}
use Rattle.mb_syntax.specs.declared.expression.Term.TheVariants as term
use Rattle.mb_syntax.specs.Modes.{Sum}
use Rattle.mb_syntax.specs.Sums.{signed}
use Rattle.mb_syntax.specs.Statements as syntax
use Rattle.mb_mnemonics.specs.Values.{valued}
use Rattle.mb_statement.specs.Statements.{Statement}

-- the expression that a number is; negsuc n is -(n + 1)
abbrev pub sum_of : ℤ → Sum
sum_of (pos n) = signed false (term.Number n) ∷ []
sum_of (negsuc n) = signed true (term.Number (suc n)) ∷ []

-- The statement of a line that is a blank and the text: the name stands behind the blank.
abbrev pub read_of : Statement → syntax.Statement
read_of s = record {
  label = None;
  operation = Some (record {
    name = record { start = 1; end = 1 + length s.name };
    size = s.size;
    operands = map (valued sum_of) s.operands;
  });
}
