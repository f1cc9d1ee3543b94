-- How the code's statements stand to those of the definitions.
use Rattle.std.specs.Prelude.{ℤ, List, []}
use Rattle.mb_syntax.specs.declared.operand.Operand.{Operand}
use Rattle.mb_statement.specs.declared.operands.Front.{Front}
use Rattle.mb_statement.specs.declared.statement.Operands.{Operands}
use Rattle.mb_statement.specs.declared.statement.Operands.TheVariants.{Nothing, One, Two, Three}
use Rattle.mb_statement.specs.declared.statement.Statement.{Statement}
use Rattle.mb_statement.specs.Statements as statements

abbrev pub operands_said : Operands → List (Operand ℤ)
operands_said Nothing = []
operands_said (One os) = os
operands_said (Two os) = os
operands_said (Three os) = os

abbrev pub statement_said : Statement → statements.Statement
statement_said s = record { name = s.name.items; size = s.size; operands = operands_said s.operands }

abbrev pub front_said : Front → statements.Front
front_said f = record { first = f.first; second = f.second; third = f.third }
