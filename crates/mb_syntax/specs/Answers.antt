-- How an answer of the code stands to what a definition gives.
use Rattle.std.specs.Prelude.{◌≡◌, List, Option, Some, None, Result, Ok, Err, option_map}
use denote.Ref.{Bor}
use Rattle.mb_syntax.specs.declared.fault.SyntaxFault.{SyntaxFault}
use Rattle.mb_syntax.specs.declared.fault.SyntaxFault.TheVariants.{Memory, Syntax}
use Rattle.mb_syntax.specs.declared.word.Word.{Word}
use Rattle.mb_syntax.specs.declared.statement.Operation.{Operation}
use Rattle.mb_syntax.specs.declared.statement.Statement.{Statement}
use Rattle.mb_syntax.specs.Statements as statements

-- the fault says that nothing is given, unless memory ran out
abbrev pub Faults : {Y : Type 0} → SyntaxFault → Option Y → Type 0
Faults Memory given = Unit {0}
Faults Syntax given = given ≡ None

-- the answer, seen by view, is what is given, unless memory ran out
abbrev pub Gives : {X Y : Type 0} → (X → Y) → Result X SyntaxFault → Option Y → Type 0
Gives view (Ok x) given = given ≡ Some (view x)
Gives view (Err fault) given = Faults fault given

-- a part of a line with the words behind it
abbrev pub read_said : {A : Type 0} → A × Bor (List Word) → A × List Word
read_said (part, words) = (part, words.now)

abbrev pub operation_said : Operation → statements.Operation
operation_said operation = record { name = operation.name; size = operation.size; operands = operation.operands.items }

abbrev pub statement_said : Statement → statements.Statement
statement_said statement = record { label = statement.label; operation = option_map operation_said statement.operation }

abbrev pub words_said : Bor (List Word) → List Word
words_said words = words.now
