-- Where the statements of a text stand, and its symbols.
use Rattle.std.specs.Prelude.{ℕ, ℤ, pos, List, [], ◌∷◌, length, take, position, Option, Some, None, option_map}
use Rattle.std.specs.Prelude.{option_and_then, Result, Ok, Err}
use Rattle.std.specs.Option.{unwrap_or}
use Rattle.mb_asm_text.specs.Kinds.{is_blank}
use Rattle.mb_lines.specs.Lines.{Line}
use Rattle.mb_syntax.specs.declared.word.Name.{Name}
use Rattle.mb_syntax.specs.Statements.{Operation, Statement}
use Rattle.mb_syntax.specs.Spans.{bytes_at}
use Rattle.mb_syntax.specs.Lines.{statement_in}
use Rattle.mb_asm.specs.declared.fault.AsmKind.{AsmKind}
use Rattle.mb_asm.specs.declared.directive.Directive.{Directive}
use Rattle.mb_asm.specs.declared.directive.Directive.TheVariants as directive
use Rattle.mb_asm.specs.Symbols.{Symbol, with_symbol}
use Rattle.mb_asm.specs.Values.{Scope}
use Rattle.mb_asm.specs.Extents.{address_behind, directive_in, equ_value}

-- The address that is reached, if it is known, and the symbols so far.
pub record Layout : Type 0 where
  pub at : Option ℕ
  pub symbols : List Symbol

-- The address is 0 at first.
abbrev pub beginning : Layout
beginning = record { at = Some 0; symbols = [] }

-- what a statement reads of the symbols of earlier lines
abbrev pub earlier : Layout → List ℕ → Scope
earlier layout line = record { symbols = layout.symbols; line = line; at = layout.at }

-- what is faulty is not known
abbrev pub if_known : {A : Type 0} → Result (Option A) AsmKind → Option A
if_known (Ok x) = x
if_known (Err _) = None

-- A label is the address, before an ORG, DS or EVEN moves it; the label of an EQU is its value.
abbrev pub operation_value : Layout → List ℕ → Operation → Option Directive → Option ℤ
operation_value layout line operation (Some directive.Equ) = if_known (equ_value (earlier layout line) operation)
operation_value layout line operation _ = option_map pos layout.at

abbrev pub label_value : Layout → List ℕ → Option Operation → Option ℤ
label_value layout line None = option_map pos layout.at
label_value layout line (Some operation) = operation_value layout line operation (directive_in line operation)

abbrev pub with_label : List Symbol → List ℕ → Option Name → Option ℤ → List Symbol
with_label symbols line None value = symbols
with_label symbols line (Some name) value = with_symbol symbols (record { name = bytes_at line name; value = value })

-- An address behind a line of which no extent is known is not known.
abbrev pub next_at : Layout → List ℕ → Option Operation → Option ℕ
next_at layout line None = layout.at
next_at layout line (Some operation) = if_known (address_behind (earlier layout line) operation)

-- what stands before the first blank of a line
abbrev pub front_of : List ℕ → List ℕ
front_of line = take (unwrap_or (position is_blank line) (length line)) line

-- the label that can be read in a line whose statement is wrong: what stands before its first blank is one
abbrev pub label_in : List ℕ → Option Name
label_in line = option_and_then (λ (statement : Statement). statement.label) (statement_in (front_of line))

abbrev pub after_statement : Layout → List ℕ → Option Statement → Layout
after_statement layout line None = record {
  at = None;
  symbols = with_label layout.symbols line (label_in line) None;
}
after_statement layout line (Some statement) = record {
  at = next_at layout line statement.operation;
  symbols = with_label layout.symbols line statement.label (label_value layout line statement.operation);
}

abbrev pub after_line : Layout → Line → Layout
after_line layout line = after_statement layout line.characters (statement_in line.characters)

abbrev pub after_lines : Layout → List Line → Layout
after_lines layout [] = layout
after_lines layout (line ∷ lines) = after_lines (after_line layout line) lines
