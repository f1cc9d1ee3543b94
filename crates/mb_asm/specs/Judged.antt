-- What a statement writes, or the first fault that it has.
use Rattle.std.specs.Prelude.{ℕ, ◌+◌, ◌-◌, ◌%◌, ◌==◌, nat_lt, Bool, true, false, ◌&&◌, ◌||◌, if◌then◌else◌, List, []}
use Rattle.std.specs.Prelude.{length, Option, Some, None, Result, Ok, Err}
use Rattle.std.specs.Option.{is_some, unwrap_or}
use Rattle.mb_lines.specs.Results.{◌>>=◌}
use Rattle.mb_syntax.specs.declared.word.Name.{Name}
use Rattle.mb_syntax.specs.Statements.{Operation, Statement}
use Rattle.mb_syntax.specs.Spans.{bytes_at}
use Rattle.mb_asm.specs.declared.fault.AsmKind.{AsmKind}
use Rattle.mb_asm.specs.declared.fault.AsmKind.TheVariants as kind
use Rattle.mb_asm.specs.declared.value.Flaw.TheVariants as flaw
use Rattle.mb_asm.specs.declared.directive.Directive.{Directive}
use Rattle.mb_asm.specs.declared.directive.Directive.TheVariants as directive
use Rattle.mb_asm.specs.Results.{refuse}
use Rattle.mb_asm.specs.Symbols.{Symbol, value_in}
use Rattle.mb_asm.specs.Values.{Scope, have_flaw}
use Rattle.mb_asm.specs.Extents.{address_behind, directive_in, equ_value}
use Rattle.mb_asm.specs.Bytes.{operation_bytes}
use Rattle.mb_asm.specs.Layouts.{Layout, earlier}
use Rattle.mb_asm.specs.declared.addresses.TheConstants.{END}

-- What a statement writes, and the address behind it.
pub record Laid : Type 0 where
  pub bytes : List ℕ
  pub next : ℕ

-- ORG, EQU and DS read symbols of earlier lines only.
abbrev pub reads_earlier : Option Directive → Bool
reads_earlier (Some directive.Org) = true
reads_earlier (Some directive.Equ) = true
reads_earlier (Some directive.Ds) = true
reads_earlier _ = false

-- what an operation reads its symbols in
abbrev pub scope_of : List Symbol → Layout → List ℕ → Option Directive → Scope
scope_of symbols layout line found =
    if reads_earlier found then earlier layout line else record { symbols = symbols; line = line; at = layout.at }

-- no operation has the name
abbrev pub has_no_name : Result (Option ℕ) AsmKind → Bool
has_no_name (Err kind.Name) = true
has_no_name _ = false

-- Syntax: an EQU without a label.
abbrev pub wants_label : Option Name → Option Directive → Bool
wants_label None (Some directive.Equ) = true
wants_label _ _ = false

-- Twice: an earlier line has the label.
abbrev pub is_again : Layout → List ℕ → Option Name → Bool
is_again layout line (Some name) = is_some (value_in layout.symbols (bytes_at line name))
is_again layout line None = false

-- Place: a word or long at an odd address by an instruction, or an address past the last. An address that is not known
-- counts as 0, where all may stand.
abbrev pub address_or_zero : Option ℕ → ℕ
address_or_zero at = unwrap_or at 0

abbrev pub is_odd : ℕ → Option Directive → Bool
is_odd at None = at % 2 == 1
is_odd at (Some _) = false

-- the label of an EQU is no address
abbrev pub is_address : Option Name → Option Directive → Bool
is_address None _ = false
is_address (Some name) (Some directive.Equ) = false
is_address (Some name) _ = true

abbrev pub is_past : ℕ → Bool
is_past at = nat_lt (END - 1) at

-- 2 ^ 32 is the end of the last byte; ORG goes to a byte
abbrev pub ends_past : Option Directive → ℕ → Bool
ends_past (Some directive.Org) next = is_past next
ends_past _ next = nat_lt END next

-- a byte at an address past the last
abbrev pub reaches_past : ℕ → List ℕ → Bool
reaches_past at written = nat_lt END (at + length written)

abbrev pub is_misplaced : ℕ → Option Name → Option Directive → ℕ → Bool
is_misplaced at label found next = is_odd at found || (is_address label found && is_past at || ends_past found next)

-- an EQU has a value
abbrev pub equ_checked : Scope → Operation → Option Directive → Result (Unit {0}) AsmKind
equ_checked scope operation (Some directive.Equ) = equ_value scope operation >>= λ value. Ok tt
equ_checked scope operation _ = Ok tt

-- An operation that is a directive or none, by what it reads its symbols in and the address behind it. In this order
-- the kinds of faults are looked for; what has no such operands comes before what is out of its range.
abbrev pub judged_by : Layout → List ℕ → Option Name → Operation → Option Directive → Scope
    → Result (Option ℕ) AsmKind → Result Laid AsmKind
judged_by layout line label operation found scope next = do
  labelled ← refuse (wants_label label found) kind.Syntax
  named ← refuse (has_no_name next || have_flaw flaw.Nameless scope operation.operands) kind.Name
  first ← refuse (is_again layout line label) kind.Twice
  end ← next
  value ← equ_checked scope operation found
  written ← operation_bytes scope operation
  placed ← refuse (is_misplaced (address_or_zero scope.at) label found (address_or_zero end)
      || reaches_past (address_or_zero scope.at) written)
      kind.Place
  Ok (record { bytes = written; next = address_or_zero end })

-- an operation in the line, with the symbols of all lines
abbrev pub judged_operation : List Symbol → Layout → List ℕ → Option Name → Operation → Result Laid AsmKind
judged_operation symbols layout line label operation =
    let found = directive_in line operation in
    judged_by layout line label operation found (scope_of symbols layout line found)
    (address_behind (earlier layout line) operation)

-- a label alone
abbrev pub judged_label : Layout → List ℕ → Option Name → Result Laid AsmKind
judged_label layout line label = do
  first ← refuse (is_again layout line label) kind.Twice
  placed ← refuse (is_address label None && is_past (address_or_zero layout.at)) kind.Place
  Ok (record { bytes = []; next = address_or_zero layout.at })

abbrev pub judged_statement : List Symbol → Layout → List ℕ → Statement → Result Laid AsmKind
judged_statement symbols layout line statement = elim statement.operation [
  | Some operation ↦ judged_operation symbols layout line statement.label operation
  | None ↦ judged_label layout line statement.label
]

-- The statement of a line, which may be none.
abbrev pub judged_line : List Symbol → Layout → List ℕ → Option Statement → Result Laid AsmKind
judged_line symbols layout line (Some statement) = judged_statement symbols layout line statement
judged_line symbols layout line None = Err kind.Syntax
