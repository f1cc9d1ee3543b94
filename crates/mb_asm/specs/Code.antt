-- What parts of the code give. No definition that a promise speaks of stands on these.
use Rattle.std.specs.Prelude.{ℕ, ◌||◌, Bool, List, ◌++◌, Option, Result, Ok}
use Rattle.mb_lines.specs.Results.{◌>>=◌}
use Rattle.mb_syntax.specs.declared.word.Name.{Name}
use Rattle.mb_syntax.specs.Statements.{Operation}
use Rattle.mb_asm.specs.declared.fault.AsmKind.{AsmKind}
use Rattle.mb_asm.specs.declared.fault.AsmKind.TheVariants as kind
use Rattle.mb_asm.specs.declared.directive.Directive.{Directive}
use Rattle.mb_asm.specs.Results.{refuse}
use Rattle.mb_asm.specs.Values.{Scope}
use Rattle.mb_asm.specs.Bytes.{operation_bytes}
use Rattle.mb_asm.specs.Layouts.{Layout}
use Rattle.mb_asm.specs.Judged.{Laid, equ_checked, is_again, is_misplaced, address_or_zero, reaches_past, wants_label}

-- bytes before others
abbrev pub with_front : List ℕ → Result (List ℕ) AsmKind → Result (List ℕ) AsmKind
with_front front later = later >>= λ more. Ok (front ++ more)

-- what is looked for before the operands
abbrev pub admitted : Layout → List ℕ → Option Name → Option Directive → Bool → Result (Unit {0}) AsmKind
admitted layout line label found unknown = do
  labelled ← refuse (wants_label label found) kind.Syntax
  named ← refuse unknown kind.Name
  refuse (is_again layout line label) kind.Twice

-- what is written by an operation that ends at the address
abbrev pub laid_to : Option ℕ → Scope → Option Name → Option Directive → Operation → Result Laid AsmKind
laid_to end scope label found operation = do
  value ← equ_checked scope operation found
  written ← operation_bytes scope operation
  placed ← refuse (is_misplaced (address_or_zero scope.at) label found (address_or_zero end)
      || reaches_past (address_or_zero scope.at) written)
      kind.Place
  Ok (record { bytes = written; next = address_or_zero end })
