-- What is judged of an operation, by the parts of the code.
use Rattle.std.proofs.Common.{◌≡◌, ℕ, Bool, true, false, List, Option, refl}
use Rattle.std.specs.Prelude.{◌||◌, Result}
use Rattle.mb_lines.specs.Results.{◌>>=◌}
use Rattle.mb_syntax.specs.declared.word.Name.{Name}
use Rattle.mb_syntax.specs.Statements.{Operation}
use Rattle.mb_asm.specs.declared.directive.Directive.{Directive}
use Rattle.mb_asm.specs.declared.fault.AsmKind.{AsmKind}
use Rattle.mb_asm.specs.declared.fault.AsmKind.TheVariants as kind
use Rattle.mb_asm.specs.declared.value.Flaw.TheVariants as flaw
use Rattle.mb_asm.specs.Code.{admitted, laid_to}
use Rattle.mb_asm.specs.Judged.{has_no_name, is_again, judged_by, wants_label}
use Rattle.mb_asm.specs.Layouts.{Layout}
use Rattle.mb_asm.specs.Results.{refuse}
use Rattle.mb_asm.specs.Values.{Scope, have_flaw}

three : {B : Type 0} (a b c : Bool) (k l m : AsmKind) (f : Unit {0} → Result B AsmKind)
    → (refuse a k >>= λ x. refuse b l >>= λ y. refuse c m >>= f) ≡ ((refuse a k >>= λ x. refuse b l >>= λ y. refuse c m) >>= f)
three true b c k l m f = refl
three false true c k l m f = refl
three false false true k l m f = refl
three false false false k l m f = refl

pub judged_parts : (layout : Layout) (line : List ℕ) (label : Option Name) (operation : Operation) (found : Option Directive) (scope : Scope)
    (next : Result (Option ℕ) AsmKind) → judged_by layout line label operation found scope next
    ≡ (admitted layout line label found (has_no_name next || have_flaw flaw.Nameless scope operation.operands)
    >>= λ first. next >>= λ end. laid_to end scope label found operation)
judged_parts layout line label operation found scope next =
    three (wants_label label found) (has_no_name next || have_flaw flaw.Nameless scope operation.operands) (is_again layout line label) kind.Syntax kind.Name
    kind.Twice (λ first. next >>= λ end. laid_to end scope label found operation)
