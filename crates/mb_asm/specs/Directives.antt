-- Directives.
use Rattle.std.specs.Prelude.{ℕ, List, [], ◌∷◌, Option, Some, None, codes}
use Rattle.mb_syntax.specs.declared.statement.SizeLetter.{SizeLetter}
use Rattle.mb_syntax.specs.declared.statement.SizeLetter.TheVariants as letter
use Rattle.mb_syntax.specs.declared.mode.Mode.TheVariants as mode
use Rattle.mb_syntax.specs.declared.operand.Operand.{Operand}
use Rattle.mb_syntax.specs.declared.operand.Operand.TheVariants as operand
use Rattle.mb_syntax.specs.Modes.{Sum}
use Rattle.mb_asm.specs.declared.directive.Directive.{Directive}
use Rattle.mb_asm.specs.declared.directive.Directive.TheVariants as directive

abbrev pub directives : List (List ℕ × Directive)
directives =
    (codes "ORG", directive.Org)
    ∷ (codes "EQU", directive.Equ)
    ∷ (codes "DC", directive.Dc)
    ∷ (codes "DS", directive.Ds)
    ∷ (codes "EVEN", directive.Even)
    ∷ []

-- how many bytes a unit of DC and DS has; a word where the size is left out
abbrev pub unit_of : Option SizeLetter → Option ℕ
unit_of None = Some 2
unit_of (Some letter.Byte) = Some 1
unit_of (Some letter.Short) = None
unit_of (Some letter.Word) = Some 2
unit_of (Some letter.Long) = Some 4

-- an operand that is `e` alone
abbrev pub plain_of : Operand Sum → Option Sum
plain_of (operand.Mode (mode.Absolute e None)) = Some e
plain_of _ = None

-- the one operand, which is `e` alone
abbrev pub only_of : List (Operand Sum) → Option Sum
only_of (one ∷ []) = plain_of one
only_of _ = None
