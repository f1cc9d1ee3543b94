-- What `lex` answers, seen as the cut of a line.
use Rattle.std.specs.Prelude.{◌≡◌, List, ℕ, Result, Ok, Err}
use Rattle.mb_asm_text.specs.declared.fault.LexFault.{LexFault}
use Rattle.mb_asm_text.specs.declared.fault.LexFault.TheVariants.{Memory, At}
use Rattle.mb_asm_text.specs.declared.token.Token.{Token}
use Rattle.mb_asm_text.specs.Cut.{IsCut}

-- the fault tells this cut, unless memory ran out
abbrev pub FaultTells : LexFault → Result (List Token) ℕ → Type 0
FaultTells Memory cut = Unit {0}
FaultTells (At place) cut = cut ≡ Err place

-- the answer tells this cut, unless memory ran out
abbrev pub Tells : Result (List Token) LexFault → Result (List Token) ℕ → Type 0
Tells (Ok tokens) cut = cut ≡ Ok tokens
Tells (Err fault) cut = FaultTells fault cut

abbrev pub IsFault : List ℕ → LexFault → Type 0
IsFault line Memory = Unit {0}
IsFault line (At place) = IsCut line (Err place)

-- the answer is the cut of the line, unless memory ran out
abbrev pub IsAnswer : List ℕ → Result (List Token) LexFault → Type 0
IsAnswer line (Ok tokens) = IsCut line (Ok tokens)
IsAnswer line (Err fault) = IsFault line fault
