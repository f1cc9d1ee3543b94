-- What parts of the reading code give. No definition of the grammar stands on these.
use Rattle.std.specs.Prelude.{ℕ, Bool, true, false, nat_le, if◌then◌else◌, List, [], ◌∷◌, ◌++◌, Option, Some, None}
use Rattle.std.specs.Prelude.{option_map}
use Rattle.mb_syntax.specs.declared.word.Word.{Word}
use Rattle.mb_syntax.specs.declared.word.Word.TheVariants as word
use Rattle.mb_syntax.specs.declared.expression.SignedTerm.{SignedTerm}
use Rattle.mb_syntax.specs.declared.operand.Operand.{Operand}
use Rattle.mb_syntax.specs.Modes.{Sum, with_rest}
use Rattle.mb_syntax.specs.Operands.{range}
use Rattle.mb_syntax.specs.Sums.{signed, term_of}

-- a term, and what stands behind it
abbrev pub signed_at : Bool → List Word → Option (SignedTerm × List Word)
signed_at negative [] = None
signed_at negative (next ∷ words) = option_map (λ term. (signed negative term, words)) (term_of next)

-- the next term, where `+` or `-` stands
abbrev pub next_term : List Word → Option (Option (SignedTerm × List Word))
next_term (word.Plus ∷ words) = option_map Some (signed_at false words)
next_term (word.Minus ∷ words) = option_map Some (signed_at true words)
next_term _ = Some None

-- a number, where it has 32 bits at most
abbrev pub narrow_number : ℕ → Option ℕ
narrow_number n = if nat_le n 4294967295 then Some n else None

-- what stands behind `/`
abbrev pub slash_at : List Word → Option (List Word)
slash_at (word.Slash ∷ words) = Some words
slash_at _ = None

-- a range or a register, and what stands behind it
abbrev pub range_at : List Word → Option (ℕ × List Word)
range_at (word.Register first _ ∷ word.Minus ∷ word.Register last _ ∷ words) =
    option_map (with_rest words) (range first last)
range_at (word.Register only _ ∷ words) = option_map (with_rest words) (range only only)
range_at _ = None

-- operands before others
abbrev pub with_front : List (Operand Sum) → Option (List (Operand Sum)) → Option (List (Operand Sum))
with_front front later = option_map (λ others. front ++ others) later
