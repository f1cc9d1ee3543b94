-- Register lists, range by range.
use Rattle.std.proofs.Common.{◌≡◌, ℕ, zero, suc, ◌-◌, ◌<◌, ◌≤◌, Bool, true, false, List, [], ◌∷◌, ◌++◌, refl, sym, ◌∙◌, ap, append_assoc, arith}
use Rattle.std.specs.Prelude.{Option, Some, None, option_map, bit_or}
use Rattle.mb_syntax.specs.Code.{range_at, slash_at, with_front}
use Rattle.mb_syntax.specs.declared.word.Word.{Word}
use Rattle.mb_syntax.specs.declared.word.Word.TheVariants as word
use Rattle.mb_syntax.specs.declared.operand.Operand.{Operand}
use Rattle.mb_syntax.specs.Options.{◌>>=◌}
use Rattle.mb_syntax.specs.Sums.{comma_at}
use Rattle.mb_syntax.specs.Modes.{Sum, with_rest}
use Rattle.mb_syntax.specs.Operands.{is_end, list_behind, operand_among, operands_of, range, with_operand}

-- what is read behind a range
abbrev pub behind_range : ℕ → ℕ × List Word → Option (ℕ × List Word)
behind_range mask (more, word.Slash ∷ words) = list_behind (bit_or mask more) words
behind_range mask (more, words) = Some (bit_or mask more, words)

more_follows : (mask : ℕ) (range : Option ℕ) (words : List Word)
    → (range >>= λ more. list_behind (bit_or mask more) words) ≡ (option_map (with_rest (word.Slash ∷ words)) range >>= behind_range mask)
more_follows mask None words = refl
more_follows mask (Some more) words = refl

ends_here : (mask : ℕ) (range : Option ℕ) (words : List Word) → ((more : ℕ) → Some (bit_or mask more, words) ≡ behind_range mask (more, words))
    → (range >>= λ more. Some (bit_or mask more, words)) ≡ (option_map (with_rest words) range >>= behind_range mask)
ends_here mask None words last = refl
ends_here mask (Some more) words last = last more

pub list_step : (mask : ℕ) (words : List Word) → list_behind mask words ≡ (range_at words >>= behind_range mask)
list_step mask (word.Register first a ∷ word.Minus ∷ word.Register last b ∷ word.Slash ∷ words) = more_follows mask (range first last) words
list_step mask (word.Register first a ∷ word.Minus ∷ word.Register last b ∷ []) = ends_here mask (range first last) [] (λ more. refl)
list_step mask (word.Register first a ∷ word.Minus ∷ word.Register last b ∷ next ∷ words) =
    ends_here mask (range first last) (next ∷ words) (λ more. refl)
list_step mask (word.Register only a ∷ word.Slash ∷ words) = more_follows mask (range only only) words
list_step mask (word.Register only a ∷ []) = ends_here mask (range only only) [] (λ more. refl)
list_step mask (word.Register only a ∷ word.Minus ∷ []) = ends_here mask (range only only) (word.Minus ∷ []) (λ more. refl)
list_step mask (word.Register only a ∷ next ∷ words) = ends_here mask (range only only) (next ∷ words) (λ more. refl)
list_step mask _ = refl

slashed : (mask more : ℕ) (rest later : List Word) → Some later ≡ slash_at rest → behind_range mask (more, rest) ≡ list_behind (bit_or mask more) later
slashed mask more [] later e = absurd cc
slashed mask more (word.Slash ∷ words) later e = let same : later ≡ words = cc in ap (list_behind (bit_or mask more)) (sym same)
slashed mask more (next ∷ words) later e = absurd cc

unslashed : (mask more : ℕ) (rest : List Word) → None ≡ slash_at rest → behind_range mask (more, rest) ≡ Some (bit_or mask more, rest)
unslashed mask more [] e = refl
unslashed mask more (word.Slash ∷ words) e = absurd cc
unslashed mask more (next ∷ words) e = refl

-- a range, and more behind a `/`
pub list_more : (mask more : ℕ) (words rest later : List Word) → Some (more, rest) ≡ range_at words → Some later ≡ slash_at rest
    → list_behind (bit_or mask more) later ≡ list_behind mask words
list_more mask more words rest later found slash =
    sym (list_step mask words ∙ ap (λ (x : Option (ℕ × List Word)). x >>= behind_range mask) (sym found) ∙ slashed mask more rest later slash)

-- the last range
pub list_ends : (mask more : ℕ) (words rest : List Word) → Some (more, rest) ≡ range_at words → None ≡ slash_at rest
    → Some (bit_or mask more, rest) ≡ list_behind mask words
list_ends mask more words rest found slash =
    sym (list_step mask words ∙ ap (λ (x : Option (ℕ × List Word)). x >>= behind_range mask) (sym found) ∙ unslashed mask more rest slash)

pub list_fails : (mask : ℕ) (words : List Word) → None ≡ range_at words → None ≡ list_behind mask words
list_fails mask words none = sym (list_step mask words ∙ ap (λ (x : Option (ℕ × List Word)). x >>= behind_range mask) (sym none))

-- Operands, one by one.

fronts : (front : List (Operand Sum)) (operand : Operand Sum) (later : Option (List (Operand Sum)))
    → with_front (front ++ operand ∷ []) later ≡ with_front front (with_operand operand later)
fronts front operand None = refl
fronts front operand (Some more) = ap (λ (all : List (Operand Sum)). Some all) (append_assoc front (operand ∷ []) more)

-- another operand, and more behind a comma
pub more_operands : (front : List (Operand Sum)) (most : ℕ) (caches : Bool) (words rest place : List Word) (operand : Operand Sum) → 0 < most
    → operand_among caches words ≡ Some (operand, rest) → is_end rest ≡ false → Some place ≡ comma_at rest
    → with_front (front ++ operand ∷ []) (operands_of (most - 1) caches place) ≡ with_front front (operands_of most caches words)
more_operands front zero caches words rest place operand some found more comma = absurd (omega arith)
more_operands front (suc most) caches words rest place operand some found more comma =
    let less : suc most - 1 ≡ most = omega arith in
    rw (less, found, more, ← comma) (fronts front operand (operands_of most caches place))

pub last_operand : (front : List (Operand Sum)) (most : ℕ) (caches : Bool) (words rest : List Word) (operand : Operand Sum) → 0 < most
    → operand_among caches words ≡ Some (operand, rest) → is_end rest ≡ true
    → with_front front (operands_of most caches words) ≡ Some (front ++ operand ∷ [])
last_operand front zero caches words rest operand some found last = absurd (omega arith)
last_operand front (suc most) caches words rest operand some found last = rw (found, last) refl

pub no_operand : (front : List (Operand Sum)) (most : ℕ) (caches : Bool) (words : List Word) → operand_among caches words ≡ None
    → with_front front (operands_of most caches words) ≡ None
no_operand front zero caches words none = refl
no_operand front (suc most) caches words none = rw none refl

pub no_comma : (front : List (Operand Sum)) (most : ℕ) (caches : Bool) (words rest : List Word) (operand : Operand Sum)
    → operand_among caches words ≡ Some (operand, rest) → is_end rest ≡ false → None ≡ comma_at rest
    → with_front front (operands_of most caches words) ≡ None
no_comma front zero caches words rest operand found more none = refl
no_comma front (suc most) caches words rest operand found more none = rw (found, more, ← none) refl

pub none_left : (front : List (Operand Sum)) (most : ℕ) (caches : Bool) (words : List Word) → most ≤ 0
    → with_front front (operands_of most caches words) ≡ None
none_left front zero caches words past = refl
none_left front (suc most) caches words past = absurd (omega arith)
