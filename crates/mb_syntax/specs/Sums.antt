-- Expressions: terms joined by `+` and `-`, with one optional leading `-`.
use Rattle.std.specs.Prelude.{◌-◌, Bool, true, false, nat_le, if◌then◌else◌, List, [], ◌∷◌, ◌++◌, Option, Some, None}
use Rattle.std.specs.Prelude.{option_map}
use Rattle.mb_syntax.specs.declared.word.Name.{Name}
use Rattle.mb_syntax.specs.declared.word.Word.{Word}
use Rattle.mb_syntax.specs.declared.word.Word.TheVariants as word
use Rattle.mb_syntax.specs.declared.expression.Term.{Term}
use Rattle.mb_syntax.specs.declared.expression.Term.TheVariants as term
use Rattle.mb_syntax.specs.declared.expression.SignedTerm.{SignedTerm}

-- Blanks, which may stand around commas.

abbrev pub skip_blank : List Word → List Word
skip_blank (word.Blank ∷ words) = words
skip_blank words = words

abbrev pub behind_comma : List Word → Option (List Word)
behind_comma (word.Comma ∷ words) = Some (skip_blank words)
behind_comma _ = None

-- what stands behind a comma
abbrev pub comma_at : List Word → Option (List Word)
comma_at words = behind_comma (skip_blank words)

-- Symbols and terms.

-- at most 63 bytes long
abbrev pub short : Name → Option Name
short name = if nat_le (name.end - name.start) 63 then Some name else None

-- a name that is no register's
abbrev pub symbol_of : Word → Option Name
symbol_of (word.Name name) = short name
symbol_of (word.Letter _ name) = short name
symbol_of (word.Cache _ name) = short name
symbol_of _ = None

-- a number, `*`, or a symbol
abbrev pub term_of : Word → Option Term
term_of (word.Number n) = Some (term.Number n)
term_of word.WideNumber = Some term.WideNumber
term_of word.Star = Some term.Here
term_of other = option_map term.Symbol (symbol_of other)

-- Sums.

abbrev pub signed : Bool → Term → SignedTerm
signed negative term = record { is_negative = negative; term = term }

-- terms before others
abbrev pub with_front : List SignedTerm → Option (List SignedTerm × List Word) → Option (List SignedTerm × List Word)
with_front terms later = option_map (λ (others, behind). (terms ++ others, behind)) later

-- a term before others, where there is one
abbrev pub before : Bool → Option Term → Option (List SignedTerm × List Word) → Option (List SignedTerm × List Word)
before negative (Some term) later = with_front (signed negative term ∷ []) later
before negative None later = None

-- the terms behind the first, as long as `+` or `-` stands there, and what stands behind them
abbrev pub terms_at : List Word → Option (List SignedTerm × List Word)
terms_at (word.Plus ∷ []) = None
terms_at (word.Plus ∷ next ∷ words) = before false (term_of next) (terms_at words)
terms_at (word.Minus ∷ []) = None
terms_at (word.Minus ∷ next ∷ words) = before true (term_of next) (terms_at words)
terms_at words = Some ([], words)

-- an expression, and what stands behind it
abbrev pub expression_at : List Word → Option (List SignedTerm × List Word)
expression_at (word.Minus ∷ next ∷ words) = before true (term_of next) (terms_at words)
expression_at (next ∷ words) = before false (term_of next) (terms_at words)
expression_at [] = None
