-- The tokens at the front of what is left of a line.
use Rattle.std.specs.Prelude.{ℕ, ◌+◌, ◌==◌, ◌≤◌, IsTrue, Bool, ◌&&◌, if◌then◌else◌, nat_lt, List, ◌∷◌, length, take, slice_index, Option, Some, None}
use Rattle.std.specs.List.{prefix_len}
use Rattle.mb_asm_text.specs.declared.token.TokenKind.{TokenKind}
use Rattle.mb_asm_text.specs.declared.token.TokenKind.TheVariants.{Number, Text}
use Rattle.mb_asm_text.specs.Kinds.{is_apostrophe, is_printable, is_quotation_mark, is_quotable, is_token}

-- The first bytes, so many, are a token of the kind. `whole` is whether nothing of the line stands before them.
pub record IsFront (whole : Bool) (rest : List ℕ) (kind : TokenKind) (len : ℕ) : Type 0 where
  pub inside : len ≤ length rest
  pub spelled : IsTrue (is_token kind (record { first = whole; last = len == length rest }) (take len rest))

-- no longer front is a token
pub record IsLongestFront (whole : Bool) (rest : List ℕ) (kind : TokenKind) (len : ℕ) : Type 0 where
  pub front : IsFront whole rest kind len
  pub longest : (other : TokenKind) (more : ℕ) → IsFront whole rest other more → more ≤ len

abbrev pub HasNoFront : Bool → List ℕ → Type 0
HasNoFront whole rest = (kind : TokenKind) (len : ℕ) → IsFront whole rest kind len → ⊥

-- what is found at the front: the longest token, or that there is none
abbrev pub Finds : Bool → List ℕ → Option (TokenKind × ℕ) → Type 0
Finds whole rest (Some (kind, len)) = IsLongestFront whole rest kind len
Finds whole rest None = HasNoFront whole rest

-- a number of so many digits behind its first byte
abbrev pub digits_found : ℕ → Option (TokenKind × ℕ)
digits_found digits = if digits == 0 then None else Some (Number, 1 + digits)

-- the number whose first apostrophe stands before the bytes
abbrev pub character_found : List ℕ → Option (TokenKind × ℕ)
character_found (byte ∷ next ∷ _) = if is_printable byte && is_apostrophe next then Some (Number, 3) else None
character_found _ = None

-- the text whose first quotation mark stands before the bytes: up to the next one
abbrev pub text_found : List ℕ → Option (TokenKind × ℕ)
text_found behind =
    let len = prefix_len is_quotable behind in
    if nat_lt len (length behind) && is_quotation_mark (slice_index behind len) then Some (Text, 2 + len) else None
