-- The cut of a line, token by token.
use Rattle.std.specs.Prelude.{ℕ, zero, suc, ◌+◌, ◌==◌, Bool, if◌then◌else◌, List, [], ◌∷◌, ◌++◌, length, drop}
use Rattle.std.specs.Prelude.{Option, Some, None, Result, Ok, Err}
use Rattle.std.specs.List.{prefix_len}
use Rattle.mb_asm_text.specs.declared.token.Token.{Token}
use Rattle.mb_asm_text.specs.declared.token.TokenKind.{TokenKind}
use Rattle.mb_asm_text.specs.declared.token.TokenKind.TheVariants.{Name, Number, Mark, Blank, Comment}
use Rattle.mb_asm_text.specs.Kinds.{is_apostrophe, is_binary_digit, is_blank, is_digit, is_dollar}
use Rattle.mb_asm_text.specs.Kinds.{is_hexadecimal_digit, is_mark, is_name_part, is_name_start, is_percent}
use Rattle.mb_asm_text.specs.Kinds.{is_quotation_mark, starts_comment}
use Rattle.mb_asm_text.specs.Front.{digits_found, character_found, text_found}

-- the kind and the length of the longest token at the front, where `first` is whether it stands in column 1
abbrev pub front_found : Bool → List ℕ → Option (TokenKind × ℕ)
front_found first [] = None
front_found first (byte ∷ bytes) =
    if starts_comment first byte then Some (Comment, 1 + length bytes)
    else if is_mark byte then Some (Mark, 1)
    else if is_name_start byte then Some (Name, 1 + prefix_len is_name_part bytes)
    else if is_digit byte then Some (Number, 1 + prefix_len is_digit bytes)
    else if is_blank byte then Some (Blank, 1 + prefix_len is_blank bytes)
    else if is_dollar byte then digits_found (prefix_len is_hexadecimal_digit bytes)
    else if is_percent byte then digits_found (prefix_len is_binary_digit bytes)
    else if is_apostrophe byte then character_found bytes
    else if is_quotation_mark byte then text_found bytes
    else None

-- goes on behind what is found at a place
abbrev pub cut_behind :
    ℕ → List Token → (ℕ → List Token → Result (List Token) ℕ) → Option (TokenKind × ℕ) → Result (List Token) ℕ
cut_behind place tokens on (Some (kind, len)) =
    on (place + len) (tokens ++ record { kind = kind; start = place; end = place + len } ∷ [])
cut_behind place tokens on None = Err place

-- goes on with at most so many tokens behind those before a place
abbrev pub cut_from : ℕ → List ℕ → ℕ → List Token → Result (List Token) ℕ
cut_from zero line place tokens = Ok tokens
cut_from (suc most) line place tokens =
    if place == length line then Ok tokens
    else cut_behind place tokens (cut_from most line) (front_found (place == 0) (drop place line))

-- The one cut of a line, as the law says. A line has no more tokens than bytes.
abbrev pub cut_of : List ℕ → Result (List Token) ℕ
cut_of line = cut_from (length line) line 0 []
