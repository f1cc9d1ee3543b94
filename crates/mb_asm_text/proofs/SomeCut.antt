-- Every line has a cut.
use Rattle.std.proofs.Common.{◌≡◌, ◌≢◌, ℕ, zero, suc, ◌+◌, ◌-◌, ◌≤◌, ◌<◌, Bool, true, false, List, [], ◌∷◌, ◌++◌, length, take, drop, get_or, refl, sym, arith, subst}
use Rattle.std.specs.Prelude.{◌==◌, if◌then◌else◌, Result, Ok, Option, Some, None}
use Rattle.std.specs.List.{prefix_len}
use Rattle.std.proofs.lemmas.Bool.{eqb-true, eqb-false}
use Rattle.mb_asm_text.specs.declared.token.Token.{Token}
use Rattle.mb_asm_text.specs.declared.token.TokenKind.{TokenKind}
use Rattle.mb_asm_text.specs.declared.token.TokenKind.TheVariants.{Name, Number, Mark, Blank, Comment}
use Rattle.mb_asm_text.specs.Kinds.{is_binary_digit, is_blank, is_digit, is_hexadecimal_digit, is_mark, is_name_part, is_name_start, starts_comment}
use Rattle.mb_asm_text.specs.Cut.{Cuts, IsCut, IsLongest}
use Rattle.mb_asm_text.specs.Front.{Finds, digits_found, character_found, text_found}
use Rattle.mb_asm_text.specs.Cutting.{front_found, cut_behind, cut_from, cut_of}
use Rattle.mb_asm_text.proofs.Fronts.{comment_found, mark_found, name_found, digit_found, blank_found, hexadecimal_found, binary_found, character_at, text_at, none_at}
use Rattle.mb_asm_text.proofs.Places.{left_at, token_found, token_some, none_begins}
use Rattle.mb_asm_text.proofs.Cuts.{cut_pushed}

-- what is found by the first byte's tests
abbrev found_by : List ℕ → Bool → Bool → Bool → Bool → Bool → Bool → Bool → Bool → Bool → Option (TokenKind × ℕ)
found_by bytes comment mark name digit blank dollar percent apostrophe quote =
    if comment then Some (Comment, 1 + length bytes)
    else if mark then Some (Mark, 1)
    else if name then Some (Name, 1 + prefix_len is_name_part bytes)
    else if digit then Some (Number, 1 + prefix_len is_digit bytes)
    else if blank then Some (Blank, 1 + prefix_len is_blank bytes)
    else if dollar then digits_found (prefix_len is_hexadecimal_digit bytes)
    else if percent then digits_found (prefix_len is_binary_digit bytes)
    else if apostrophe then character_found bytes
    else if quote then text_found bytes
    else None

finds_by : (first : Bool) (byte : ℕ) (bytes : List ℕ) (comment mark name digit blank dollar percent apostrophe quote : Bool)
    → starts_comment first byte ≡ comment → is_mark byte ≡ mark → is_name_start byte ≡ name → is_digit byte ≡ digit → is_blank byte ≡ blank
    → (byte == 36) ≡ dollar → (byte == 37) ≡ percent → (byte == 39) ≡ apostrophe → (byte == 34) ≡ quote
    → Finds first (byte ∷ bytes) (found_by bytes comment mark name digit blank dollar percent apostrophe quote)
finds_by first byte bytes true mark name digit blank dollar percent apostrophe quote a b c d e f g h i = comment_found first byte bytes a
finds_by first byte bytes false true name digit blank dollar percent apostrophe quote a b c d e f g h i = mark_found first byte bytes a b
finds_by first byte bytes false false true digit blank dollar percent apostrophe quote a b c d e f g h i = name_found first byte bytes a b c
finds_by first byte bytes false false false true blank dollar percent apostrophe quote a b c d e f g h i = digit_found first byte bytes a b c d
finds_by first byte bytes false false false false true dollar percent apostrophe quote a b c d e f g h i = blank_found first byte bytes a b c d e
finds_by first byte bytes false false false false false true percent apostrophe quote a b c d e f g h i =
    let same : byte ≡ 36 = eqb-true byte 36 f in
    subst (λ (n : ℕ). Finds first (n ∷ bytes) (digits_found (prefix_len is_hexadecimal_digit bytes))) (sym same)
    (hexadecimal_found first bytes (rw same at a))
finds_by first byte bytes false false false false false false true apostrophe quote a b c d e f g h i =
    let same : byte ≡ 37 = eqb-true byte 37 g in
    subst (λ (n : ℕ). Finds first (n ∷ bytes) (digits_found (prefix_len is_binary_digit bytes))) (sym same)
    (binary_found first bytes (rw same at a))
finds_by first byte bytes false false false false false false false true quote a b c d e f g h i =
    let same : byte ≡ 39 = eqb-true byte 39 h in
    subst (λ (n : ℕ). Finds first (n ∷ bytes) (character_found bytes)) (sym same) (character_at first bytes (rw same at a))
finds_by first byte bytes false false false false false false false false true a b c d e f g h i =
    let same : byte ≡ 34 = eqb-true byte 34 i in
    subst (λ (n : ℕ). Finds first (n ∷ bytes) (text_found bytes)) (sym same) (text_at first bytes (rw same at a))
finds_by first byte bytes false false false false false false false false false a b c d e f g h i =
    none_at first byte bytes a b c d e (eqb-false byte 36 f) (eqb-false byte 37 g) (eqb-false byte 39 h) (eqb-false byte 34 i)

-- the longest token at a place, or that there is none
finds_at : (line : List ℕ) (start : ℕ) → start < length line → Finds (start == 0) (drop start line) (front_found (start == 0) (drop start line))
finds_at line start below =
    let byte = get_or line start 0 in
    subst (λ (rest : List ℕ). Finds (start == 0) rest (front_found (start == 0) rest)) (left_at line start below)
    (finds_by (start == 0) byte (take (length line - (start + 1)) (drop (start + 1) line)) (starts_comment (start == 0) byte) (is_mark byte)
    (is_name_start byte) (is_digit byte) (is_blank byte)
    (byte == 36) (byte == 37) (byte == 39) (byte == 34) refl refl refl refl refl refl refl refl refl)

-- a cut up to a place goes on to one of the whole line
abbrev GoesOn : ℕ → List ℕ → (ℕ → List Token → Result (List Token) ℕ) → Type 0
GoesOn fuel line on = (place : ℕ) (tokens : List Token) → length line ≤ place + fuel → place ≤ length line → Cuts line 0 tokens place
    → IsCut line (on place tokens)

with_found : (fuel : ℕ) (line : List ℕ) (on : ℕ → List Token → Result (List Token) ℕ) (place : ℕ) (tokens : List Token) → length line ≤ place + suc fuel
    → place < length line → Cuts line 0 tokens place → (found : Option (TokenKind × ℕ)) → Finds (place == 0) (drop place line) found
    → GoesOn fuel line on → IsCut line (cut_behind place tokens on found)
with_found fuel line on place tokens room below cut (Some (kind, len)) finds goes =
    let token : Token = record { kind = kind; start = place; end = place + len } in
    let longest : IsLongest line token = token_found line kind place len below finds in
    goes (place + len) (tokens ++ token ∷ []) (omega (arith, token_some line token longest.here)) longest.here.inside
    (cut_pushed line 0 tokens place token cut refl longest)
with_found fuel line on place tokens room below cut None finds goes = (below, none_begins line place finds, (tokens, cut))

at_place : (fuel : ℕ) (line : List ℕ) (on : ℕ → List Token → Result (List Token) ℕ) (place : ℕ) (tokens : List Token) → length line ≤ place + suc fuel
    → place ≤ length line → Cuts line 0 tokens place → (ends : Bool) → (place == length line) ≡ ends → GoesOn fuel line on
    → IsCut line (if ends then Ok tokens else cut_behind place tokens on (front_found (place == 0) (drop place line)))
at_place fuel line on place tokens room inside cut true e goes = subst (λ (n : ℕ). Cuts line 0 tokens n) (eqb-true place (length line) e) cut
at_place fuel line on place tokens room inside cut false e goes =
    let other : place ≢ length line = eqb-false place (length line) e in
    let below : place < length line = omega arith in
    with_found fuel line on place tokens room below cut (front_found (place == 0) (drop place line)) (finds_at line place below) goes

goes_on : (fuel : ℕ) (line : List ℕ) → GoesOn fuel line (cut_from fuel line)
goes_on zero line place tokens room inside cut =
    let end : place ≡ length line = omega arith in
    subst (λ (n : ℕ). Cuts line 0 tokens n) end cut
goes_on (suc fuel) line place tokens room inside cut =
    at_place fuel line (cut_from fuel line) place tokens room inside cut (place == length line) refl
    (λ end more left within c. goes_on fuel line end more left within c)

-- every line has a cut
pub some_cut : (line : List ℕ) → IsCut line (cut_of line)
some_cut line = goes_on (length line) line 0 [] (omega arith) (omega arith) refl
