-- The forms of tokens by their first byte.
use Rattle.std.proofs.Common.{ℕ, Bool, true, false, List, [], ◌∷◌, refl, ◌⊎◌, inl, inr}
use Rattle.std.specs.Prelude.{IsTrue, ◌==◌, not, ◌&&◌, ◌||◌}
use Rattle.std.specs.List.{list_all}
use Rattle.mb_asm_text.proofs.Runs.{both}
use Rattle.mb_asm_text.specs.declared.token.TokenKind.{TokenKind}
use Rattle.mb_asm_text.specs.declared.token.TokenKind.TheVariants.{Name, Number, Text, Mark, Blank, Comment}
use Rattle.mb_asm_text.specs.Kinds.{Where, begins, is_any, is_binary_digit, is_blank, is_closed, is_digit, is_empty, is_hexadecimal_digit, is_mark, is_name_part, is_name_start, is_apostrophe, is_quoted_character, is_any, starts_comment, is_run, is_token}

pub either : (a b : Bool) → IsTrue (a || b) → IsTrue a ⊎ IsTrue b
either true b h = inl refl
either false b h = inr h

-- What a token is that begins with the byte, where the bytes follow.
pub data Shape (first : Bool) (byte : ℕ) (bytes : List ℕ) : Type 0 where
  Named : IsTrue (is_name_start byte) → IsTrue (list_all is_name_part bytes) → Shape first byte bytes
  Decimal : IsTrue (is_digit byte) → IsTrue (list_all is_digit bytes) → Shape first byte bytes
  Hexadecimal : IsTrue (byte == 36) → IsTrue (is_run is_hexadecimal_digit bytes) → Shape first byte bytes
  Binary : IsTrue (byte == 37) → IsTrue (is_run is_binary_digit bytes) → Shape first byte bytes
  Character : IsTrue (is_apostrophe byte) → IsTrue (is_quoted_character bytes) → Shape first byte bytes
  Quoted : IsTrue (byte == 34) → IsTrue (is_closed bytes) → Shape first byte bytes
  Marked : IsTrue (is_mark byte) → IsTrue (not (starts_comment first byte)) → IsTrue (is_empty bytes) → Shape first byte bytes
  Blanks : IsTrue (is_blank byte) → IsTrue (list_all is_blank bytes) → Shape first byte bytes
  Commented : IsTrue (starts_comment first byte) → Shape first byte bytes

number_shape : (place : Where) (byte : ℕ) (bytes : List ℕ) → IsTrue (is_token Number place (byte ∷ bytes)) → Shape place.first byte bytes
number_shape place byte bytes h =
    let decimal = is_run is_digit (byte ∷ bytes) in
    let hexadecimal = begins (λ (b : ℕ). b == 36) (is_run is_hexadecimal_digit) (byte ∷ bytes) in
    let binary = begins (λ (b : ℕ). b == 37) (is_run is_binary_digit) (byte ∷ bytes) in
    let character = begins is_apostrophe is_quoted_character (byte ∷ bytes) in
    elim (either ((decimal || hexadecimal) || binary) character h) [
      | inr k ↦ let parts = both (is_apostrophe byte) (is_quoted_character bytes) k in Character parts.0 parts.1
      | inl i ↦ elim (either (decimal || hexadecimal) binary i) [
        | inr k ↦ let parts = both (byte == 37) (is_run is_binary_digit bytes) k in Binary parts.0 parts.1
        | inl j ↦ elim (either decimal hexadecimal j) [
          | inr k ↦ let parts = both (byte == 36) (is_run is_hexadecimal_digit bytes) k in Hexadecimal parts.0 parts.1
          | inl k ↦ let parts = both (is_digit byte) (list_all is_digit bytes) k in Decimal parts.0 parts.1
        ]
      ]
    ]

pub shape : (kind : TokenKind) (place : Where) (byte : ℕ) (bytes : List ℕ) → IsTrue (is_token kind place (byte ∷ bytes)) → Shape place.first byte bytes
shape Name place byte bytes h = let parts = both (is_name_start byte) (list_all is_name_part bytes) h in Named parts.0 parts.1
shape Number place byte bytes h = number_shape place byte bytes h
shape Text place byte bytes h = let parts = both (byte == 34) (is_closed bytes) h in Quoted parts.0 parts.1
shape Mark place byte bytes h =
    let parts = both (is_mark byte && not (starts_comment place.first byte)) (is_empty bytes) h in
    let one = both (is_mark byte) (not (starts_comment place.first byte)) parts.0 in
    Marked one.0 one.1 parts.1
shape Blank place byte bytes h = let parts = both (is_blank byte) (list_all is_blank bytes) h in Blanks parts.0 parts.1
shape Comment place byte bytes h =
    let parts = both (starts_comment place.first byte && is_any bytes) place.last h in
    Commented (both (starts_comment place.first byte) (is_any bytes) parts.0).0

-- no bytes are no token
pub none_empty : (kind : TokenKind) (place : Where) → IsTrue (is_token kind place []) → ⊥
none_empty Name place h = absurd cc
none_empty Number place h = absurd cc
none_empty Text place h = absurd cc
none_empty Mark place h = absurd cc
none_empty Blank place h = absurd cc
none_empty Comment place h = absurd cc
